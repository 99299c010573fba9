use native.Mathlib.Omega.{arith}
use mathlib.Core.Path.{◌≡◌}
use Rattle.fits_to_sheet.specs.Scan.Header.{end-in-none, held-block, held-ten}
use Rattle.fits_to_sheet.proofs.header.fill_header.Goals as goal

pub loop-blocks-init : goal.loop-blocks-init
loop-blocks-init c = (omega arith, end-in-none)

pub returns-then-count-lt-BLOCK_BYTES-clause-held : goal.returns-then-count-lt-BLOCK_BYTES-clause-held
returns-then-count-lt-BLOCK_BYTES-clause-held c = held-block c.loop-blocks.blocks c.in-Ok.count _ c.loop-blocks.bytes c.fill.new.bytes
    (omega arith) (omega arith) (omega arith) c.loop-blocks.invariant.1

pub returns-in-Err-clause-held_unread : goal.returns-in-Err-clause-held_unread
returns-in-Err-clause-held_unread c = held-block c.loop-blocks.blocks c.in-Err.unread.count _ c.loop-blocks.bytes c.fill.new.bytes
    (omega arith) (omega (arith, c.in-Err.ensures.err)) (omega arith) c.loop-blocks.invariant.1

pub returns-then-has_end-clause-held : goal.returns-then-has_end-clause-held
returns-then-has_end-clause-held c = held-block c.loop-blocks.blocks 2880 _ c.loop-blocks.bytes c.fill.new.bytes
    (omega arith) (omega arith) (omega arith) c.loop-blocks.invariant.1

pub returns-clause-held : goal.returns-clause-held
returns-clause-held c =
    let ten : c.loop-blocks.blocks ≡ 10 = omega arith in
    held-ten c.loop-blocks.bytes (rw ten at c.loop-blocks.invariant.1)
