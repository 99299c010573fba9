-- `fits_to_sheet::header::fill_header` meets its contract. The loop's invariant: END stands in none of the blocks that were read.
-- Assumes nothing.
use Prim.Native.Nat.{◌*◌, ◌≤◌}
use mathlib.Core.Path.{◌≡◌}
use mathlib.Core.Bool.{false}
use lib.ListN.{take}
use Rattle.fits_format.specs.Header.{header_cards, stands}
use Rattle.fits_to_sheet.proofs.header.fill_header.Given as goal

abbrev pub invariant-loop-blocks : goal.invariant-loop-blocks
invariant-loop-blocks l = (l.blocks ≤ 10) × (stands "END     " (header_cards (take (2880 * l.blocks) l.bytes)) ≡ false)
