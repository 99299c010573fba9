-- `map_text::counts::take_block` meets its contract: byte by byte. Assumes nothing.
use Rattle.std.proofs.Common.{arith, ◌<◌, refl, ap, ◌∙◌, ◌++◌, append-nil, append_assoc, length, take, get_or, take_all}
use Rattle.map_text.specs.Scan.{scan_after, counted_by, counts_from}
use Rattle.map_text.specs.Scan.Laws.{scan-more, counts-more}
use Rattle.map_text.proofs.counts.take_block.Goals as goal

pub loop-b-init : goal.loop-b-init
unfolding scan_after counts_from
loop-b-init c = (refl, refl, λ xs held. rw (append-nil xs) held)

pub loop-b-preserved : goal.loop-b-preserved
loop-b-preserved c =
    let i = c.loop-b.b-index in
    let inside : i < length c.args.block.now = omega arith in
    let xs₀ = counts_from c.args.taken.scan (take i c.args.block.now) in
    let ended = counted_by (scan_after c.args.taken.scan (take i c.args.block.now)) (get_or c.args.block.now i 0) in (
      omega arith,
      c.take_byte-at.ensures.scan ∙ rw (c.loop-b.invariant.1, scan-more c.args.taken.scan c.args.block.now i inside),
      λ xs held.
          rw (counts-more c.args.taken.scan c.args.block.now i inside, ← append_assoc xs xs₀ ended)
          (rw c.loop-b.invariant.1 at (c.take_byte-at.ensures.held (xs ++ xs₀) (c.loop-b.invariant.2 xs held))),
    )

pub returns : goal.returns
returns c =
    let all = take_all c.loop-b.b-index c.args.block.now (omega arith) in
    record { scan = c.loop-b.invariant.1 ∙ ap (scan_after c.args.taken.scan) all; held = λ xs held. rw all at (c.loop-b.invariant.2 xs held) }
