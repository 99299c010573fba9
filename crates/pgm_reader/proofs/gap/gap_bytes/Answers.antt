-- `pgm_reader::gap::gap_bytes` meets its contract: separators counted byte by byte. Assumes nothing.
use Rattle.std.proofs.Common.{arith, sym, ◌∙◌}
use Rattle.pgm_format.specs.Header.Laws.{gap_more, gap-end, gap-none}
use Rattle.pgm_reader.proofs.gap.gap_bytes.Goals as goal

pub loop-i-preserved : goal.loop-i-preserved
loop-i-preserved c =
    let on = sym c.separates_at.ensures ∙ c.if-not-separates_at.false in
    let more = gap_more c.args.s.now c.loop-i.i c.loop-i.comment (omega arith) on in
    rw c.comments_after-comment.ensures (omega (arith, more, c.loop-i.invariant))

pub returns-then-not-separates_at-clause-gap : goal.returns-then-not-separates_at-clause-gap
returns-then-not-separates_at-clause-gap c =
    let none = gap-end c.args.s.now c.loop-i.i c.loop-i.comment (omega arith) (sym c.separates_at.ensures ∙ c.if-not-separates_at.true) in
    omega (arith, none, c.loop-i.invariant)

pub returns-clause-gap : goal.returns-clause-gap
returns-clause-gap c =
    let none = gap-none c.args.s.now c.loop-i.i c.loop-i.comment (omega arith) (omega arith) in
    omega (arith, none, c.loop-i.invariant)
