-- `mat_map::write::write_counts` meets its contract: the two refusals 14, or what the counts of a map come to. Assumes nothing.
use Rattle.std.proofs.Common.{arith, sym}
use Rattle.mat_map.specs.Size.Laws.{size-most}
use Rattle.mat_map.proofs.write.Laws.{written-size, written-counts, written-sized}
use Rattle.mat_map.proofs.write.write_counts.Goals as goal

pub returns-in_default : goal.returns-in_default
returns-in_default c = written-size c.args.group c.args.counts.now c.args.out.now (sym c.in_default.ensures.bits)

pub returns-then-counts-ne-MAP_COUNTS : goal.returns-then-counts-ne-MAP_COUNTS
returns-then-counts-ne-MAP_COUNTS c =
    written-counts c.args.group c.args.counts.now c.args.out.now
    (λ z. absurd (omega (arith, c.in-Some.ensures.least, c.in-Some.ensures.bits, z))) c.if-counts-ne-MAP_COUNTS.true

pub write_sized-requires-clause-k_bound : goal.write_sized-requires-clause-k_bound
write_sized-requires-clause-k_bound c = omega (arith, c.in-Some.ensures.bits, size-most c.args.group)

pub returns : goal.returns
returns c =
    written-sized c.args.group c.args.counts.now c.args.out.now
    (λ z. absurd (omega (arith, c.in-Some.ensures.least, c.in-Some.ensures.bits, z))) c.in-Some.ensures.bits c.if-counts-ne-MAP_COUNTS.false
    c.write_sized.ensures
