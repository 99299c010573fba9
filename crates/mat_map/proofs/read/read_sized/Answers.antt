-- `read::read_sized`: 14, 5, and then the counts' own outcome. Assumes nothing.
use Rattle.std.proofs.Common.{arith, refl}
use Rattle.mat_map.specs.Step.Map.{bits-few, call-size, call-room, call-read}
use Rattle.mat_map.proofs.read.read_sized.Goals as goal

pub returns-in_default : goal.returns-in_default
returns-in_default c =
    call-size c.args.group c.args.total c.args.bytes.now c.args.counts.now 0 c.in_default.ensures.bits refl _ refl

pub returns-then-counts-lt-COUNT_BYTES : goal.returns-then-counts-lt-COUNT_BYTES
returns-then-counts-lt-COUNT_BYTES c =
    call-room c.args.group c.args.total c.args.bytes.now c.args.counts.now c.in-Some.k c.in-Some.ensures.bits
    (λ z. absurd (omega (arith, c.in-Some.ensures.least, z))) c.if-counts-lt-COUNT_BYTES.true _ refl

pub read_counts-requires-clause-k_bound : goal.read_counts-requires-clause-k_bound
read_counts-requires-clause-k_bound c =
    bits-few c.args.group c.args.total c.args.bytes.now c.args.counts.now c.in-Some.k c.in-Some.ensures.bits

pub returns : goal.returns
returns c =
    call-read c.args.group c.args.total c.args.bytes.now c.args.counts.now c.in-Some.k c.in-Some.ensures.bits
    (λ z. absurd (omega (arith, c.in-Some.ensures.least, z))) c.if-counts-lt-COUNT_BYTES.false _ c.read_counts.ensures
