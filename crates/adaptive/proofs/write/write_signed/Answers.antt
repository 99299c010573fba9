-- `adaptive::write::write_signed` meets its contract. Assumes nothing.
use mathlib.Core.Path.{◌≡◌, ◌∙◌, ap}
use lib.Signed.{mag}
use Rattle.adaptive.specs.Number.{signed_type, twos, later_bytes, fewest}
use Rattle.adaptive.specs.Number.Read.{data_bytes-shortest}
use Rattle.adaptive.specs.Number.Laws.{later_bytes-le}
use Rattle.adaptive.specs.Calls.{written, signed_written}
use Rattle.adaptive.proofs.sign.Laws.{passed}
use Rattle.adaptive.proofs.write.write_signed.Goals as goal

pub write_bytes-requires : goal.write_bytes-requires
write_bytes-requires c = rw c.later_bytes-k.ensures (later_bytes-le 4 _ _)

pub returns : goal.returns
unfolding signed_written
returns c = let few : c.later_bytes-k.result ≡ fewest signed_type c.args.value =
    c.later_bytes-k.ensures ∙ ap (later_bytes 4 64) (passed mag c.ranges.value c.magnitude.ensures) in
    (rw c.into.ensures c.write_bytes.ensures)
    ∙ ap (λ b. written b c.args.out.now)
    (data_bytes-shortest signed_type c.args.value few (passed twos c.ranges.value c.data_bits.ensures))
