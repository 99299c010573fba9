-- `adaptive::write::write_unsigned` meets its contract. Assumes nothing.
use mathlib.Core.Path.{◌∙◌, ap, refl}
use Rattle.adaptive.specs.Number.{unsigned_type}
use Rattle.adaptive.specs.Number.Laws.{later_bytes-le}
use Rattle.adaptive.specs.Number.Read.{data_bytes-shortest}
use Rattle.adaptive.specs.Calls.{written, unsigned_written}
use Rattle.adaptive.proofs.write.write_unsigned.Goals as goal

pub write_bytes-requires : goal.write_bytes-requires
write_bytes-requires c = rw c.later_bytes-k.ensures (later_bytes-le 4 _ _)

pub returns : goal.returns
unfolding unsigned_written
returns c = (rw c.into.ensures c.write_bytes.ensures)
    ∙ ap (λ b. written b c.args.out.now) (data_bytes-shortest unsigned_type c.args.value c.later_bytes-k.ensures refl)
