-- `pgm_to_sheet::table::fill_table` meets its contract. Assumes nothing.
use Prim.Native.Nat.{ℕ, ◌≤◌}
use native.Mathlib.Omega.{arith}
use mathlib.Core.Path.{◌≡◌, ap, ◌∙◌}
use mathlib.Core.List.{List}
use lib.ListN.{length, take, drop}
use lib.Seq.{take_at}
use Rattle.answer.specs.declared.Answer.{Answer}
use Rattle.answer.specs.Outcome.{Outcome}
use Rattle.answer.specs.Outcome.Laws.{less_number-none}
use Rattle.row_format.specs.Plain.{plain_bytes}
use Rattle.code_table.specs.Plain.{plain_lent}
use Rattle.code_table.specs.Plain.Laws.{length-plain_bytes}
use Rattle.pgm_to_sheet.proofs.table.fill_table.Goals as goal

plain_lent-front : (m : List ℕ) → 2072 ≤ length m → take 2072 (plain_lent m).memory ≡ plain_bytes
unfolding plain_lent
plain_lent-front m room =
    rw (less_number-none (length m) 2072 5 room) (take_at plain_bytes (drop (length plain_bytes) m) 2072 length-plain_bytes)

pub returns-in_default-clause-plain : goal.returns-in_default-clause-plain
returns-in_default-clause-plain c =
    λ e. ap (λ (o : Outcome Answer). take 2072 o.memory) c.plain_table.ensures ∙ plain_lent-front c.args.bytes.now (omega arith)
