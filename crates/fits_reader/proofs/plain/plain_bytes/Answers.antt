-- `fits_reader::plain::plain_bytes` meets its contract: there is room for the table, and for no more. Assumes nothing.
use mathlib.Core.Path.{◌≡◌, refl, ap, ◌∙◌}
use mathlib.Core.List.{List, [], append-nil}
use Prim.Native.Nat.{ℕ}
use lib.ListN.{length, drop}
use lib.Seq.{drop-length}
use Rattle.answer.specs.declared.Answer.{Answer}
use Rattle.answer.specs.Outcome.{Outcome}
use Rattle.row_format.specs.Plain.{plain_bytes}
use Rattle.code_table.specs.Plain.{plain_lent}
use Rattle.code_table.specs.Plain.Laws.{length-plain_bytes}
use Rattle.fits_reader.proofs.plain.plain_bytes.Goals as goal

plain_lent-whole : (m : List ℕ) → length m ≡ 2072 → (plain_lent m).memory ≡ plain_bytes
unfolding plain_lent
plain_lent-whole m e =
    let none : drop 2072 m ≡ [] = rw (← e) (drop-length m) in
    rw (e, length-plain_bytes, none) (append-nil plain_bytes)

pub returns : goal.returns
returns c = ap (λ (o : Outcome Answer). o.memory) c.plain_table.ensures ∙ plain_lent-whole _ refl
