-- What holds of the plain table lent out; m is the memory lent for it, as it was. Assumes nothing.
use Rattle.std.specs.Prelude.{ℕ, ◌≡◌, refl, true, List, [], ◌∷◌, eqb}
use Rattle.answer.specs.Outcome.{refusal, Kept, Within}
use Rattle.answer.specs.Outcome.Laws.{wrote_or_full-in, wrote_or_full-kept, wrote_or_full-within}
use Rattle.row_format.specs.Lists.{any}
use Rattle.row_format.specs.Plain.{plain_bytes}
use Rattle.code_table.specs.Plain.{plain_lent}
use Rattle.code_table.specs.Plain.Laws.{length-plain_bytes}

-- ---- demand 1
-- "each call .. answers with a number from document 01"
pub plain-numbers : (m : List ℕ) → any (eqb (plain_lent m).answer.number) (0 ∷ 5 ∷ []) ≡ true
unfolding plain_lent any
plain-numbers = wrote_or_full-in (λ e. any (eqb e) (0 ∷ 5 ∷ []) ≡ true) refl refl 2072 plain_bytes

-- "A refused call gives its number, zero for every count and value, and leaves the lent memory as found"
pub plain-refused-keeps : (m : List ℕ) → ((plain_lent m).answer.number ≡ 0 → ⊥)
    → Kept (refusal (plain_lent m).answer.number) m (plain_lent m)
unfolding plain_lent
plain-refused-keeps = wrote_or_full-kept 2072 plain_bytes

-- "A done call writes only the pixels, words or bytes that it counts"
pub plain-writes-bytes : (m : List ℕ) → Within (plain_lent m).answer.count m (plain_lent m)
unfolding plain_lent
plain-writes-bytes m = wrote_or_full-within 2072 plain_bytes m length-plain_bytes
