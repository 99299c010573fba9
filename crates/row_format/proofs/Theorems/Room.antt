-- Demand 3: when a packing is refused for room, and that the room question's answer is always enough. Assumes nothing.
use Rattle.std.specs.Prelude.{ℕ, ◌*◌, ◌/◌, ◌≤◌, ◌<◌, ◌≡◌, List, ◌↔◌, length, ltb}
use Rattle.std.proofs.Common.{arith, sym, ◌∙◌, ltb-true, lt-ltb, le-ltb}
use Rattle.bitstream.specs.Bits.{words_of, halves_of, words_for}
use Rattle.answer.specs.Outcome.{answer_of, refuse_if}
use Rattle.answer.specs.Outcome.Laws.{refuse_if-given}
use Rattle.row_format.specs.Table.{table_number, max_item_bits}
use Rattle.row_format.specs.Row.{row_bits}
use Rattle.row_format.specs.Calls.{Packable, packed, room}
use Rattle.row_format.proofs.Calls.Laws.{packed-number, pack_number-packable}
use Rattle.row_format.proofs.Theorems.Bounds.{length-row_bits}

-- 5 exactly when the bits, rounded up to whole words, exceed the words lent
module _ (tb pb m : List ℕ) (ok : Packable tb (halves_of pb)) where
  -- the number is that of the refusal for room
  packed-room : (packed tb pb m).answer.number
      ≡ refuse_if (ltb (length m / 4) (words_for (length (row_bits (words_of tb) (halves_of pb))))) 5
  packed-room = packed-number tb pb m ∙ pack_number-packable tb (halves_of pb) (length m / 4) ok

  pub packed-five : ((packed tb pb m).answer.number ≡ 5)
      ↔ (length m / 4 < words_for (length (row_bits (words_of tb) (halves_of pb))))
  packed-five =
      let words = length m / 4 in
      let need = words_for (length (row_bits (words_of tb) (halves_of pb))) in (
        λ e. ltb-true words need (refuse_if-given (ltb words need) 4 (sym packed-room ∙ e)),
        λ h. packed-room ∙ rw (lt-ltb words need h),
      )

  pub packed-enough : words_for (length (row_bits (words_of tb) (halves_of pb))) ≤ length m / 4 → (packed tb pb m).answer.number ≡ 0
  packed-enough h = packed-room ∙ rw (le-ltb (length m / 4) (words_for (length (row_bits (words_of tb) (halves_of pb)))) h)

-- the room question's answer
pub room-done : (tb : List ℕ) (n : ℕ) → table_number tb ≡ 0 → n ≤ 4096
    → room tb n ≡ answer_of 0 (words_for (n * max_item_bits (words_of tb)))
unfolding room
room-done tb n ok few = rw (ok, le-ltb 4096 n few)

pub packed-room-enough : (tb pb m : List ℕ) → Packable tb (halves_of pb) → (room tb (length (halves_of pb))).count ≤ length m / 4
    → (packed tb pb m).answer.number ≡ 0
packed-room-enough tb pb m ok h =
    let ps = halves_of pb in
    let enough = rw (room-done tb (length ps) ok.table ok.few) at h in
    packed-enough tb pb m ok (omega (arith, length-row_bits (words_of tb) ps))
