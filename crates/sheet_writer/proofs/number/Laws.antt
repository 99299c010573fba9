-- The laws of a line's number, given and written. Assumes nothing.
use Prim.Native.Nat.{ℕ, ◌*◌, ◌/◌, ◌≤◌, ◌<◌}
use mathlib.Core.Path.{◌≡◌, sym, ap, ◌∙◌}
use mathlib.Core.List.{List, ◌++◌}
use lib.ListN.{length, take, drop, get_or, length-map, get_or-map}
use lib.IntN.{ℤ, pos}
use lib.Signed.{mag}
use mir.Syntax.{w32}
use mir.Val.{to_z, of_z}
use mir.Facts.{to_z-of_z}
use Rattle.bitstream.specs.Bits.{number_of, words_of}
use Rattle.answer.specs.declared.Answer.{Answer}
use Rattle.answer.specs.Outcome.{outcome}
use Rattle.code_table.specs.Check.Laws.{length-words, get_d_words}
use Rattle.adaptive.specs.Number.{signed_type, shortest}
use Rattle.adaptive.specs.Calls.{written, signed_written}
use Rattle.adaptive.specs.Calls.Laws.{written-done}
use Rattle.sheet_format.specs.Line.{signed_of}
use Rattle.sheet_format.specs.Kind.ContourLine.{given_numbers}

-- ---- an i32 is held as its bits
pub same-i32 : (v : ℤ) → mag v < 2147483648 → to_z w32 (of_z w32 v) ≡ v
same-i32 v small = to_z-of_z {w = w32} (record { sfits = small })

-- ---- the numbers given
pub length-given : (x : List ℕ) → length (given_numbers x) ≡ length x / 4
length-given x = length-map (words_of x) signed_of ∙ length-words x

-- number i is that of the four bytes from 4 * i on
pub given-at : (x : List ℕ) (i w : ℕ) → i < length x / 4 → w ≡ number_of (take 4 (drop (4 * i) x))
    → signed_of w ≡ get_or (given_numbers x) i (pos 0)
given-at x i w h e = ap signed_of (e ∙ sym (get_d_words x i h)) ∙ sym (get_or-map signed_of (words_of x) i 0)

-- ---- a number that has room: v is written to the front of the memory m, which is then y
pub record Wrote (v : ℤ) (m : List ℕ) (r : Answer) (y : List ℕ) : Type 0 where
  pub count : r.count ≡ length (shortest signed_type v)
  pub memory : y ≡ shortest signed_type v ++ drop (length (shortest signed_type v)) m

pub wrote-number : (v : ℤ) (m y : List ℕ) (r : Answer) → mag v < 2147483648 → outcome r y ≡ signed_written (to_z w32 (of_z w32 v)) m
    → length (shortest signed_type v) ≤ length m → Wrote v m r y
unfolding signed_written
wrote-number v m y r small e fits =
    let done = e ∙ ap (λ z. written (shortest signed_type z) m) (same-i32 v small) ∙ written-done (shortest signed_type v) m fits in
    record { count = ap (λ x. x.answer.count) done; memory = ap (λ x. x.memory) done }
