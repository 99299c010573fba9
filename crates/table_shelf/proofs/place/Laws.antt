-- A place of the shelf as a part of it, its table, and the refusals of a call that names it. Assumes nothing.
use Prim.Native.Nat.{ℕ, min, ◌+◌, ◌-◌, ◌*◌, ◌≤◌, ◌<◌}
use native.Mathlib.Omega.{arith}
use native.Mathlib.Decide.{dec_lt}
use mathlib.Core.Path.{◌≡◌, sym, ap, ◌∙◌}
use mathlib.Core.Bool.{Bool, true, false}
use mathlib.Core.List.{List}
use lib.ListN.{length, take, drop, length-drop}
use lib.Seq.{length-take-le, take_all, take-take}
use Rattle.answer.specs.Outcome.{◌or_else◌, refuse_if}
use Rattle.bitstream.specs.Bits.{words_of}
use Rattle.row_format.specs.Table.{table_size}
use Rattle.shelf_format.specs.Shelf.{place, is_free, table_in}
use Rattle.shelf_format.specs.Calls.{short_number, held_number}
use Rattle.shelf_format.proofs.Calls.Laws.{short_none}
use Rattle.table_shelf.specs.Place.{TableEnds}

pub place-part : (s : List ℕ) (i : ℕ) → take (32772 * i + 32772 - 32772 * i) (drop (32772 * i) s) ≡ place s i
unfolding place
place-part s i = let n : 32772 * i + 32772 - 32772 * i ≡ 32772 = omega arith in ap (λ (k : ℕ). take k (drop (32772 * i) s)) n

-- ---- where the table ends
module _ (s : List ℕ) (i : ℕ) (inside : 32772 * i + 32772 ≤ length s) where
  size : length (place s i) ≡ 32772
  unfolding place
  size = length-take-le 32772 (drop (32772 * i) s) (omega (arith, inside, length-drop (32772 * i) s))

  ends-place : 8187 < table_size (words_of (place s i)) → TableEnds s i (32772 * i + 32772)
  unfolding table_in
  ends-place long = record {
    least = omega arith;
    most = omega arith;
    table =
        place-part s i
        ∙ sym (take_all (24 + 4 * table_size (words_of (place s i))) (place s i) (omega (arith, size, long)));
  }

  ends-table : (n : ℕ) → n ≡ table_size (words_of (place s i)) → n ≤ 8187 → TableEnds s i (32772 * i + 24 + 4 * n)
  unfolding table_in place
  ends-table n is few =
      let bytes : 32772 * i + 24 + 4 * n - 32772 * i ≡ 24 + 4 * n = omega arith in
      let front = take-take (24 + 4 * n) 32772 (drop (32772 * i) s) (omega (arith, few)) in
      record {
        least = omega arith;
        most = omega (arith, few);
        table =
            ap (λ (k : ℕ). take k (drop (32772 * i) s)) bytes ∙ sym front
            ∙ ap (λ (k : ℕ). take (24 + 4 * k) (take 32772 (drop (32772 * i) s))) is;
      }

  -- the lesser of the two
  pub ends : {n bytes : ℕ} → n ≡ table_size (words_of (place s i)) → bytes ≡ min (24 + 4 * n) 32772
      → TableEnds s i (32772 * i + bytes)
  ends {n} {bytes} is least = by-split (dec_lt 8187 n)
    where
      by-split : Dec (8187 < n) → TableEnds s i (32772 * i + bytes)
      by-split (yes long) =
          let all : bytes ≡ 32772 = omega (arith, least, long) in
          rw all (ends-place (omega (arith, is, long)))
      by-split (no few) =
          let some : 32772 * i + bytes ≡ 32772 * i + 24 + 4 * n = omega (arith, least, few) in
          rw some (ends-table n is (omega (arith, few)))

-- ---- refusals
module _ (s b : List ℕ) (long : 393264 ≤ length s) where
  pub held-allowed : (may : Bool) → may ≡ true → {free : Bool} → is_free b ≡ free
      → refuse_if free 23 ≡ (short_number s or_else held_number may b)
  unfolding held_number
  held-allowed may yes' is = rw (short_none s long, yes', is)

  pub held-refused : (may : Bool) → may ≡ false → 24 ≡ (short_number s or_else held_number may b)
  unfolding held_number
  held-refused may no' = rw (short_none s long, no')
