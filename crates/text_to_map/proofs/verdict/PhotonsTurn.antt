-- What a turn of photons does, and its end. Assumes nothing.
use Prim.Native.Nat.{ℕ, ◌+◌, ◌*◌, ◌/◌, ◌≤◌, ◌<◌}
use native.Mathlib.Nat.{add-zero}
use native.Mathlib.Numerals.{add-one}
use native.Mathlib.Omega.{arith}
use mathlib.Core.Path.{◌≡◌, refl, ap, ◌∙◌}
use mathlib.Core.List.{List, [], ◌∷◌}
use lib.ListN.{length, take, get_or}
use lib.Seq.{take-suc, take_all}
use Rattle.bitstream.specs.Bits.{bits_of, halves_of}
use Rattle.bitstream.specs.Bits.Laws.{below-cut, below-flat}
use Rattle.map_format.specs.Reading.{sum}
use Rattle.map_format.specs.Reading.Laws.{sum-append}

pub count_low : (s : List ℕ) (i : ℕ) → get_or (halves_of s) i 0 < 65536
count_low s i = (below-cut 16 (length s / 2) (bits_of s) (below-flat 8 s)).below i

-- the first i counts are summed
pub record Summing (xs : List ℕ) (all i : ℕ) : Type 0 where
  pub is : all ≡ sum (take i xs)
  pub low : all ≤ 65536 * i

pub summing-none : (xs : List ℕ) → Summing xs 0 0
unfolding sum
summing-none xs = record { is = refl; low = omega arith }

pub summing-more : {xs : List ℕ} {all i v : ℕ} → Summing xs all i → i < length xs → v ≡ get_or xs i 0 → v < 65536
    → Summing xs (all + v) (i + 1)
unfolding sum
summing-more {xs} {all} {i} {v} s h e small =
    let last : sum (get_or xs i 0 ∷ []) ≡ get_or xs i 0 = add-zero (get_or xs i 0) in
    record {
      is = rw (add-one i, take-suc xs i 0 h) (omega (arith, sum-append (take i xs) (get_or xs i 0 ∷ []), s.is));
      low = omega (arith, s.low);
    }

pub summing-all : {xs : List ℕ} {all i : ℕ} → Summing xs all i → length xs ≤ i → all ≡ sum xs
summing-all {xs} {all} {i} s h = s.is ∙ ap sum (take_all i xs h)
