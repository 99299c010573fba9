-- The turns of the sum. Assumes nothing.
use Prim.Native.Nat.{ℕ, ◌+◌, ◌*◌, ◌≤◌, ◌<◌}
use native.Mathlib.Omega.{arith}
use mathlib.Core.Path.{◌≡◌, ap}
use mathlib.Core.List.{List}
use lib.ListN.{length, drop, get_or}
use Rattle.map_format.specs.Reading.{sum}
use Rattle.row_pixels.specs.Laws.{drop_more, drop-end}

-- after i counts
pub record Summing (xs : List ℕ) (total i : ℕ) : Type 0 where
  pub within : i ≤ length xs
  pub whole : total + sum (drop i xs) ≡ sum xs
  pub low : total ≤ 65535 * i

pub summing-none : (xs : List ℕ) → Summing xs 0 0
summing-none xs = record { within = omega arith; whole = omega arith; low = omega arith }

module _ {xs : List ℕ} {total i : ℕ} (s : Summing xs total i) where
  next : {x : ℕ} → i < length xs → x ≡ get_or xs i 0 → sum (drop i xs) ≡ x + sum (drop (i + 1) xs)
  unfolding sum
  next h e = ap sum (drop_more xs i h e)

  pub summing-more : {x : ℕ} → i < length xs → x ≡ get_or xs i 0 → x < 65536 → Summing xs (total + x) (i + 1)
  summing-more h e small = record {
    within = omega arith;
    whole = omega (arith, s.whole, next h e);
    low = omega (arith, s.low);
  }

  end : length xs ≤ i → sum (drop i xs) ≡ 0
  unfolding sum
  end g = ap sum (drop-end xs i s.within g)

  pub summing-all : length xs ≤ i → total ≡ sum xs
  summing-all g = omega (arith, s.whole, end g)
