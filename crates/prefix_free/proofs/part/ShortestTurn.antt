-- What a turn of shortest does. Assumes nothing.
use Prim.Native.Nat.{ℕ, ◌+◌, ◌%◌, ◌≤◌, ◌<◌}
use native.Mathlib.Nat.{not-suc-le-zero, le_refl, lt_irrefl}
use native.Mathlib.Omega.{arith}
use mathlib.Core.Path.{refl}
use mathlib.Core.List.{List}
use lib.ListN.{get_or}
use borrow.Author.Count.{below_more}
use Rattle.std.specs.Prelude.{min, ltb}
use Rattle.std.proofs.Math.Nat.{min-eq_left, min-eq_right, le_of_lt}
use Rattle.std.proofs.lemmas.Bool.{ltb-true, ltb-false}
use Rattle.row_format.specs.Lists.Laws.{by-test}
use Rattle.prefix_free.specs.Branch.{Shortest}

pub shortest-none : (l : List ℕ) → Shortest l 0 32
shortest-none l = record { least = λ k h. absurd (not-suc-le-zero h); found = λ h. absurd (lt_irrefl 32 h) }

pub shortest-kept : {l : List ℕ} {i r : ℕ} → Shortest l i r → r ≤ get_or l i 0 % 32 → Shortest l (i + 1) r
shortest-kept {l} {i} {r} x h =
    record {
      least = below_more (λ (k : ℕ). r ≤ get_or l k 0 % 32) i x.least h;
      found = λ b. let y = x.found b in (y.0, omega arith, y.2);
    }

pub shortest-less : {l : List ℕ} {i r : ℕ} → Shortest l i r → get_or l i 0 % 32 < r → Shortest l (i + 1) (get_or l i 0 % 32)
shortest-less {l} {i} {r} x h =
    record {
      least = below_more (λ (k : ℕ). get_or l i 0 % 32 ≤ get_or l k 0 % 32) i (λ k b. let y = x.least k b in omega arith) (le_refl _);
      found = λ b. (i, omega arith, refl);
    }

-- a word more, by the lesser of two
pub shortest-turn : {l : List ℕ} {i r : ℕ} → Shortest l i r → Shortest l (i + 1) (min r (get_or l i 0 % 32))
shortest-turn {l} {i} {r} x =
    by-test (ltb (get_or l i 0 % 32) r)
    (λ t. let h = ltb-true _ _ t in rw (min-eq_right (le_of_lt h)) (shortest-less x h))
    (λ t. let h = ltb-false _ _ t in rw (min-eq_left h) (shortest-kept x h))
