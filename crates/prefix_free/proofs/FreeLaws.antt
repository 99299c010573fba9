-- The ways out of free, and what it asks of its calls. Assumes nothing.
use Prim.Native.Nat.{ℕ, ◌%◌, ◌≤◌, ◌<◌}
use native.Mathlib.Decide.{ℕ_discrete}
use native.Mathlib.Omega.{arith}
use mathlib.Core.Path.{◌≡◌, sym, ◌∙◌}
use mathlib.Core.Bool.{true, false, true≢false}
use mathlib.Core.List.{List, map}
use lib.ListN.{length, get_or, length-map}
use Rattle.row_format.specs.Table.{codeword}
use Rattle.row_format.specs.Table.Laws.{length-codeword, clash-false-apart}
use Rattle.prefix_free.specs.Branch.Pairs.{not-false-true, begins-take, clash-few}
use Rattle.prefix_free.specs.Branch.{clashes, Agree, Shortest}
use Rattle.prefix_free.specs.Branch.Laws.{get_d-codewords}

-- ---- words that agree
-- a place beside k
other : (n k : ℕ) → 2 ≤ n → (j : ℕ) × (j < n) × (k ≡ j → ⊥)
other n k h = at (ℕ_discrete k 0)
  where
    at : Dec (k ≡ 0) → (j : ℕ) × (j < n) × (k ≡ j → ⊥)
    at (yes e) = (1, h, omega arith)
    at (no m) = (0, omega arith, m)

-- a codeword that has ended begins every other
agree-ended : (d : ℕ) (l : List ℕ) (k : ℕ) → Agree d l → 2 ≤ length l → k < length l → get_or l k 0 % 32 ≤ d → clashes l ≡ true
agree-ended d l k a two hk ended = not-false-true (clashes l) refute
  where
    refute : clashes l ≡ false → ⊥
    refute f =
        let o = other (length l) k two in
        let j = o.0 in
        let begun =
        begins-take d (codeword (get_or l k 0)) (codeword (get_or l j 0)) (a.same k j hk o.1) (rw (length-codeword (get_or l k 0)) ended) in
        let apart = clash-false-apart (map codeword l) f k j (rw (length-map l codeword) hk) (rw (length-map l codeword) o.1) o.2 in
        true≢false (sym begun ∙ (rw (get_d-codewords l k, get_d-codewords l j) at apart))

-- ---- what clashes
pub clashes-few : (l : List ℕ) → length l < 2 → clashes l ≡ false
clashes-few l h = clash-few (map codeword l) (rw (length-map l codeword) h)

pub clashes-ended : (d : ℕ) {l : List ℕ} {r : ℕ} → Agree d l → 2 ≤ length l → Shortest l (length l) r → r ≤ d → d < 32 → clashes l ≡ true
clashes-ended d {l} {r} a two x h b =
    let k = x.found (omega arith) in
    let e : get_or l k.0 0 % 32 ≡ r = k.2 in
    agree-ended d l k.0 a two k.1 (omega arith)
