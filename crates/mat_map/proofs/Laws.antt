-- Laws of refusals, and of counts in bytes. Assumes nothing.
use Prim.Native.Nat.{ℕ, ◌+◌, ◌*◌, ◌/◌, ◌≤◌, ◌<◌}
use native.Mathlib.Omega.{arith}
use mathlib.Core.Path.{◌≡◌, sym, ap, ◌∙◌}
use mathlib.Core.List.{List, ◌++◌}
use lib.ListN.{length, take, drop, get_or, take-append-drop, length-append}
use lib.Seq.{take_at, drop_at, length-take-le}
use Rattle.bitstream.specs.Bits.{cut, flat, bits_of, halves_of}
use Rattle.bitstream.specs.Bits.Laws.{below-cut, below-flat, cut-append, flat_append, length-flat}
use Rattle.row_pixels.specs.Laws.{length-halves}
use Rattle.answer.specs.declared.refusal.Refusal.{Refusal}
use Rattle.mat_map.specs.Step.{Groups}
use Rattle.answer.specs.Refusal.{refusal_number}
use Rattle.answer.specs.Refusal.Laws.{refusal_not_done}

pub not_done : (e : Refusal) → refusal_number e ≡ 0 → ⊥
not_done e z = absurd (omega (arith, refusal_not_done e, z))

-- a count has 16 bits
pub halves-low : (s : List ℕ) (i : ℕ) {x : ℕ} → x ≡ get_or (halves_of s) i 0 → x < 65536
halves-low s i e = rw e ((below-cut 16 (length s / 2) (bits_of s) (below-flat 8 s)).below i)

-- ---- the counts of a part
halves-append : (n : ℕ) (a b : List ℕ) → length a ≡ 2 * n → halves_of (a ++ b) ≡ halves_of a ++ halves_of b
halves-append n a b e =
    let whole : length (a ++ b) / 2 ≡ n + length b / 2 = omega (arith, length-append a b) in
    let first : length a / 2 ≡ n = omega arith in
    let bits : length (bits_of a) ≡ 16 * n = length-flat 8 a ∙ omega arith in
    ap (λ (k : ℕ). cut 16 k (flat 8 (a ++ b))) whole
    ∙ ap (cut 16 (n + length b / 2)) (flat_append 8 a b)
    ∙ cut-append 16 n (length b / 2) (bits_of a) (bits_of b) bits
    ∙ ap (λ (k : ℕ). cut 16 k (bits_of a) ++ halves_of b) (sym first)

module _ (n : ℕ) (s : List ℕ) (h : 2 * n ≤ length s) where
  size : length (take (2 * n) s) ≡ 2 * n
  size = length-take-le (2 * n) s h

  count : length (halves_of (take (2 * n) s)) ≡ n
  count = length-halves (take (2 * n) s) ∙ omega (arith, size)

  split : halves_of s ≡ halves_of (take (2 * n) s) ++ halves_of (drop (2 * n) s)
  split = ap halves_of (sym (take-append-drop (2 * n) s)) ∙ halves-append n (take (2 * n) s) (drop (2 * n) s) size

  pub halves-take : halves_of (take (2 * n) s) ≡ take n (halves_of s)
  halves-take = sym (ap (take n) split ∙ take_at (halves_of (take (2 * n) s)) (halves_of (drop (2 * n) s)) n count)

  pub halves-drop : halves_of (drop (2 * n) s) ≡ drop n (halves_of s)
  halves-drop = sym (ap (drop n) split ∙ drop_at (halves_of (take (2 * n) s)) (halves_of (drop (2 * n) s)) n count)

-- ---- a turn by other names for what is left and where
pub groups-named : {b : List ℕ} {k : ℕ} {l : List ℕ} {left place at photons : ℕ} → Groups b k l left place at photons
    → (left' place' : ℕ) → left ≡ left' → place ≡ place' → Groups b k l left' place' at photons
groups-named q left' place' e f = rw (← e, ← f) q
