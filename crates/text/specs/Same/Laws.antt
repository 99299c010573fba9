-- The laws of the test on bytes: byte by byte, that it tells whether two runs are the same, and that it is what `==` of two slices
-- says. Assumes nothing.
use Rattle.std.specs.Prelude.{ℕ, suc, ◌+◌, ◌≤◌, ◌<◌, ◌≡◌, refl, true, false, List, [], ◌∷◌, length, drop, get_or, eqb, nat_eq}
use Rattle.std.specs.Cmp.Lexicographic.{pointwise}
use Rattle.std.proofs.Math.Numerals.{add-one}
use Rattle.std.proofs.Common.{arith, ap, length-drop}
use Rattle.std.proofs.Math.Seq.{drop-cons}
use borrow.Author.Tests.{eq-eqb, ne_eqb, eqb-true}
use Rattle.row_format.specs.Lists.Laws.{by-test, true-false}
use Rattle.text.specs.Same.{same_bytes}

-- ---- byte by byte
module _ (a b : List ℕ) (i : ℕ) (ha : i < length a) (hb : i < length b) where
  pub same-on : get_or a i 0 ≡ get_or b i 0 → same_bytes (drop i a) (drop i b) ≡ same_bytes (drop (i + 1) a) (drop (i + 1) b)
  unfolding same_bytes
  same-on e = rw (drop-cons a i 0 ha, drop-cons b i 0 hb, eq-eqb (get_or a i 0) (get_or b i 0) e, add-one i)

  pub same_not : (get_or a i 0 ≡ get_or b i 0 → ⊥) → same_bytes (drop i a) (drop i b) ≡ false
  unfolding same_bytes
  same_not h = rw (drop-cons a i 0 ha, drop-cons b i 0 hb, ne_eqb (get_or a i 0) (get_or b i 0) h)

pub same_length : (a b : List ℕ) → (length a ≡ length b → ⊥) → same_bytes a b ≡ false
unfolding same_bytes
same_length [] [] h = absurd (h refl)
same_length [] (y ∷ t) h = refl
same_length (x ∷ s) [] h = refl
same_length (x ∷ s) (y ∷ t) h =
    by-test (eqb x y)
    (λ e. rw e (same_length s t (λ l. h (ap suc l))))
    (λ e. rw e)

nothing_left : (a b : List ℕ) → length a ≡ 0 → length b ≡ 0 → same_bytes a b ≡ true
unfolding same_bytes
nothing_left [] [] ea eb = refl
nothing_left [] (y ∷ t) ea eb = absurd (omega arith)
nothing_left (x ∷ s) b ea eb = absurd (omega arith)

pub same_end : (a b : List ℕ) (i : ℕ) → length a ≤ i → length a ≡ length b → same_bytes (drop i a) (drop i b) ≡ true
same_end a b i h e = nothing_left (drop i a) (drop i b) (omega (arith, length-drop i a)) (omega (arith, length-drop i b))

-- ---- what the test tells
pub same-is : (a b : List ℕ) → same_bytes a b ≡ true → a ≡ b
unfolding same_bytes
same-is [] [] e = refl
same-is [] (y ∷ t) e = true-false e refl
same-is (x ∷ s) [] e = true-false e refl
same-is (x ∷ s) (y ∷ t) e =
    by-test (eqb x y)
    (λ t'. rw (eqb-true x y t', same-is s t (rw t' at e)))
    (λ t'. true-false (rw t' at e) refl)

pub same_self : (a : List ℕ) → same_bytes a a ≡ true
unfolding same_bytes
same_self [] = refl
same_self (x ∷ s) = rw (eq-eqb x x refl) (same_self s)

-- ---- what `==` of two slices says
pub same_pointwise : (a b : List ℕ) → pointwise nat_eq a b ≡ same_bytes a b
unfolding same_bytes
same_pointwise [] [] = refl
same_pointwise [] (y ∷ t) = refl
same_pointwise (x ∷ s) [] = refl
same_pointwise (x ∷ s) (y ∷ t) =
    by-test (eqb x y)
    (λ e. rw e (same_pointwise s t))
    (λ e. rw e)
