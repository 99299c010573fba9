-- The laws of a row. Assumes nothing.
use Rattle.std.specs.Prelude.{ℕ, ◌-◌, ◌≤◌, ◌<◌, ◌≡◌, length, ltb, ℤ}
use Rattle.std.proofs.Common.{arith, sym, ap, ◌∙◌, ltb-false, le-ltb, eq-eqb, ne_eqb}
use Rattle.std.proofs.Math.Path.{refl}
use mathlib.Core.List.{List, [], ◌∷◌, ◌++◌, append_assoc}
use Rattle.row_format.specs.Lists.Laws.{by-test}
use Rattle.delta_format.specs.Row.{Element, Previous, flag_number, part_of, RowReading, stops, reads, joined_to, and_then, row_from}

-- ---- a flag of count c that wants n values
module _ (left c n : ℕ) (vs : List ℤ) where
  -- neither 25 nor 26
  pub free-row : flag_number left c n vs ≡ 0 → c ≤ left
  free-row h = by-test (ltb left c) (λ e. let q : ◌≡◌ {A = ℕ} 25 0 = sym (rw e refl) ∙ h in omega arith) (ltb-false left c)

  pub free-values : flag_number left c n vs ≡ 0 → n ≤ length vs
  free-values h =
      by-test (ltb (length vs) n)
      (λ e. let q : ◌≡◌ {A = ℕ} 25 0 = sym (rw (le-ltb left c (free-row h), e) refl) ∙ h in omega arith)
      (ltb-false (length vs) n)

  pub free-count : flag_number left c n vs ≡ 0 → c ≡ 0 → ⊥
  free-count h z =
      let q : ◌≡◌ {A = ℕ} 26 0 = sym (rw (le-ltb left c (free-row h), le-ltb (length vs) n (free-values h), eq-eqb c 0 z) refl) ∙ h in
      omega arith

-- ---- readings
pub joined-none : (r : RowReading) → joined_to [] r ≡ r
joined-none (stops e) = refl
joined-none (reads es ds vs rs) = refl

pub joined-joined : (es fs : List Element) (r : RowReading) → joined_to es (joined_to fs r) ≡ joined_to (es ++ fs) r
joined-joined es fs (stops e) = refl
joined-joined es fs (reads gs ds vs rs) = ap (λ (hs : List Element). reads hs ds vs rs) (sym (append_assoc es fs gs))

module _ (max : ℤ) where
  pub from_zero : (p : Previous) (ds vs rs : List ℤ) → row_from max p 0 ds vs rs ≡ reads [] ds vs rs
  unfolding row_from
  from_zero p [] vs rs = refl
  from_zero p (d ∷ ds) vs rs = refl

  pub from-ends : (p : Previous) (left : ℕ) (vs rs : List ℤ) → 0 < left → row_from max p left [] vs rs ≡ stops 25
  unfolding row_from
  from-ends p left vs rs h = rw (ne_eqb left 0 (λ e. omega arith)) refl

  pub from_next : (p : Previous) (left : ℕ) (d : ℤ) (ds vs rs : List ℤ) → 0 < left
      → row_from max p left (d ∷ ds) vs rs
      ≡ and_then (part_of max p left d vs rs) (λ es q ws ts. row_from max q (left - length es) ds ws ts)
  unfolding row_from
  from_next p left d ds vs rs h = rw (ne_eqb left 0 (λ e. omega arith)) refl
