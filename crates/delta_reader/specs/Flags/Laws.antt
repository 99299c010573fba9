-- The laws of what a flag takes. Assumes nothing.
use Rattle.std.specs.Prelude.{ℕ, zero, suc, ◌-◌, ◌≤◌, ◌<◌, ◌≡◌, refl, true, false, not, List, length, drop, get_or, eqb, ℤ, pos}
use Rattle.std.proofs.Common.{arith, sym, ap, ◌∙◌, length-drop, drop_of_length-le, drop-cons, lt-ltb, le-ltb, ne_eqb, eq-eqb}
use Rattle.row_format.specs.Lists.Laws.{true-false}
use Rattle.delta_format.specs.Row.{Flag, full, same, bad-run, bad-one, fulls, count_of, values_for}
use Rattle.delta_reader.specs.Flags.{flag_at, is_bad, is_counted, taken_none, taken_at, taken_of}

-- ---- which flag it is
pub bad-else : (k : ℕ) → (k ≡ 2 → ⊥) → eqb k 3 ≡ is_bad (flag_at k)
bad-else zero h = refl
bad-else (suc zero) h = refl
bad-else (suc (suc zero)) h = absurd (h refl)
bad-else (suc (suc (suc zero))) h = refl
bad-else (suc (suc (suc (suc k)))) h = ne_eqb (suc (suc (suc (suc k)))) 3 (λ e. omega arith)

pub counted-else : (k : ℕ) → (k ≡ 0 → ⊥) → not (eqb k 3) ≡ is_counted (flag_at k)
counted-else zero h = absurd (h refl)
counted-else (suc zero) h = refl
counted-else (suc (suc zero)) h = refl
counted-else (suc (suc (suc zero))) h = refl
counted-else (suc (suc (suc (suc k)))) h = ap not (ne_eqb (suc (suc (suc (suc k)))) 3 (λ e. omega arith))

-- ---- how many values
pub values-fulls : (k left c : ℕ) → 3 < k → c ≡ values_for (flag_at k) left c
values-fulls zero left c h = absurd (omega arith)
values-fulls (suc zero) left c h = absurd (omega arith)
values-fulls (suc (suc zero)) left c h = absurd (omega arith)
values-fulls (suc (suc (suc zero))) left c h = absurd (omega arith)
values-fulls (suc (suc (suc (suc k)))) left c h = refl

pub values-last : (f : Flag) (left c : ℕ) → true ≡ is_bad f → c ≡ left → 0 ≡ values_for f left c
values-last full left c e h = true-false refl e
values-last same left c e h = true-false refl e
values-last bad-run left c e h = rw (eq-eqb c left h)
values-last bad-one left c e h = rw (eq-eqb c left h)
values-last fulls left c e h = true-false refl e

pub values-next : (f : Flag) (left c : ℕ) → true ≡ is_bad f → (c ≡ left → ⊥) → 1 ≡ values_for f left c
values-next full left c e h = true-false refl e
values-next same left c e h = true-false refl e
values-next bad-run left c e h = rw (ne_eqb c left h)
values-next bad-one left c e h = rw (ne_eqb c left h)
values-next fulls left c e h = true-false refl e

pub values_one : (k left c : ℕ) → k ≤ 3 → false ≡ is_bad (flag_at k) → 1 ≡ values_for (flag_at k) left c
values_one zero left c h e = refl
values_one (suc zero) left c h e = refl
values_one (suc (suc zero)) left c h e = true-false refl (sym e)
values_one (suc (suc (suc zero))) left c h e = true-false refl (sym e)
values_one (suc (suc (suc (suc k)))) left c h e = absurd (omega arith)

-- ---- its number
module _ (f : Flag) (left c : ℕ) (vs : List ℤ) where
  pub taken-long : left < c → taken_none 25 ≡ taken_at f left c vs
  taken-long h = rw (lt-ltb left c h)

  pub taken-few : c ≤ left → length vs < values_for f left c → taken_none 25 ≡ taken_at f left c vs
  taken-few h g = rw (le-ltb left c h, lt-ltb (length vs) (values_for f left c) g)

  pub taken_none_lem : c ≤ left → values_for f left c ≤ length vs → c ≡ 0 → taken_none 26 ≡ taken_at f left c vs
  taken_none_lem h g e = rw (le-ltb left c h, le-ltb (length vs) (values_for f left c) g, eq-eqb c 0 e)

  pub taken-done : c ≤ left → values_for f left c ≤ length vs → (c ≡ 0 → ⊥)
      → record { number = 0; count = c; values = values_for f left c } ≡ taken_at f left c vs
  taken-done h g e = rw (le-ltb left c h, le-ltb (length vs) (values_for f left c) g, ne_eqb c 0 e)

module _ (f : Flag) (left : ℕ) (vs : List ℤ) where
  pub taken-one : (rs : List ℤ) → is_counted f ≡ false → taken_at f left 1 vs ≡ taken_of f left vs rs
  taken-one rs e = rw e refl

  pub taken-ends : (all : List ℤ) (at : ℕ) → is_counted f ≡ true → length all ≤ at → taken_none 25 ≡ taken_of f left vs (drop at all)
  taken-ends all at e h = rw (e, drop_of_length-le all h) refl

  pub taken-counted : (all : List ℤ) (at : ℕ) → is_counted f ≡ true → at < length all
      → taken_at f left (count_of (get_or all at (pos 0))) vs ≡ taken_of f left vs (drop at all)
  taken-counted all at e h = rw (e, drop-cons all at (pos 0) h) refl

-- the same by the numbers that the code has of them: n values are wanted, k are there
module _ (f : Flag) (left c : ℕ) (all : List ℤ) (at : ℕ) {n k : ℕ} (e : n ≡ values_for f left c) (d : k ≡ length all - at) where
  pub judged-few : c ≤ left → k < n → taken_none 25 ≡ taken_at f left c (drop at all)
  judged-few h g = taken-few f left c (drop at all) h (omega (arith, length-drop at all))

  pub judged-none : c ≤ left → n ≤ k → c ≡ 0 → taken_none 26 ≡ taken_at f left c (drop at all)
  judged-none h g z = taken_none_lem f left c (drop at all) h (omega (arith, length-drop at all)) z

  pub judged-done : c ≤ left → n ≤ k → (c ≡ 0 → ⊥) → record { number = 0; count = c; values = n } ≡ taken_at f left c (drop at all)
  judged-done h g z =
      ap (λ (m : ℕ). record { number = 0; count = c; values = m }) e
      ∙ taken-done f left c (drop at all) h (omega (arith, length-drop at all)) z
