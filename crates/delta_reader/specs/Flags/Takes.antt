-- What a flag gives, from what it takes. Assumes nothing.
use Rattle.std.specs.Prelude.{ℕ, zero, suc, ◌+◌, ◌≤◌, ◌<◌, ◌≡◌, refl, cond, List, [], ◌∷◌, ◌++◌, map, length, take, drop, replicate, eqb, ℤ, Ok, Err}
use Rattle.std.proofs.Common.{arith, sym, ap, ◌∙◌, subst, length-append, length-take-le, eqb-true}
use Rattle.std.proofs.lemmas.List.{length-map, length-replicate}
use Rattle.std.proofs.lemmas.Bool.{eqb-false}
use Rattle.answer.specs.declared.refusal.Refusal.{Refusal}
use Rattle.answer.specs.Refusal.{refusal_number}
use Rattle.answer.specs.Refusal.Laws.{refusal_not_done}
use Rattle.answer.specs.Outcome.{unless}
use Rattle.row_format.specs.Lists.Laws.{by-test}
use Rattle.delta_format.specs.Row.{
  good,
  bad,
  Flag,
  full,
  same,
  bad-run,
  bad-one,
  fulls,
  Previous,
  last_from,
  Part,
  fault,
  gives,
  count_of,
  values_for,
  elements_for,
  flag_number,
  flag_gives,
  flag_part,
}
use Rattle.delta_format.proofs.Row.Laws.{free-row, free-values, free-count}
use Rattle.delta_reader.specs.declared.flag.Taken.{Taken}
use Rattle.delta_reader.specs.Flags.{TakenAnswer, as_taken, taken_none, taken_at, taken_of, counts_after, elements_given, FlagValues, FlagTakes}

-- without its number
abbrev taken_in : TakenAnswer → Taken
taken_in a = record { count = a.count; values = a.values }

-- ---- with a count c
number-zero : (e c n : ℕ) → (unless e taken_none (record { number = 0; count = c; values = n })).number ≡ 0 → e ≡ 0
number-zero zero c n h = refl
number-zero (suc e) c n h = absurd (omega arith)

number-fault : (e c n : ℕ) (g : Part) → ((unless e taken_none (record { number = 0; count = c; values = n })).number ≡ 0 → ⊥)
    → unless e fault g ≡ fault (unless e taken_none (record { number = 0; count = c; values = n })).number
number-fault zero c n g h = absurd (h refl)
number-fault (suc e) c n g h = refl

module _ (f : Flag) (left c : ℕ) (vs rs ts : List ℤ)
    (part : (p : Previous) → flag_part f p left vs rs ≡ flag_gives f p left c (values_for f left c) vs ts) (after : counts_after f rs ≡ ts)
  where
    goes_at : (taken_at f left c vs).number ≡ 0 → FlagTakes f left vs rs (taken_in (taken_at f left c vs))
    goes_at h =
        let n : ℕ = values_for f left c in
        let free : flag_number left c n vs ≡ 0 = number-zero (flag_number left c n vs) c n h in
        let some : 0 < c = (let z : c ≡ 0 → ⊥ = free-count left c n vs free in omega arith) in
        let is : record { count = c; values = n } ≡ taken_in (taken_at f left c vs) = rw free refl in
        subst (FlagTakes f left vs rs) is
        (record {
          some = some;
          most = free-row left c n vs free;
          wanted = refl;
          enough = free-values left c n vs free;
          part = λ p. part p ∙ rw (free, after) refl;
        })

    faults-at : ((taken_at f left c vs).number ≡ 0 → ⊥) → (p : Previous) → flag_part f p left vs rs ≡ fault (taken_at f left c vs).number
    faults-at h p =
        let n : ℕ = values_for f left c in
        part p
        ∙ number-fault (flag_number left c n vs) c n (gives (elements_for f c (take n vs)) (last_from p (take n vs)) (drop n vs) ts) h

-- ---- with the flag's own count
goes_of : (f : Flag) (left : ℕ) (vs rs : List ℤ) → (taken_of f left vs rs).number ≡ 0
    → FlagTakes f left vs rs (taken_in (taken_of f left vs rs))
goes_of full left vs rs h = goes_at full left 1 vs rs rs (λ p. refl) refl h
goes_of same left vs [] h = absurd (omega arith)
goes_of same left vs (r ∷ rs) h = goes_at same left (count_of r) vs (r ∷ rs) rs (λ p. refl) refl h
goes_of bad-run left vs [] h = absurd (omega arith)
goes_of bad-run left vs (r ∷ rs) h = goes_at bad-run left (count_of r) vs (r ∷ rs) rs (λ p. refl) refl h
goes_of bad-one left vs rs h = goes_at bad-one left 1 vs rs rs (λ p. refl) refl h
goes_of fulls left vs [] h = absurd (omega arith)
goes_of fulls left vs (r ∷ rs) h = goes_at fulls left (count_of r) vs (r ∷ rs) rs (λ p. refl) refl h

faults-of : (f : Flag) (left : ℕ) (vs rs : List ℤ) → ((taken_of f left vs rs).number ≡ 0 → ⊥)
    → (p : Previous) → flag_part f p left vs rs ≡ fault (taken_of f left vs rs).number
faults-of full left vs rs h = faults-at full left 1 vs rs rs (λ p. refl) refl h
faults-of same left vs [] h = λ p. refl
faults-of same left vs (r ∷ rs) h = faults-at same left (count_of r) vs (r ∷ rs) rs (λ p. refl) refl h
faults-of bad-run left vs [] h = λ p. refl
faults-of bad-run left vs (r ∷ rs) h = faults-at bad-run left (count_of r) vs (r ∷ rs) rs (λ p. refl) refl h
faults-of bad-one left vs rs h = faults-at bad-one left 1 vs rs rs (λ p. refl) refl h
faults-of fulls left vs [] h = λ p. refl
faults-of fulls left vs (r ∷ rs) h = faults-at fulls left (count_of r) vs (r ∷ rs) rs (λ p. refl) refl h

module _ (f : Flag) (left : ℕ) (vs rs : List ℤ) where
  pub taken-goes : {t : Taken} → as_taken (Ok t) ≡ taken_of f left vs rs → FlagTakes f left vs rs t
  taken-goes {t} e =
      subst (FlagTakes f left vs rs) (sym (ap taken_in e)) (goes_of f left vs rs (sym (ap (λ (a : TakenAnswer). a.number) e)))

  pub taken-faults : (r : Refusal) → as_taken (Err r) ≡ taken_of f left vs rs
      → (p : Previous) → flag_part f p left vs rs ≡ fault (refusal_number r)
  taken-faults r e p =
      let same : refusal_number r ≡ (taken_of f left vs rs).number = ap (λ (a : TakenAnswer). a.number) e in
      faults-of f left vs rs (λ z. omega (arith, refusal_not_done r, same, z)) p ∙ ap fault (sym same)

-- ---- how many elements they are
-- c bad elements, and n values after them
module _ (left c n : ℕ) where
  bads-few : c ≤ left → n ≡ cond (eqb c left) 0 1 → c + n ≤ left
  bads-few h e =
      by-test (eqb c left)
      (λ t. let z : n ≡ 0 = e ∙ rw t refl in omega arith)
      (λ t. let z : n ≡ 1 = e ∙ rw t refl in let d : c ≡ left → ⊥ = eqb-false c left t in omega arith)

  bads-last : n ≡ cond (eqb c left) 0 1 → c + n < left → 0 < n
  bads-last e h =
      by-test (eqb c left)
      (λ t. let z : n ≡ 0 = e ∙ rw t refl in let d : c ≡ left = eqb-true c left t in omega arith)
      (λ t. let z : n ≡ 1 = e ∙ rw t refl in omega arith)

bads-length : (c n : ℕ) (vs : List ℤ) → n ≤ length vs → length (replicate c bad ++ map good (take n vs)) ≡ c + n
bads-length c n vs h =
    let goods : length (map good (take n vs)) ≡ n = length-map (take n vs) good ∙ length-take-le n vs h in
    omega (arith, length-append (replicate c bad) (map good (take n vs)), length-replicate c bad, goods)

module _ {left : ℕ} {vs rs : List ℤ} {t : Taken} where
  pub takes-values : {f : Flag} → FlagTakes f left vs rs t → FlagValues f t.values vs
  takes-values {f} k = record { enough = k.enough; one = λ e. k.wanted ∙ ap (λ (g : Flag). values_for g left t.count) e }

  pub takes-given : (f : Flag) → FlagTakes f left vs rs t
      → length (elements_for f t.count (take t.values vs)) ≡ elements_given f t.count t.values
  takes-given full k = length-map (take t.values vs) good ∙ length-take-le t.values vs k.enough
  takes-given same k = repeated-length vs k.wanted k.enough
    where
      repeated-length : (us : List ℤ) → t.values ≡ 1 → t.values ≤ length us
          → length (elements_for same t.count (take t.values us)) ≡ t.count
      repeated-length [] e h = absurd (omega arith)
      repeated-length (v ∷ us) e h = rw e (length-replicate t.count (good v))
  takes-given bad-run k = bads-length t.count t.values vs k.enough
  takes-given bad-one k = bads-length t.count t.values vs k.enough
  takes-given fulls k = length-map (take t.values vs) good ∙ length-take-le t.values vs k.enough

  pub takes-few : (f : Flag) → FlagTakes f left vs rs t → elements_given f t.count t.values ≤ left
  takes-few full k = omega (arith, k.some, k.most, k.wanted)
  takes-few same k = k.most
  takes-few bad-run k = bads-few left t.count t.values k.most k.wanted
  takes-few bad-one k = bads-few left t.count t.values k.most k.wanted
  takes-few fulls k = omega (arith, k.most, k.wanted)

  pub takes-some : (f : Flag) → FlagTakes f left vs rs t → 0 < elements_given f t.count t.values
  takes-some full k = omega (arith, k.wanted)
  takes-some same k = k.some
  takes-some bad-run k = omega (arith, k.some)
  takes-some bad-one k = omega (arith, k.some)
  takes-some fulls k = omega (arith, k.some, k.wanted)

  -- bad elements that do not end their row take a value
  pub takes-last : (f : Flag) → FlagTakes f left vs rs t → elements_given f t.count t.values < left → 0 < t.values
  takes-last full k h = omega (arith, k.wanted)
  takes-last same k h = omega (arith, k.wanted)
  takes-last bad-run k h = bads-last left t.count t.values k.wanted h
  takes-last bad-one k h = bads-last left t.count t.values k.wanted h
  takes-last fulls k h = omega (arith, k.some, k.wanted)
