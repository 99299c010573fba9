-- What each element of DATA is read as, by the grammar. Assumes nothing.
use Rattle.std.specs.Prelude.{ℕ, zero, suc, ◌≤◌, ◌<◌, ◌≡◌, refl, cond, List, [], ◌∷◌, ◌++◌, map, length, take, drop, replicate, eqb, ltb, ℤ, pos, negsuc, nat_abs, ◌+ℤ◌, ◌-ℤ◌}
use Rattle.std.proofs.Common.{arith, sym, ◌∙◌, subst, inl, inr, append-nil, take-append-drop, length-take-le, eqb-true, ltb-true, ltb-false}
use Rattle.std.proofs.Math.Path.{ap}
use Rattle.std.proofs.Math.IntN.{pos-ne-negsuc}
use Rattle.std.proofs.lemmas.Bool.{eqb-false}
use Rattle.row_format.specs.Lists.Laws.{by-test}
use Rattle.delta_format.specs.Numbers.{in32}
use Rattle.delta_format.specs.Row.{Element, good, bad, Flag, full, same, bad-run, bad-one, fulls, Meaning, flag, difference, meaning_at, meaning_of, Previous, none, value, last_from, Part, fault, gives, count_of, values_for, elements_for, flag_gives, flag_part, summed, difference_part, part_by, part_of}
use Rattle.delta_format.specs.Grammar.{below_max, IsFlag, NoFlag, PartCode, full-value, same-values, bad-values, bad-end, bad-value, bad_last, full-values, step, HasCount, full-one, bad-only, same_count, bad-count, full-count, same-counted, bad-counted, fulls-counted, FaultCode, no_flag, no-count, leaves, below_one_lem, sum-out}

-- ---- what an element is
pos-same : {a b : ℕ} → pos a ≡ pos b → a ≡ b
pos-same e = ap nat_abs e

-- five or more below MAX, or above it
far : (max d : ℤ) (z : ℤ) → max -ℤ d ≡ z → ((f : Flag) → z ≡ pos (below_max f) → ⊥) → NoFlag max d
far max d z e h f is = h f (sym e ∙ is)

pub data View (max d : ℤ) : Type 0 where
  a-flag : (f : Flag) → IsFlag max f d → meaning_of max d ≡ flag f → View max d
  no-flag-at-all : NoFlag max d → meaning_of max d ≡ difference → View max d

view_of : (max d z : ℤ) → max -ℤ d ≡ z → View max d
view_of max d (pos zero) e = a-flag full e (ap meaning_at e)
view_of max d (pos (suc zero)) e = a-flag same e (ap meaning_at e)
view_of max d (pos (suc (suc zero))) e = a-flag bad-run e (ap meaning_at e)
view_of max d (pos (suc (suc (suc zero)))) e = a-flag bad-one e (ap meaning_at e)
view_of max d (pos (suc (suc (suc (suc zero))))) e = a-flag fulls e (ap meaning_at e)
view_of max d (pos (suc (suc (suc (suc (suc k)))))) e = no-flag-at-all (far max d _ e high) (ap meaning_at e)
  where
    high : (f : Flag) → pos (suc (suc (suc (suc (suc k))))) ≡ pos (below_max f) → ⊥
    high full h = let q : suc (suc (suc (suc (suc k)))) ≡ 0 = pos-same h in omega arith
    high same h = let q : suc (suc (suc (suc (suc k)))) ≡ 1 = pos-same h in omega arith
    high bad-run h = let q : suc (suc (suc (suc (suc k)))) ≡ 2 = pos-same h in omega arith
    high bad-one h = let q : suc (suc (suc (suc (suc k)))) ≡ 3 = pos-same h in omega arith
    high fulls h = let q : suc (suc (suc (suc (suc k)))) ≡ 4 = pos-same h in omega arith
view_of max d (negsuc k) e = no-flag-at-all (far max d _ e (λ f h. pos-ne-negsuc (below_max f) k (sym h))) (ap meaning_at e)

pub flag-view : (max d : ℤ) → View max d
flag-view max d = view_of max d (max -ℤ d) refl

pub flag-means : (max d : ℤ) (f : Flag) → IsFlag max f d → meaning_of max d ≡ flag f
flag-means max d full e = ap meaning_at e
flag-means max d same e = ap meaning_at e
flag-means max d bad-run e = ap meaning_at e
flag-means max d bad-one e = ap meaning_at e
flag-means max d fulls e = ap meaning_at e

pub no-flag-means : (max d : ℤ) → NoFlag max d → meaning_of max d ≡ difference
no-flag-means max d h = by-view (flag-view max d)
  where
    by-view : View max d → meaning_of max d ≡ difference
    by-view (a-flag f is m) = absurd (h f is)
    by-view (no-flag-at-all n m) = m

module _ (max : ℤ) (p : Previous) (left : ℕ) (d : ℤ) (vs rs : List ℤ) where
  pub part-flag : (f : Flag) → IsFlag max f d → part_of max p left d vs rs ≡ flag_part f p left vs rs
  unfolding part_of
  part-flag f is = ap (λ (m : Meaning). part_by m p left d vs rs) (flag-means max d f is)

  pub part-difference : NoFlag max d → part_of max p left d vs rs ≡ difference_part p d vs rs
  unfolding part_of
  part-difference h = ap (λ (m : Meaning). part_by m p left d vs rs) (no-flag-means max d h)

-- ---- what is read is in the grammar: a part takes the values us and the counts cs, and leaves ws and ts
pub record PartTaken (max : ℤ) (p : Previous) (left : ℕ) (d : ℤ) (vs rs : List ℤ) (es : List Element) (q : Previous) (ws ts : List ℤ) :
    Type 0 where
  pub values-taken : List ℤ
  pub counts-taken : List ℤ
  pub values-is : vs ≡ values-taken ++ ws
  pub counts-is : rs ≡ counts-taken ++ ts
  pub code : PartCode max p left d values-taken counts-taken es q

abbrev pub PartIs : ℤ → Previous → ℕ → ℤ → List ℤ → List ℤ → Part → Type 0
PartIs max p left d vs rs (fault e) = FaultCode max p left d vs rs e
PartIs max p left d vs rs (gives es q ws ts) = PartTaken max p left d vs rs es q ws ts

-- a count that is not below 1
count-pos : (r : ℤ) → (count_of r ≡ 0 → ⊥) → r ≡ pos (count_of r)
count-pos (pos n) h = refl
count-pos (negsuc n) h = absurd (h refl)

module _ (max : ℤ) (p : Previous) (left : ℕ) (d : ℤ) where
  -- the flag f with the count c: refused, or done as `done` says
  flag_is : (vs rs ts : List ℤ) (f : Flag) (c : ℕ) → IsFlag max f d → HasCount f rs c
      → (c ≤ left → values_for f left c ≤ length vs → (c ≡ 0 → ⊥)
      → PartTaken max p left d vs rs (elements_for f c (take (values_for f left c) vs)) (last_from p (take (values_for f left c) vs))
      (drop (values_for f left c) vs) ts)
      → PartIs max p left d vs rs (flag_gives f p left c (values_for f left c) vs ts)
  flag_is vs rs ts f c is has done =
      by-test (ltb left c)
      (λ t. let is-25 : flag_gives f p left c (values_for f left c) vs ts ≡ fault 25 = rw t refl in
      subst (PartIs max p left d vs rs) (sym is-25) (leaves f c is has (inl (ltb-true left c t))))
      (λ t. by-test (ltb (length vs) (values_for f left c))
      (λ u. let is-25 : flag_gives f p left c (values_for f left c) vs ts ≡ fault 25 = rw (t, u) refl in
      subst (PartIs max p left d vs rs) (sym is-25) (leaves f c is has (inr (ltb-true (length vs) (values_for f left c) u))))
      (λ u. by-test (eqb c 0)
      (λ z. let is-26 : flag_gives f p left c (values_for f left c) vs ts ≡ fault 26 = rw (t, u, z) refl in
      let none_left : c ≡ 0 = eqb-true c 0 z in
      subst (PartIs max p left d vs rs) (sym is-26)
      (below_one_lem f is (subst (HasCount f rs) none_left has)
      (subst (λ (k : ℕ). values_for f left k ≤ length vs) none_left (ltb-false (length vs) (values_for f left c) u))))
      (λ z. let is-done : flag_gives f p left c (values_for f left c) vs ts
      ≡ gives (elements_for f c (take (values_for f left c) vs)) (last_from p (take (values_for f left c) vs))
      (drop (values_for f left c) vs) ts = rw (t, u, z) refl in
      subst (PartIs max p left d vs rs) (sym is-done)
      (done (ltb-false left c t) (ltb-false (length vs) (values_for f left c) u) (eqb-false c 0 z)))))

  full_is : (vs rs : List ℤ) → IsFlag max full d → PartIs max p left d vs rs (flag_part full p left vs rs)
  full_is vs rs is = flag_is vs rs rs full 1 is full-one (done vs)
    where
      done : (vs : List ℤ) → 1 ≤ left → 1 ≤ length vs → (◌≡◌ {A = ℕ} 1 0 → ⊥)
          → PartTaken max p left d vs rs (map good (take 1 vs)) (last_from p (take 1 vs)) (drop 1 vs) rs
      done [] h g z = absurd (omega arith)
      done (v ∷ vs) h g z =
          record { values-taken = v ∷ []; counts-taken = []; values-is = refl; counts-is = refl; code = full-value v is h }

  same-is : (vs rs : List ℤ) → IsFlag max same d → PartIs max p left d vs rs (flag_part same p left vs rs)
  same-is vs [] is = no-count same is same-counted
  same-is vs (r ∷ rs) is = flag_is vs (r ∷ rs) rs same (count_of r) is same_count (done vs)
    where
      done : (vs : List ℤ) → count_of r ≤ left → 1 ≤ length vs → (count_of r ≡ 0 → ⊥)
          → PartTaken max p left d vs (r ∷ rs) (elements_for same (count_of r) (take 1 vs)) (last_from p (take 1 vs)) (drop 1 vs) rs
      done [] h g z = absurd (omega arith)
      done (v ∷ vs) h g z = record {
        values-taken = v ∷ [];
        counts-taken = pos (count_of r) ∷ [];
        values-is = refl;
        counts-is = ap (λ (c : ℤ). c ∷ rs) (count-pos r z);
        code = same-values v (count_of r) is (omega arith) h;
      }

  bad-run-is : (vs rs : List ℤ) → IsFlag max bad-run d → PartIs max p left d vs rs (flag_part bad-run p left vs rs)
  bad-run-is vs [] is = no-count bad-run is bad-counted
  bad-run-is vs (r ∷ rs) is = flag_is vs (r ∷ rs) rs bad-run (count_of r) is bad-count done
    where
      Taken : ℕ → Type 0
      Taken n =
          PartTaken max p left d vs (r ∷ rs) (replicate (count_of r) bad ++ map good (take n vs)) (last_from p (take n vs)) (drop n vs) rs

      ends : (count_of r ≡ 0 → ⊥) → count_of r ≡ left → Taken 0
      ends z e =
          let code : PartCode max p left d [] (pos (count_of r) ∷ []) (replicate (count_of r) bad) p =
          subst (λ (m : ℕ). PartCode max p m d [] (pos (count_of r) ∷ []) (replicate (count_of r) bad) p) e
          (bad-end (count_of r) is (omega arith)) in
          record {
            values-taken = [];
            counts-taken = pos (count_of r) ∷ [];
            values-is = refl;
            counts-is = ap (λ (k : ℤ). k ∷ rs) (count-pos r z);
            code =
                subst (λ (es : List Element). PartCode max p left d [] (pos (count_of r) ∷ []) es p)
                (sym (append-nil (replicate (count_of r) bad))) code;
          }

      goes : (us : List ℤ) → 1 ≤ length us → (count_of r ≡ 0 → ⊥) → count_of r < left
          → PartTaken max p left d us (r ∷ rs) (replicate (count_of r) bad ++ map good (take 1 us)) (last_from p (take 1 us)) (drop 1 us) rs
      goes [] g z h = absurd (omega arith)
      goes (v ∷ us) g z h = record {
        values-taken = v ∷ [];
        counts-taken = pos (count_of r) ∷ [];
        values-is = refl;
        counts-is = ap (λ (k : ℤ). k ∷ rs) (count-pos r z);
        code = bad-values v (count_of r) is (omega arith) h;
      }

      done : count_of r ≤ left → cond (eqb (count_of r) left) 0 1 ≤ length vs → (count_of r ≡ 0 → ⊥) → Taken (cond (eqb (count_of r) left) 0 1)
      done h g z =
          by-test (eqb (count_of r) left)
          (λ t. let n : cond (eqb (count_of r) left) 0 1 ≡ 0 = rw t refl in
          subst Taken (sym n) (ends z (eqb-true (count_of r) left t)))
          (λ t. let n : cond (eqb (count_of r) left) 0 1 ≡ 1 = rw t refl in
          let other : count_of r ≡ left → ⊥ = eqb-false (count_of r) left t in
          subst Taken (sym n) (goes vs (omega arith) z (omega arith)))

  bad-one-is : (vs rs : List ℤ) → IsFlag max bad-one d → PartIs max p left d vs rs (flag_part bad-one p left vs rs)
  bad-one-is vs rs is = flag_is vs rs rs bad-one 1 is bad-only done
    where
      Taken : ℕ → Type 0
      Taken n = PartTaken max p left d vs rs (bad ∷ map good (take n vs)) (last_from p (take n vs)) (drop n vs) rs

      ends : 1 ≡ left → Taken 0
      ends e = record {
        values-taken = [];
        counts-taken = [];
        values-is = refl;
        counts-is = refl;
        code = subst (λ (m : ℕ). PartCode max p m d [] [] (bad ∷ []) p) e (bad_last is);
      }

      goes : (us : List ℤ) → 1 ≤ length us → 1 < left
          → PartTaken max p left d us rs (bad ∷ map good (take 1 us)) (last_from p (take 1 us)) (drop 1 us) rs
      goes [] g h = absurd (omega arith)
      goes (v ∷ us) g h =
          record { values-taken = v ∷ []; counts-taken = []; values-is = refl; counts-is = refl; code = bad-value v is h }

      done : 1 ≤ left → cond (eqb 1 left) 0 1 ≤ length vs → (◌≡◌ {A = ℕ} 1 0 → ⊥) → Taken (cond (eqb 1 left) 0 1)
      done h g z =
          by-test (eqb 1 left)
          (λ t. let n : cond (eqb 1 left) 0 1 ≡ 0 = rw t refl in subst Taken (sym n) (ends (eqb-true 1 left t)))
          (λ t. let n : cond (eqb 1 left) 0 1 ≡ 1 = rw t refl in
          let other : 1 ≡ left → ⊥ = eqb-false 1 left t in
          subst Taken (sym n) (goes vs (omega arith) (omega arith)))

  fulls-is : (vs rs : List ℤ) → IsFlag max fulls d → PartIs max p left d vs rs (flag_part fulls p left vs rs)
  fulls-is vs [] is = no-count fulls is fulls-counted
  fulls-is vs (r ∷ rs) is = flag_is vs (r ∷ rs) rs fulls (count_of r) is full-count done
    where
      done : count_of r ≤ left → count_of r ≤ length vs → (count_of r ≡ 0 → ⊥)
          → PartTaken max p left d vs (r ∷ rs) (map good (take (count_of r) vs)) (last_from p (take (count_of r) vs)) (drop (count_of r) vs) rs
      done h g z =
          let long : length (take (count_of r) vs) ≡ count_of r = length-take-le (count_of r) vs g in
          let some : 0 < length (take (count_of r) vs) = omega arith in
          let few : length (take (count_of r) vs) ≤ left = omega arith in
          record {
            values-taken = take (count_of r) vs;
            counts-taken = pos (length (take (count_of r) vs)) ∷ [];
            values-is = sym (take-append-drop (count_of r) vs);
            counts-is = ap (λ (k : ℤ). k ∷ rs) (count-pos r z ∙ ap pos (sym long));
            code = full-values (take (count_of r) vs) is some few;
          }

  difference-is : (q : Previous) (vs rs : List ℤ) → NoFlag max d → PartIs max q left d vs rs (difference_part q d vs rs)
  difference-is none vs rs h = no_flag h
  difference-is (value v) vs rs h =
      by-test (in32 (v +ℤ d))
      (λ t. let is : summed (v +ℤ d) vs rs ≡ gives (good (v +ℤ d) ∷ []) (value (v +ℤ d)) vs rs = rw t refl in
      subst (PartIs max (value v) left d vs rs) (sym is)
      (record { values-taken = []; counts-taken = []; values-is = refl; counts-is = refl; code = step v h t }))
      (λ t. let is : summed (v +ℤ d) vs rs ≡ fault 28 = rw t refl in
      subst (PartIs max (value v) left d vs rs) (sym is) (sum-out v h t))

by_flag : (max : ℤ) (p : Previous) (left : ℕ) (d : ℤ) (vs rs : List ℤ) (f : Flag) → IsFlag max f d
    → PartIs max p left d vs rs (flag_part f p left vs rs)
by_flag max p left d vs rs full is = full_is max p left d vs rs is
by_flag max p left d vs rs same is = same-is max p left d vs rs is
by_flag max p left d vs rs bad-run is = bad-run-is max p left d vs rs is
by_flag max p left d vs rs bad-one is = bad-one-is max p left d vs rs is
by_flag max p left d vs rs fulls is = fulls-is max p left d vs rs is

pub part-is : (max : ℤ) (p : Previous) (left : ℕ) (d : ℤ) (vs rs : List ℤ) → PartIs max p left d vs rs (part_of max p left d vs rs)
part-is max p left d vs rs = by-view (flag-view max d)
  where
    by-view : View max d → PartIs max p left d vs rs (part_of max p left d vs rs)
    by-view (a-flag f is m) =
        subst (PartIs max p left d vs rs) (sym (part-flag max p left d vs rs f is)) (by_flag max p left d vs rs f is)
    by-view (no-flag-at-all n m) =
        subst (PartIs max p left d vs rs) (sym (part-difference max p left d vs rs n)) (difference-is max p left d p vs rs n)
