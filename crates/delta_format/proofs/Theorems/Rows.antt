-- Rows: what the theorems page says of them. Assumes nothing.
use Rattle.std.specs.Prelude.{ℕ, ◌+◌, ◌-◌, ◌≤◌, ◌<◌, ◌≡◌, refl, true, ◌↔◌, ◌⊎◌, List, [], ◌∷◌, ◌++◌, length, drop, eqb, ℤ, pos, neg_ℤ, ◌+ℤ◌, ◌-ℤ◌}
use Rattle.std.proofs.Common.{arith, sym, ap, ◌∙◌, subst, inl, inr, append-nil, length-append, length-drop, ne_eqb}
use Rattle.std.proofs.Math.IntN.{+ℤ_assoc, +ℤ_invr, +ℤ_idl, neg_ℤ-+ℤ, neg_ℤ-neg_ℤ}
use Rattle.row_format.specs.Lists.{any}
use Rattle.row_format.specs.Lists.Laws.{by-test}
use Rattle.delta_format.specs.Row.{Element, Flag, full, same, bad-run, bad-one, fulls, Previous, Meaning, flag, difference, meaning_of, values_for, stops, reads, joined_to, row_from}
use Rattle.delta_format.proofs.Row.Laws.{from_zero, from_next}
use Rattle.delta_format.specs.Grammar.{below_max, NoFlag, PartCode, RowCode, row-end, part, RowBegins, FaultCode, no_flag, no-count, leaves, below_one_lem, sum-out, RowFault, data-ends, faulty, after}
use Rattle.delta_format.proofs.Grammar.Laws.{View, a-flag, no-flag-at-all, flag-view, flag-means, no-flag-means}
use Rattle.delta_format.proofs.Grammar.Exact.{RowReadAs, row_is, code_reads, code_row, fault-row, part_length}

-- ---- flags
back : (m k : ℤ) → m -ℤ (m -ℤ k) ≡ k
back m k =
    ap (λ (z : ℤ). m +ℤ z) (neg_ℤ-+ℤ m (neg_ℤ k) ∙ ap (λ (z : ℤ). neg_ℤ m +ℤ z) (neg_ℤ-neg_ℤ k))
    ∙ sym (+ℤ_assoc m (neg_ℤ m) k)
    ∙ ap (λ (z : ℤ). z +ℤ k) (+ℤ_invr m)
    ∙ +ℤ_idl k

pub flag-exactly : (max d : ℤ) (f : Flag) → (meaning_of max d ≡ flag f) ↔ (d ≡ max -ℤ pos (below_max f))
flag-exactly max d f = (there, here)
  where
    there : meaning_of max d ≡ flag f → d ≡ max -ℤ pos (below_max f)
    there e = by-view (flag-view max d)
      where
        place : Meaning → ℕ
        place (flag g) = below_max g
        place difference = 5

        other : difference ≡ flag f → d ≡ max -ℤ pos (below_max f)
        other h = absurd (five f (ap place h))
          where
            five : (g : Flag) → 5 ≡ below_max g → ⊥
            five full h = omega arith
            five same h = omega arith
            five bad-run h = omega arith
            five bad-one h = omega arith
            five fulls h = omega arith

        by-view : View max d → d ≡ max -ℤ pos (below_max f)
        by-view (a-flag g is m) = sym (back max d) ∙ ap (λ (z : ℤ). max -ℤ z) (is ∙ ap pos (ap place (sym m ∙ e)))
        by-view (no-flag-at-all n m) = other (sym m ∙ e)

    here : d ≡ max -ℤ pos (below_max f) → meaning_of max d ≡ flag f
    here e = flag-means max d f (ap (λ (z : ℤ). max -ℤ z) e ∙ back max (pos (below_max f)))

pub difference-exactly : (max d : ℤ) → (meaning_of max d ≡ difference) ↔ NoFlag max d
difference-exactly max d = (there, no-flag-means max d)
  where
    other : (f : Flag) → flag f ≡ difference → ⊥
    other f e = let q : ◌≡◌ {A = ℕ} 0 1 = ap kind e in omega arith
      where
        kind : Meaning → ℕ
        kind (flag g) = 0
        kind difference = 1

    there : meaning_of max d ≡ difference → NoFlag max d
    there e f is = other f (sym (flag-means max d f is) ∙ e)

-- ---- exactly
pub done-is : (max : ℤ) (p : Previous) (n : ℕ) (ds vs rs : List ℤ) (es : List Element) (ds' vs' rs' : List ℤ)
    → (row_from max p n ds vs rs ≡ reads es ds' vs' rs') ↔ RowBegins max p n ds vs rs es ds' vs' rs'
done-is max p n ds vs rs es ds' vs' rs' = (
  (λ e. subst (RowReadAs max p n ds vs rs) e (row_is max p n ds vs rs)),
  (λ b. rw (b.data_is, b.values-is, b.counts-is) (code_row b.codes ds' vs' rs')),
)

pub refused-is : (max : ℤ) (p : Previous) (n : ℕ) (ds vs rs : List ℤ) (e : ℕ)
    → (row_from max p n ds vs rs ≡ stops e) ↔ RowFault max p n ds vs rs e
refused-is max p n ds vs rs e = ((λ q. subst (RowReadAs max p n ds vs rs) q (row_is max p n ds vs rs)), fault-row)

pub code-length : {max : ℤ} {p : Previous} {n : ℕ} {ds vs rs : List ℤ} {es : List Element} → RowCode max p n ds vs rs es → length es ≡ n
code-length row-end = refl
code-length (part {n = n} {es = es} {fs = fs} code rest) = length-append es fs ∙ ap (λ (m : ℕ). length es + m) (code-length rest)

-- ---- a part, and then the rest
pub part_then : {max : ℤ} {p q : Previous} (n : ℕ) {d : ℤ} {us cs : List ℤ} {es : List Element}
    → PartCode max p (length es + n) d us cs es q → (ds vs rs : List ℤ)
    → row_from max p (length es + n) (d ∷ ds) (us ++ vs) (cs ++ rs) ≡ joined_to es (row_from max q n ds vs rs)
part_then {max} {p} {q} n {d} {us} {cs} {es} code ds vs rs =
    let some : 0 < length es + n = omega (arith, part_length code) in
    let left : length es + n - length es ≡ n = omega arith in
    from_next max p (length es + n) d ds (us ++ vs) (cs ++ rs) some ∙ rw (code_reads code vs rs, left) refl

-- a part that ends its row
pub ends-row : {max : ℤ} {p q : Previous} {n : ℕ} {d : ℤ} {us cs : List ℤ} {es : List Element} → PartCode max p n d us cs es q
    → length es ≡ n → (ds vs rs : List ℤ) → row_from max p n (d ∷ ds) (us ++ vs) (cs ++ rs) ≡ reads es ds vs rs
ends-row {max} {p} {q} {n} {d} {us} {cs} {es} code long ds vs rs =
    let some : 0 < n = omega (arith, part_length code) in
    let left : n - length es ≡ 0 = omega arith in
    from_next max p n d ds (us ++ vs) (cs ++ rs) some
    ∙ rw (code_reads code vs rs, left)
    (ap (joined_to es) (from_zero max q ds vs rs) ∙ ap (λ (fs : List Element). reads fs ds vs rs) (append-nil es))

-- ---- the numbers
code-number : {max : ℤ} {p : Previous} {left : ℕ} {d : ℤ} {vs rs : List ℤ} {e : ℕ} → FaultCode max p left d vs rs e
    → any (eqb e) (25 ∷ 26 ∷ 27 ∷ 28 ∷ []) ≡ true
unfolding any
code-number (no_flag n) = refl
code-number (no-count f is h) = refl
code-number (leaves f c is has h) = refl
code-number (below_one_lem f is has h) = refl
code-number (sum-out v n i) = refl

pub fault-number : {max : ℤ} {p : Previous} {n : ℕ} {ds vs rs : List ℤ} {e : ℕ} → RowFault max p n ds vs rs e
    → any (eqb e) (25 ∷ 26 ∷ 27 ∷ 28 ∷ []) ≡ true
unfolding any
fault-number (data-ends h) = refl
fault-number (faulty h f) = code-number f
fault-number (after code rest) = fault-number rest

-- ---- elements that are used lie inside their array
pub used-in : (all used rest : List ℤ) (at : ℕ) → drop at all ≡ used ++ rest → (used ≡ []) ⊎ (at + length used ≤ length all)
used-in all [] rest at e = inl refl
used-in all (u ∷ us) rest at e =
    let long : length all - at ≡ length (u ∷ us) + length rest =
    sym (length-drop at all) ∙ ap length e ∙ length-append (u ∷ us) rest in
    inr (omega arith)

-- ---- the value that bad elements want
pub wants-one : (left c : ℕ) → (c ≡ left → ⊥) → 0 < values_for bad-run left c
wants-one left c h = rw (ne_eqb c left h) (omega arith)

pub one_at_most : (left : ℕ) (vs : List ℤ) → 1 ≤ length vs → values_for bad-run left 0 ≤ length vs
one_at_most left vs h = by-test (eqb 0 left) (λ t. rw t (omega arith)) (λ t. rw t h)
