-- Reading and the grammar agree on every input: what is read, what is left, and every number. Assumes nothing.
use Rattle.std.specs.Prelude.{ℕ, suc, ◌+◌, ◌-◌, ◌≤◌, ◌<◌, ◌≡◌, refl, ◌⊎◌, List, [], ◌∷◌, ◌++◌, length, replicate, eqb, ltb, ℤ, pos}
use Rattle.std.proofs.Common.{arith, sym, ap, ◌∙◌, subst, inl, inr, append_assoc, append-nil, length-append, eqb-true, lt-ltb, le-ltb, ne_eqb, eq-eqb}
use Rattle.std.proofs.lemmas.List.{length-replicate, length-map}
use Rattle.std.proofs.Math.Seq.{take-append_seam, drop-append_seam}
use Rattle.std.proofs.lemmas.Bool.{eqb-false}
use Rattle.row_format.specs.Lists.Laws.{by-test}
use Rattle.delta_format.specs.Row.{Element, good, bad, Flag, full, same, bad-run, bad-one, fulls, Previous, none, value, Part, fault, gives, values_for, flag_gives, flag_part, part_of, RowReading, stops, reads, joined_to, and_then, row_from}
use Rattle.delta_format.proofs.Row.Laws.{from_zero, from-ends, from_next}
use Rattle.delta_format.specs.Grammar.{PartCode, full-value, same-values, bad-values, bad-end, bad-value, bad_last, full-values, step, RowCode, row-end, part, RowBegins, HasCount, full-one, bad-only, same_count, bad-count, full-count, CountedFlag, same-counted, bad-counted, fulls-counted, FaultCode, no_flag, no-count, leaves, below_one_lem, sum-out, RowFault, data-ends, faulty, after}
use Rattle.delta_format.proofs.Grammar.Laws.{part-flag, part-difference, PartIs, part-is}

-- ---- an element gives some, and no more than the row wants
pub part-some : {max : ℤ} {p : Previous} {left : ℕ} {d : ℤ} {us cs : List ℤ} {es : List Element} {q : Previous}
    → PartCode max p left d us cs es q → 0 < left → (0 < length es) × (length es ≤ left)
part-some (full-value v is h) g = (omega arith, omega arith)
part-some (same-values v c is h k) g = (omega (arith, length-replicate c (good v)), omega (arith, length-replicate c (good v)))
part-some (bad-values v c is h k) g =
    let long : length (replicate c bad ++ (good v ∷ [])) ≡ c + 1 =
    length-append (replicate c bad) (good v ∷ []) ∙ ap (λ (m : ℕ). m + 1) (length-replicate c bad) in
    (omega arith, omega arith)
part-some (bad-end c is h) g = (omega (arith, length-replicate c bad), omega (arith, length-replicate c bad))
part-some (bad-value v is h) g = (omega arith, h)
part-some (bad_last is) g = (omega arith, omega arith)
part-some (full-values us is h k) g = (omega (arith, length-map us good), omega (arith, length-map us good))
part-some (step v n i) g = (omega arith, g)

-- ---- what is read is in the grammar
abbrev pub RowReadAs : ℤ → Previous → ℕ → List ℤ → List ℤ → List ℤ → RowReading → Type 0
RowReadAs max p left ds vs rs (stops e) = RowFault max p left ds vs rs e
RowReadAs max p left ds vs rs (reads es ds' vs' rs') = RowBegins max p left ds vs rs es ds' vs' rs'

nothing_read : {max : ℤ} {p : Previous} (ds vs rs : List ℤ) → RowBegins max p 0 ds vs rs [] ds vs rs
nothing_read ds vs rs = record {
  data-used = [];
  values-used = [];
  counts-used = [];
  codes = row-end;
  data_is = refl;
  values-is = refl;
  counts-is = refl;
}

module _ {max : ℤ} {p q : Previous} (n : ℕ) {d : ℤ} {us cs : List ℤ} {es : List Element}
    (code : PartCode max p (length es + n) d us cs es q) where
  -- a part, and what the rest is read as
  joins : (ds ws ts : List ℤ) (r : RowReading) → RowReadAs max q n ds ws ts r
      → RowReadAs max p (length es + n) (d ∷ ds) (us ++ ws) (cs ++ ts) (joined_to es r)
  joins ds ws ts (stops e) f = after code f
  joins ds ws ts (reads fs ds' vs' rs') b = record {
    data-used = d ∷ b.data-used;
    values-used = us ++ b.values-used;
    counts-used = cs ++ b.counts-used;
    codes = part code b.codes;
    data_is = ap (λ (l : List ℤ). d ∷ l) b.data_is;
    values-is = ap (λ (l : List ℤ). us ++ l) b.values-is ∙ sym (append_assoc us b.values-used vs');
    counts-is = ap (λ (l : List ℤ). cs ++ l) b.counts-is ∙ sym (append_assoc cs b.counts-used rs');
  }

pub row_is : (max : ℤ) (p : Previous) (left : ℕ) (ds vs rs : List ℤ) → RowReadAs max p left ds vs rs (row_from max p left ds vs rs)
row_is max p left [] vs rs =
    by-test (eqb left 0)
    (λ t. let z : left ≡ 0 = eqb-true left 0 t in
    subst (λ (m : ℕ). RowReadAs max p m [] vs rs (row_from max p m [] vs rs)) (sym z)
    (subst (RowReadAs max p 0 [] vs rs) (sym (from_zero max p [] vs rs)) (nothing_read [] vs rs)))
    (λ t. let z : left ≡ 0 → ⊥ = eqb-false left 0 t in
    let some : 0 < left = omega arith in
    subst (RowReadAs max p left [] vs rs) (sym (from-ends max p left vs rs some)) (data-ends some))
row_is max p left (d ∷ ds) vs rs =
    by-test (eqb left 0)
    (λ t. let z : left ≡ 0 = eqb-true left 0 t in
    subst (λ (m : ℕ). RowReadAs max p m (d ∷ ds) vs rs (row_from max p m (d ∷ ds) vs rs)) (sym z)
    (subst (RowReadAs max p 0 (d ∷ ds) vs rs) (sym (from_zero max p (d ∷ ds) vs rs)) (nothing_read (d ∷ ds) vs rs)))
    (λ t. let z : left ≡ 0 → ⊥ = eqb-false left 0 t in
    let some : 0 < left = omega arith in
    subst (RowReadAs max p left (d ∷ ds) vs rs) (sym (from_next max p left d ds vs rs some))
    (by_part some (part_of max p left d vs rs) (part-is max p left d vs rs)
    (λ es q ws ts. row_is max q (left - length es) ds ws ts)))
  where
    by_part : 0 < left → (r : Part) → PartIs max p left d vs rs r
        → ((es : List Element) (q : Previous) (ws ts : List ℤ)
        → RowReadAs max q (left - length es) ds ws ts (row_from max q (left - length es) ds ws ts))
        → RowReadAs max p left (d ∷ ds) vs rs (and_then r (λ es q ws ts. row_from max q (left - length es) ds ws ts))
    by_part some (fault e) f rest = faulty some f
    by_part some (gives es q ws ts) k rest =
        let many : length es ≤ left = (part-some k.code some).1 in
        let all : left ≡ length es + (left - length es) = omega arith in
        let code : PartCode max p (length es + (left - length es)) d k.values-taken k.counts-taken es q =
        subst (λ (m : ℕ). PartCode max p m d k.values-taken k.counts-taken es q) all k.code in
        let here : RowReadAs max p (length es + (left - length es)) (d ∷ ds) (k.values-taken ++ ws) (k.counts-taken ++ ts)
        (joined_to es (row_from max q (left - length es) ds ws ts)) =
        joins (left - length es) code ds ws ts (row_from max q (left - length es) ds ws ts) (rest es q ws ts) in
        let back : RowReadAs max p (length es + (left - length es)) (d ∷ ds) vs rs (joined_to es
        (row_from max q (left - length es) ds ws ts)) =
        rw (k.values-is, k.counts-is) here in
        subst (λ (m : ℕ). RowReadAs max p m (d ∷ ds) vs rs (joined_to es (row_from max q (left - length es) ds ws ts))) (sym all) back

-- ---- what is in the grammar is read
pub part_length : {max : ℤ} {p : Previous} {left : ℕ} {d : ℤ} {us cs : List ℤ} {es : List Element} {q : Previous}
    → PartCode max p left d us cs es q → 0 < length es
part_length (full-value v is h) = omega arith
part_length (same-values v c is h k) = omega (arith, length-replicate c (good v))
part_length (bad-values v c is h k) = omega (arith, length-append (replicate c bad) (good v ∷ []))
part_length (bad-end c is h) = omega (arith, length-replicate c bad)
part_length (bad-value v is h) = omega arith
part_length (bad_last is) = omega arith
part_length (full-values us is h k) = omega (arith, length-map us good)
part_length (step v n i) = omega arith

pub code_reads : {max : ℤ} {p : Previous} {left : ℕ} {d : ℤ} {us cs : List ℤ} {es : List Element} {q : Previous}
    → PartCode max p left d us cs es q → (ws ts : List ℤ) → part_of max p left d (us ++ ws) (cs ++ ts) ≡ gives es q ws ts
code_reads {max} {p} {left} {d} (full-value v is h) ws ts =
    part-flag max p left d (v ∷ ws) ts full is ∙ rw (le-ltb left 1 h, le-ltb (suc (length ws)) 1 (omega arith)) refl
code_reads {max} {p} {left} {d} (same-values v c is h k) ws ts =
    part-flag max p left d (v ∷ ws) (pos c ∷ ts) same is
    ∙ rw (le-ltb left c k, le-ltb (suc (length ws)) 1 (omega arith), ne_eqb c 0 (λ e. omega arith)) refl
code_reads {max} {p} {left} {d} (bad-values v c is h k) ws ts =
    part-flag max p left d (v ∷ ws) (pos c ∷ ts) bad-run is
    ∙ rw (
      ne_eqb c left (λ e. omega arith),
      le-ltb left c (omega arith),
      le-ltb (suc (length ws)) 1 (omega arith),
      ne_eqb c 0 (λ e. omega arith),
    ) refl
code_reads {max} {p} {left} {d} (bad-end c is h) ws ts =
    part-flag max p c d ws (pos c ∷ ts) bad-run is
    ∙ rw (eq-eqb c c refl, le-ltb c c (omega arith), le-ltb (length ws) 0 (omega arith), ne_eqb c 0 (λ e. omega arith))
    (ap (λ (es : List Element). gives es p ws ts) (append-nil (replicate c bad)))
code_reads {max} {p} {left} {d} (bad-value v is h) ws ts =
    part-flag max p left d (v ∷ ws) ts bad-one is
    ∙ rw (ne_eqb 1 left (λ e. omega arith), le-ltb left 1 (omega arith), le-ltb (suc (length ws)) 1 (omega arith)) refl
code_reads {max} {p} {left} {d} (bad_last is) ws ts =
    part-flag max p 1 d ws ts bad-one is ∙ rw (le-ltb (length ws) 0 (omega arith)) refl
code_reads {max} {p} {left} {d} (full-values us is h k) ws ts =
    part-flag max p left d (us ++ ws) (pos (length us) ∷ ts) fulls is
    ∙ rw (
      le-ltb left (length us) k,
      le-ltb (length (us ++ ws)) (length us) (omega (arith, length-append us ws)),
      ne_eqb (length us) 0 (λ e. omega arith),
      take-append_seam us ws,
      drop-append_seam us ws,
    ) refl
code_reads {max} {p} {left} {d} (step v n i) ws ts = part-difference max (value v) left d ws ts n ∙ rw i refl

pub code_row : {max : ℤ} {p : Previous} {n : ℕ} {ds vs rs : List ℤ} {es : List Element} → RowCode max p n ds vs rs es
    → (ds' vs' rs' : List ℤ) → row_from max p n (ds ++ ds') (vs ++ vs') (rs ++ rs') ≡ reads es ds' vs' rs'
code_row {max} {p} row-end ds' vs' rs' = from_zero max p ds' vs' rs'
code_row {max} {p} (part {q = q} {n = n} {d = d} {us = us} {cs = cs} {es = es} {ds = ds} {vs = vs} {rs = rs} {fs = fs} code rest) ds'
    vs' rs' =
    let some : 0 < length es + n = omega (arith, part_length code) in
    let left : length es + n - length es ≡ n = omega arith in
    rw (append_assoc us vs vs', append_assoc cs rs rs')
    (from_next max p (length es + n) d (ds ++ ds') (us ++ (vs ++ vs')) (cs ++ (rs ++ rs')) some
    ∙ rw (code_reads code (vs ++ vs') (rs ++ rs'), left)
    (ap (joined_to es) (code_row rest ds' vs' rs')))

-- ---- what the grammar refuses is refused
-- a flag with its count
has_part : {f : Flag} {rs : List ℤ} {c : ℕ} → HasCount f rs c → (p : Previous) (left : ℕ) (vs : List ℤ) (e : ℕ)
    → ((ts : List ℤ) → flag_gives f p left c (values_for f left c) vs ts ≡ fault e) → flag_part f p left vs rs ≡ fault e
has_part (full-one {rs = rs}) p left vs e h = h rs
has_part (bad-only {rs = rs}) p left vs e h = h rs
has_part (same_count {rs = rs}) p left vs e h = h rs
has_part (bad-count {rs = rs}) p left vs e h = h rs
has_part (full-count {rs = rs}) p left vs e h = h rs

no-count-part : {f : Flag} → CountedFlag f → (p : Previous) (left : ℕ) (vs : List ℤ) → flag_part f p left vs [] ≡ fault 25
no-count-part same-counted p left vs = refl
no-count-part bad-counted p left vs = refl
no-count-part fulls-counted p left vs = refl

leaves-part : (f : Flag) (p : Previous) (left c : ℕ) (vs ts : List ℤ) → (left < c) ⊎ (length vs < values_for f left c)
    → flag_gives f p left c (values_for f left c) vs ts ≡ fault 25
leaves-part f p left c vs ts (inl h) = rw (lt-ltb left c h) refl
leaves-part f p left c vs ts (inr h) = by-test (ltb left c) (λ t. rw t refl) (λ t. rw (t, lt-ltb (length vs) (values_for f left c) h) refl)

fault-reads : {max : ℤ} {p : Previous} {left : ℕ} {d : ℤ} {vs rs : List ℤ} {e : ℕ} → FaultCode max p left d vs rs e
    → part_of max p left d vs rs ≡ fault e
fault-reads {max} {p} {left} {d} {vs} {rs} (no_flag n) = part-difference max none left d vs rs n
fault-reads {max} {p} {left} {d} {vs} {rs} (no-count f is counted) = part-flag max p left d vs [] f is ∙ no-count-part counted p left vs
fault-reads {max} {p} {left} {d} {vs} {rs} (leaves f c is has h) =
    part-flag max p left d vs rs f is ∙ has_part has p left vs 25 (λ ts. leaves-part f p left c vs ts h)
fault-reads {max} {p} {left} {d} {vs} {rs} (below_one_lem f is has h) =
    part-flag max p left d vs rs f is
    ∙ has_part has p left vs 26 (λ ts. rw (le-ltb left 0 (omega arith), le-ltb (length vs) (values_for f left 0) h) refl)
fault-reads {max} {p} {left} {d} {vs} {rs} (sum-out v n i) = part-difference max (value v) left d vs rs n ∙ rw i refl

pub fault-row : {max : ℤ} {p : Previous} {left : ℕ} {ds vs rs : List ℤ} {e : ℕ} → RowFault max p left ds vs rs e
    → row_from max p left ds vs rs ≡ stops e
fault-row {max} {p} {left} {ds} {vs} {rs} (data-ends h) = from-ends max p left vs rs h
fault-row {max} {p} {left} {ds} {vs} {rs} (faulty {d = d} {ds = rest} h f) =
    from_next max p left d rest vs rs h ∙ rw (fault-reads f) refl
fault-row {max} {p} (after {q = q} {n = n} {d = d} {us = us} {cs = cs} {es = es} {ds = ds} {vs = vs} {rs = rs} code rest) =
    let some : 0 < length es + n = omega (arith, part_length code) in
    let left : length es + n - length es ≡ n = omega arith in
    from_next max p (length es + n) d ds (us ++ vs) (cs ++ rs) some
    ∙ rw (code_reads code vs rs, left) (ap (joined_to es) (fault-row rest))
