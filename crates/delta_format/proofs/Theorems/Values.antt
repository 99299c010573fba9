-- The values of a done row have 32 bits, and their bytes are read back as them. Assumes nothing.
use Rattle.std.specs.Prelude.{ℕ, zero, suc, ◌+◌, ◌-◌, ◌*◌, ◌/◌, ◌^◌, ◌≤◌, ◌<◌, ◌≡◌, refl, true, cond, List, [], ◌∷◌, ◌++◌, map, length, take, drop, replicate, ltb, ℤ, pos, negsuc, ◌-ℤ◌}
use Rattle.std.proofs.Common.{mod-eq_of_lt, arith, ap, ◌∙◌, subst, inl, inr, take_at, drop_at, ltb-true, ltb-false, leb-true, lt-ltb, le-leb}
use Rattle.std.proofs.lemmas.List.{length-map}
use Rattle.bitstream.specs.Bits.{digits, cut, num_of, bits_of, Below}
use Rattle.bitstream.specs.Bits.Laws.{length_digits, below-digits, num_of-digits, flat_append, flat-cut, pad-whole, below-cut, below-flat, below-head, below-tail}
use Rattle.row_format.specs.Lists.Laws.{by-test}
use Rattle.delta_format.specs.declared.RowPlaces.{RowPlaces}
use Rattle.delta_format.specs.Numbers.{signed_number, elements_of, bits_for, in32}
use Rattle.delta_format.specs.Row.{Element, good, bad, Previous}
use Rattle.delta_format.specs.Grammar.{
  PartCode,
  full-value,
  same-values,
  bad-values,
  bad-end,
  bad-value,
  bad_last,
  full-values,
  step,
  RowCode,
  row-end,
  part,
}
use Rattle.delta_format.specs.Calls.{Arrays, value_of, mark_of, element_bytes, values_bytes, DeltaOutcome, delta_row}
use Rattle.delta_format.specs.Calls.Laws.{length-row}
use Rattle.delta_format.proofs.Theorems.Call.{IsWidth, DoneRow, value-of-bits}

-- ---- all values have 32 bits
pub data AllFit : List ℤ → Type 0 where
  none_left : AllFit []
  one-fits : {v : ℤ} {vs : List ℤ} → in32 v ≡ true → AllFit vs → AllFit (v ∷ vs)

fit-front : (us vs : List ℤ) → AllFit (us ++ vs) → AllFit us
fit-front [] vs f = none_left
fit-front (u ∷ us) vs (one-fits h f) = one-fits h (fit-front us vs f)

fit-back : (us vs : List ℤ) → AllFit (us ++ vs) → AllFit vs
fit-back [] vs f = f
fit-back (u ∷ us) vs (one-fits h f) = fit-back us vs f

fit-drop : (n : ℕ) (vs : List ℤ) → AllFit vs → AllFit (drop n vs)
fit-drop zero vs f = f
fit-drop (suc n) [] f = none_left
fit-drop (suc n) (v ∷ vs) (one-fits h f) = fit-drop n vs f

fit-both : (us vs : List ℤ) → AllFit us → AllFit vs → AllFit (us ++ vs)
fit-both [] vs f g = g
fit-both (u ∷ us) vs (one-fits h f) g = one-fits h (fit-both us vs f g)

fit-many : (c : ℕ) (e : Element) → in32 (value_of e) ≡ true → AllFit (map value_of (replicate c e))
fit-many zero e h = none_left
fit-many (suc c) e h = one-fits h (fit-many c e h)

values-both : (es fs : List Element) → AllFit (map value_of es) → AllFit (map value_of fs) → AllFit (map value_of (es ++ fs))
values-both [] fs f g = g
values-both (e ∷ es) fs (one-fits h f) g = one-fits h (values-both es fs f g)

goods-fit : (us : List ℤ) → AllFit us → AllFit (map value_of (map good us))
goods-fit [] f = none_left
goods-fit (u ∷ us) (one-fits h f) = one-fits h (goods-fit us f)

part-fits : {max : ℤ} {p : Previous} {left : ℕ} {d : ℤ} {us cs : List ℤ} {es : List Element} {q : Previous}
    → PartCode max p left d us cs es q → AllFit us → AllFit (map value_of es)
part-fits (full-value v is h) (one-fits i f) = one-fits i none_left
part-fits (same-values v c is h k) (one-fits i f) = fit-many c (good v) i
part-fits (bad-values v c is h k) (one-fits i f) =
    values-both (replicate c bad) (good v ∷ []) (fit-many c bad refl) (one-fits i none_left)
part-fits (bad-end c is h) f = fit-many c bad refl
part-fits (bad-value v is h) (one-fits i f) = one-fits refl (one-fits i none_left)
part-fits (bad_last is) f = one-fits refl none_left
part-fits (full-values us is h k) f = goods-fit us f
part-fits (step v n i) f = one-fits i none_left

pub code_fits : {max : ℤ} {p : Previous} {n : ℕ} {ds vs rs : List ℤ} {es : List Element} → RowCode max p n ds vs rs es
    → AllFit vs → AllFit (map value_of es)
code_fits row-end f = none_left
code_fits (part {us = us} {es = es} {vs = vs} {fs = fs} code rest) f =
    values-both es fs (part-fits code (fit-front us vs f)) (code_fits rest (fit-back us vs f))

-- ---- the elements of an array have
signed-fits : (h t u : ℕ) → t ≡ h + h → h ≤ 2147483648 → u < t → in32 (cond (ltb u h) (pos u) (pos u -ℤ pos t)) ≡ true
signed-fits h zero u e few less = absurd (omega arith)
signed-fits h (suc t) u e few less =
    by-test (ltb u h)
    (λ b. let low : u < h = ltb-true u h b in rw (b, le-leb u 2147483647 (omega arith)) refl)
    (λ b. let high : h ≤ u = ltb-false u h b in
    rw (b, lt-ltb u (suc t) less, le-leb (suc t - suc u) 2147483647 (omega arith)) refl)

map-fits : (w : ℕ) (us : List ℕ) → ((u : ℕ) → u < 2 ^ w → in32 (signed_number w u) ≡ true) → Below (2 ^ w) us
    → AllFit (map (signed_number w) us)
map-fits w [] k b = none_left
map-fits w (u ∷ us) k b = one-fits (k u (below-head b)) (map-fits w us k (below-tail b))

width_fits : (w : ℕ) → IsWidth w → (u : ℕ) → u < 2 ^ w → in32 (signed_number w u) ≡ true
width_fits w (inl e) u h = rw e (signed-fits 128 256 u refl (omega arith) (subst (λ (k : ℕ). u < 2 ^ k) e h))
width_fits w (inr (inl e)) u h = rw e (signed-fits 32768 65536 u refl (omega arith) (subst (λ (k : ℕ). u < 2 ^ k) e h))
width_fits w (inr (inr e)) u h = rw e (signed-fits 2147483648 4294967296 u refl (omega arith) (subst (λ (k : ℕ). u < 2 ^ k) e h))

pub elements-fit : (w : ℕ) (s : List ℕ) → IsWidth w → AllFit (elements_of w s)
elements-fit w s k = map-fits w (cut w (8 * length s / w) (bits_of s)) (width_fits w k) (below-cut w (8 * length s / w) (bits_of s)
    (below-flat 8 s))

-- ---- four bytes of a value are read as it
bits_small : (v : ℤ) → in32 v ≡ true → bits_for 32 v < 4294967296
bits_small (pos m) h = let most : m ≤ 2147483647 = leb-true m 2147483647 h in omega arith
bits_small (negsuc m) h = omega arith

value-bits : (e : Element) → bits_of (element_bytes e) ≡ digits 32 (bits_for 32 (value_of e))
value-bits e =
    let b : List ℕ = digits 32 (bits_for 32 (value_of e)) in
    flat-cut 8 4 b (below-digits 32 (bits_for 32 (value_of e))) ∙ pad-whole 32 b (length_digits 32 (bits_for 32 (value_of e)))

row-bits : (es : List Element) → AllFit (map value_of es)
    → map (signed_number 32) (cut 32 (length es) (bits_of (values_bytes es))) ≡ map value_of es
unfolding cut
row-bits [] f = refl
row-bits (e ∷ es) (one-fits h f) =
    let v : ℤ = value_of e in
    let b : List ℕ = digits 32 (bits_for 32 v) in
    let all : bits_of (values_bytes (e ∷ es)) ≡ b ++ bits_of (values_bytes es) =
    flat_append 8 (element_bytes e) (values_bytes es) ∙ ap (λ (l : List ℕ). l ++ bits_of (values_bytes es)) (value-bits e) in
    let front : take 32 (b ++ bits_of (values_bytes es)) ≡ b = take_at b (bits_of (values_bytes es)) 32 (length_digits 32 (bits_for 32 v)) in
    let back : drop 32 (b ++ bits_of (values_bytes es)) ≡ bits_of (values_bytes es) = drop_at b (bits_of (values_bytes es)) 32 (length_digits
    32 (bits_for 32 v)) in
    let number : num_of b ≡ bits_for 32 v = num_of-digits 32 (bits_for 32 v) ∙ mod-eq_of_lt (bits_small v h) in
    let first : signed_number 32 (num_of (take 32 (bits_of (values_bytes (e ∷ es))))) ≡ v =
    ap (λ (l : List ℕ). signed_number 32 (num_of (take 32 l))) all ∙ ap (λ (l : List ℕ). signed_number 32 (num_of l)) front
    ∙ ap (signed_number 32) number ∙ value-of-bits v h in
    let rest : map (signed_number 32) (cut 32 (length es) (drop 32 (bits_of (values_bytes (e ∷ es))))) ≡ map value_of es =
    ap (λ (l : List ℕ). map (signed_number 32) (cut 32 (length es) l)) (ap (drop 32) all ∙ back) ∙ row-bits es f in
    ap (λ (z : ℤ). z ∷ map (signed_number 32) (cut 32 (length es) (drop 32 (bits_of (values_bytes (e ∷ es)))))) first
    ∙ ap (λ (zs : List ℤ). v ∷ zs) rest

row_back : (es : List Element) → AllFit (map value_of es) → elements_of 32 (values_bytes es) ≡ map value_of es
row_back es f =
    let many : 8 * length (values_bytes es) / 32 ≡ length es = omega (arith, length-row es) in
    ap (λ (k : ℕ). map (signed_number 32) (cut 32 k (bits_of (values_bytes es)))) many ∙ row-bits es f

module _ (n : ℕ) (a : Arrays) (at : RowPlaces) (x y : List ℕ) (d : DoneRow n a at x y) where
  done-fits : AllFit (map value_of d.elements)
  done-fits =
      code_fits d.begins.codes
      (fit-front d.begins.values-used d.values-left
      (subst AllFit d.begins.values-is
      (fit-drop at.value.0 (elements_of a.value_bits a.value_bytes) (elements-fit a.value_bits a.value_bytes d.value-width))))

  pub values-written : elements_of 32 (take (4 * n) (delta_row n a at x y).row) ≡ map value_of d.elements
  values-written =
      let es : List Element = d.elements in
      let long : length (values_bytes es) ≡ 4 * n = length-row es ∙ ap (λ (m : ℕ). 4 * m) d.many in
      ap (λ (m : List ℕ). elements_of 32 (take (4 * n) m)) (ap (λ (o : DeltaOutcome). o.row) d.outcome)
      ∙ ap (elements_of 32) (take_at (values_bytes es) (drop (length (values_bytes es)) x) (4 * n) long)
      ∙ row_back es done-fits

  pub marks-written : take n (delta_row n a at x y).marks ≡ map mark_of d.elements
  marks-written =
      let es : List Element = d.elements in
      ap (take n) (ap (λ (o : DeltaOutcome). o.marks) d.outcome)
      ∙ take_at (map mark_of es) (drop (length es) y) n (length-map es mark_of ∙ d.many)
