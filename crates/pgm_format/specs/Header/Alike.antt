-- What is not looked at changes no header: two byte strings alike through the blank that ends it get the same. Assumes nothing.
use Rattle.std.specs.Prelude.{ℕ, zero, suc, ◌+◌, ◌-◌, ◌≤◌, ◌<◌, ◌≡◌, refl, Bool, List, [], ◌∷◌, length, take, drop, get_or}
use Rattle.std.proofs.Common.{arith, ◌∙◌, length-take, get_or-take}
use Rattle.std.proofs.Math.Path.{sym, ap}
use Rattle.std.proofs.Math.Bool.{false}
use Rattle.std.proofs.Math.Seq.{take-take}
use Rattle.row_format.specs.Lists.Laws.{by-test, drop-take}
use Rattle.text.specs.Number.{is_digit}
use Rattle.pgm_format.specs.Header.{separates, comments, gap_from, gap_bytes, digit_bytes, field_value, field_bytes, field_at, after_field}
use Rattle.pgm_format.specs.Header.{PgmRead, rows_place, largest_place, blank_place, front_number, front_read, pgm_header}
use Rattle.pgm_format.specs.Header.Accepted.{front-is, front_ends}

-- ---- bytes alike as far as m
head-same : {x y : ℕ} {s t : List ℕ} → x ∷ s ≡ y ∷ t → x ≡ y
head-same e = cc

tail-same : {x y : ℕ} {s t : List ℕ} → x ∷ s ≡ y ∷ t → s ≡ t
tail-same e = cc

gap-alike : (c : Bool) (m : ℕ) (s t : List ℕ) → take m s ≡ take m t → gap_from c s < m → gap_from c t ≡ gap_from c s
unfolding gap_from
gap-alike c zero s t alike h = absurd (omega arith)
gap-alike c (suc m) [] [] alike h = refl
gap-alike c (suc m) [] (y ∷ t) alike h = absurd (omega (arith, ap length alike))
gap-alike c (suc m) (x ∷ s) [] alike h = absurd (omega (arith, ap length alike))
gap-alike c (suc m) (x ∷ s) (y ∷ t) alike h =
    let first : y ≡ x = sym (head-same alike) in
    by-test (separates c x)
    (λ e. rw (first, e) (ap suc (gap-alike (comments c x) m s t (tail-same alike) (omega (arith, rw e at h)))))
    (λ e. rw (first, e))

digits-alike : (m : ℕ) (s t : List ℕ) → take m s ≡ take m t → digit_bytes s < m → digit_bytes t ≡ digit_bytes s
unfolding digit_bytes
digits-alike zero s t alike h = absurd (omega arith)
digits-alike (suc m) [] [] alike h = refl
digits-alike (suc m) [] (y ∷ t) alike h = absurd (omega (arith, ap length alike))
digits-alike (suc m) (x ∷ s) [] alike h = absurd (omega (arith, ap length alike))
digits-alike (suc m) (x ∷ s) (y ∷ t) alike h =
    let first : y ≡ x = sym (head-same alike) in
    by-test (is_digit x)
    (λ e. rw (first, e) (ap suc (digits-alike m s t (tail-same alike) (omega (arith, rw e at h)))))
    (λ e. rw (first, e))

from-alike : (k m : ℕ) (s t : List ℕ) → take m s ≡ take m t → take (m - k) (drop k s) ≡ take (m - k) (drop k t)
from-alike k m s t alike = sym (drop-take k m s) ∙ ap (drop k) alike ∙ drop-take k m t

-- ---- a field that ends before m
module _ (m : ℕ) (s t : List ℕ) (alike : take m s ≡ take m t) (inside : field_bytes s < m) where
  gap_same : gap_bytes t ≡ gap_bytes s
  unfolding field_bytes
  gap_same = gap-alike false m s t alike (omega (arith, inside))

  digits_same : digit_bytes (drop (gap_bytes s) t) ≡ digit_bytes (drop (gap_bytes s) s)
  unfolding field_bytes
  digits_same =
      digits-alike (m - gap_bytes s) (drop (gap_bytes s) s) (drop (gap_bytes s) t) (from-alike (gap_bytes s) m s t alike)
      (omega (arith, inside))

  bytes_same : field_bytes t ≡ field_bytes s
  unfolding field_bytes
  bytes_same = rw (gap_same, digits_same)

  number_same :
      let d = digit_bytes (drop (gap_bytes s) s) in
      take d (drop (gap_bytes s) t) ≡ take d (drop (gap_bytes s) s)
  unfolding field_bytes
  number_same =
      let d = digit_bytes (drop (gap_bytes s) s) in
      let most : d ≤ m - gap_bytes s = omega (arith, inside) in
      sym (take-take d (m - gap_bytes s) (drop (gap_bytes s) t) most)
      ∙ ap (take d) (sym (from-alike (gap_bytes s) m s t alike))
      ∙ take-take d (m - gap_bytes s) (drop (gap_bytes s) s) most

  value_same : field_value t ≡ field_value s
  unfolding field_value
  value_same = rw (gap_same, digits_same, number_same)

-- at a place
module _ (k at : ℕ) (s t : List ℕ) (alike : take k s ≡ take k t) (inside : after_field at s < k) where
  within : field_bytes (drop at s) < k - at
  within = omega (arith, inside)

  field-same : field_at at t ≡ field_at at s
  field-same = value_same (k - at) (drop at s) (drop at t) (from-alike at k s t alike) within

  after_same : after_field at t ≡ after_field at s
  after_same = ap (at +◌) (bytes_same (k - at) (drop at s) (drop at t) (from-alike at k s t alike) within)

-- ---- the header
module _ (k : ℕ) (s t : List ℕ) (alike : take k s ≡ take k t) (inside : blank_place s < k) where
  closing_same : get_or t (blank_place s) 0 ≡ get_or s (blank_place s) 0
  closing_same =
      sym (get_or-take k t (blank_place s) 0 inside)
      ∙ ap (λ (l : List ℕ). get_or l (blank_place s) 0) (sym alike)
      ∙ get_or-take k s (blank_place s) 0 inside

  begins-same : take 2 t ≡ take 2 s
  begins-same =
      let two : 2 ≤ k = omega (arith, inside) in
      sym (take-take 2 k t two) ∙ ap (take 2) (sym alike) ∙ take-take 2 k s two

  front-alike : front_read t ≡ front_read s
  unfolding front_read front_number
  front-alike =
      rw (
        begins-same,
        after_same k 2 s t alike (omega (arith, inside)),
        after_same k (rows_place s) s t alike (omega (arith, inside)),
        after_same k (largest_place s) s t alike inside,
        closing_same,
        field-same k 2 s t alike (omega (arith, inside)),
        field-same k (rows_place s) s t alike (omega (arith, inside)),
        field-same k (largest_place s) s t alike inside,
      )

pub pgm-alike : (s t : List ℕ) → (pgm_header s).number ≡ 0 → take (pgm_header s).start t ≡ take (pgm_header s).start s
    → pgm_header t ≡ pgm_header s
unfolding pgm_header
pgm-alike s t ok alike =
    let u = take 65536 s in
    let k = blank_place u + 1 in
    let start : (front_read u).start ≡ k = ap (λ (h : PgmRead). h.start) (front-is u ok) in
    let most : k ≤ 65536 = omega (arith, front_ends u ok, length-take 65536 s) in
    let same : take k u ≡ take k (take 65536 t) =
    take-take k 65536 s most ∙ sym (rw start at alike) ∙ sym (take-take k 65536 t most) in
    front-alike k u (take 65536 t) same (omega arith)
