-- A header that is written is read back, whatever follows it. Assumes nothing.
use Rattle.std.specs.Prelude.{ℕ, zero, suc, ◌+◌, ◌-◌, ◌*◌, ◌/◌, ◌%◌, ◌≤◌, ◌<◌, ◌≡◌, true, false, take, drop, ltb}
use Rattle.std.proofs.Common.{arith, sym, ◌∙◌, drop_at, drop-drop, get_or-drop}
use Rattle.std.proofs.Math.Path.{refl, ap}
use mathlib.Core.List.{List, [], ◌∷◌, ◌++◌, append_assoc}
use Rattle.std.proofs.Math.ListN.{length, get_or, length-append}
use Rattle.std.proofs.Math.Seq.{take-append_seam, take-append-add}
use borrow.Author.Tests.{ltb-true, ltb-false, ne_eqb, le-ltb}
use Rattle.row_format.specs.Lists.Laws.{by-test}
use Rattle.text.specs.Text.{ascii, digit, spelled, decimal}
use Rattle.text.specs.Text.Laws.{decimal_digit, decimal-more, length-decimal}
use Rattle.text.specs.Number.{is_digit}
use Rattle.text.specs.Number.Laws.{digit-is}
use Rattle.text.specs.Same.{same_bytes}
use Rattle.fits_format.specs.Card.{digits_value}
use Rattle.pgm_format.specs.Header.{pgm_front, is_blank, separates, comments, gap_from, gap_bytes, digit_bytes, field_value, field_bytes}
use Rattle.pgm_format.specs.Header.{field_at, after_field}
use Rattle.pgm_format.specs.Header.{rows_place, largest_place, blank_place, fields_number, front_read, pgm_header}
use Rattle.pgm_format.specs.Header.Laws.{FieldsRead, front-accepted}

-- ---- a number's digits
digit-counted : (d : ℕ) (rest : List ℕ) → d < 10 → digit_bytes (digit d ∷ rest) ≡ suc (digit_bytes rest)
unfolding digit_bytes
digit-counted d rest h = rw (digit-is (digit d) (omega arith) (omega arith))

digit-no-gap : (d : ℕ) (rest : List ℕ) → gap_from false (digit d ∷ rest) ≡ 0
unfolding gap_from separates is_blank
digit-no-gap d rest =
    rw (
      ne_eqb (digit d) 35 (λ e. omega arith),
      ne_eqb (digit d) 32 (λ e. omega arith),
      le-ltb (digit d) 9 (omega arith),
      le-ltb (digit d) 14 (omega arith),
    )

-- f of fuel are enough
digits_decimal : (f n : ℕ) (rest : List ℕ) → n ≤ f → digit_bytes (decimal n ++ rest) ≡ length (decimal n) + digit_bytes rest
digits_decimal zero n rest enough =
    rw (decimal_digit n (omega arith)) (digit-counted n rest (omega arith) ∙ omega arith)
digits_decimal (suc f) n rest enough =
    by-test (ltb n 10)
    (λ t.
    let less = ltb-true n 10 t in
    rw (decimal_digit n less) (digit-counted n rest less ∙ omega arith))
    (λ t.
    let last = digit (n % 10) ∷ [] in
    let front = digits_decimal f (n / 10) (digit (n % 10) ∷ rest) (omega (arith, ltb-false n 10 t)) in
    rw (decimal-more n (ltb-false n 10 t), append_assoc (decimal (n / 10)) last rest, front, digit-counted (n % 10) rest (omega arith))
    (omega (arith, length-append (decimal (n / 10)) last)))

gap-decimal : (f n : ℕ) (rest : List ℕ) → n ≤ f → gap_from false (decimal n ++ rest) ≡ 0
gap-decimal zero n rest enough = rw (decimal_digit n (omega arith)) (digit-no-gap n rest)
gap-decimal (suc f) n rest enough =
    by-test (ltb n 10)
    (λ t. rw (decimal_digit n (ltb-true n 10 t)) (digit-no-gap n rest))
    (λ t.
    let last = digit (n % 10) ∷ [] in
    rw (decimal-more n (ltb-false n 10 t), append_assoc (decimal (n / 10)) last rest)
    (gap-decimal f (n / 10) (digit (n % 10) ∷ rest) (omega (arith, ltb-false n 10 t))))

-- and they stand for it
value-append : (v : ℕ) (s t : List ℕ) → digits_value v (s ++ t) ≡ digits_value (digits_value v s) t
unfolding digits_value
value-append v [] t = refl
value-append v (b ∷ s) t = value-append (v * 10 + (b - 48)) s t

value-digit : (v d : ℕ) → digits_value v (digit d ∷ []) ≡ v * 10 + d
unfolding digits_value
value-digit v d = omega arith

value-decimal : (f n : ℕ) → n ≤ f → digits_value 0 (decimal n) ≡ n
value-decimal zero n enough = rw (decimal_digit n (omega arith)) (value-digit 0 n ∙ omega arith)
value-decimal (suc f) n enough =
    by-test (ltb n 10)
    (λ t. rw (decimal_digit n (ltb-true n 10 t)) (value-digit 0 n ∙ omega arith))
    (λ t.
    let last = digit (n % 10) ∷ [] in
    rw (
      decimal-more n (ltb-false n 10 t),
      value-append 0 (decimal (n / 10)) last,
      value-decimal f (n / 10) (omega (arith, ltb-false n 10 t)),
      value-digit (n / 10) (n % 10),
    )
    (omega arith))

-- ---- a number after one separator and before what is no digit
module _ (b : ℕ) (sep : separates false b ≡ true) (shut : comments false b ≡ false) (n : ℕ) (rest : List ℕ)
    (ends : digit_bytes rest ≡ 0) where
  abbrev s : List ℕ
  s = b ∷ (decimal n ++ rest)

  gap-one : gap_bytes s ≡ 1
  unfolding gap_from
  gap-one = rw (sep, shut, gap-decimal n n rest (omega arith))

  digits-all : digit_bytes (decimal n ++ rest) ≡ length (decimal n)
  digits-all = digits_decimal n n rest (omega arith) ∙ omega (arith, ends)

  pub value_written : field_value s ≡ n
  unfolding field_value
  value_written =
      rw (gap-one, digits-all, take-append_seam (decimal n) rest, value-decimal n n (omega arith))

  pub bytes-written : field_bytes s ≡ 1 + length (decimal n)
  unfolding field_bytes
  bytes-written = rw (gap-one, digits-all)

  -- such a number at a place of some bytes
  module _ (at : ℕ) (l : List ℕ) (here : drop at l ≡ s) where
    pub field-written : field_at at l ≡ n
    field-written = ap field_value here ∙ value_written

    pub after-written : after_field at l ≡ at + (1 + length (decimal n))
    after-written = rw (here, bytes-written)

    pub rest-written : drop (after_field at l) l ≡ rest
    rest-written =
        let k = 1 + length (decimal n) in
        rw (after-written, ← drop-drop k at l, here, drop_at (b ∷ decimal n) rest k (omega arith))

-- ---- the whole header
module _ (w r : ℕ) (rest : List ℕ) (wide : w ≤ 4096) (high : r ≤ 65536) where
  -- from its parts on
  abbrev fourth : List ℕ
  fourth = ascii "\n" ++ rest

  abbrev third : List ℕ
  third = ascii "\n" ++ (decimal 4095 ++ fourth)

  abbrev second : List ℕ
  second = ascii " " ++ (decimal r ++ third)

  abbrev whole : List ℕ
  whole = ascii "P5" ++ (ascii "\n" ++ (decimal w ++ second))

  parts : pgm_front w r ++ rest ≡ whole
  unfolding pgm_front decimal spelled
  parts = simp append_assoc

  no_digit_lem : (l : List ℕ) → digit_bytes (10 ∷ l) ≡ 0
  unfolding digit_bytes is_digit
  no_digit_lem l = refl

  no-digit-blank : (l : List ℕ) → digit_bytes (32 ∷ l) ≡ 0
  unfolding digit_bytes is_digit
  no-digit-blank l = refl

  line-separates : (separates false 10 ≡ true) × (comments false 10 ≡ false)
  unfolding separates comments is_blank
  line-separates = (refl, refl)

  blank-separates : (separates false 32 ≡ true) × (comments false 32 ≡ false)
  unfolding separates comments is_blank
  blank-separates = (refl, refl)

  abbrev front : List ℕ
  front = pgm_front w r ++ rest

  -- the three fields, one after the other
  first_width : field_at 2 front ≡ w
  first_width =
      field-written 10 line-separates.0 line-separates.1 w second (no-digit-blank (decimal r ++ third)) 2 front
      (ap (drop 2) parts)

  first-end : rows_place front ≡ 3 + length (decimal w)
  first-end =
      after-written 10 line-separates.0 line-separates.1 w second (no-digit-blank (decimal r ++ third)) 2 front
      (ap (drop 2) parts)
      ∙ omega arith

  after_first : drop (rows_place front) front ≡ second
  after_first =
      rest-written 10 line-separates.0 line-separates.1 w second (no-digit-blank (decimal r ++ third)) 2 front
      (ap (drop 2) parts)

  second-rows : field_at (rows_place front) front ≡ r
  second-rows =
      field-written 32 blank-separates.0 blank-separates.1 r third (no_digit_lem (decimal 4095 ++ fourth)) (rows_place front)
      front after_first

  second-end : largest_place front ≡ rows_place front + (1 + length (decimal r))
  second-end =
      after-written 32 blank-separates.0 blank-separates.1 r third (no_digit_lem (decimal 4095 ++ fourth)) (rows_place front)
      front after_first

  after-second : drop (largest_place front) front ≡ third
  after-second =
      rest-written 32 blank-separates.0 blank-separates.1 r third (no_digit_lem (decimal 4095 ++ fourth)) (rows_place front)
      front after_first

  third-largest : field_at (largest_place front) front ≡ 4095
  third-largest =
      field-written 10 line-separates.0 line-separates.1 4095 fourth (no_digit_lem rest) (largest_place front) front
      after-second

  third-end : blank_place front ≡ largest_place front + 5
  unfolding decimal spelled
  third-end =
      after-written 10 line-separates.0 line-separates.1 4095 fourth (no_digit_lem rest) (largest_place front) front
      after-second

  closing : get_or front (blank_place front) 0 ≡ 10
  unfolding decimal spelled
  closing =
      rw third-end (sym (get_or-drop (largest_place front) front 5 0) ∙ ap (λ (l : List ℕ). get_or l 5 0) after-second)

  fields_read : FieldsRead front w r 4095 (blank_place front) true
  unfolding is_blank same_bytes
  fields_read = record {
    begins = rw parts;
    width = omega (arith, first_width, wide);
    rows = omega (arith, second-rows, high);
    most = omega (arith, third-largest);
    ends = refl;
    closed = rw closing;
  }

  front_length : blank_place front + 1 ≡ length (pgm_front w r)
  unfolding pgm_front
  front_length =
      let front_Bytes = length-append (ascii "P5\n" ++ decimal w ++ (ascii " " ++ decimal r)) (ascii "\n4095\n") in
      let both = length-append (ascii "P5\n" ++ decimal w) (ascii " " ++ decimal r) in
      omega (arith, third-end, second-end, first-end, front_Bytes, both)

  module _ (some : 1 ≤ w) (any-rows : 1 ≤ r) where
    none : fields_number w r 4095 true ≡ 0
    unfolding fields_number
    none =
        rw (
          ne_eqb w 0 (λ e. absurd (omega (arith, e))),
          ne_eqb r 0 (λ e. absurd (omega (arith, e))),
          le-ltb 4096 w wide,
          le-ltb 65536 r high,
        )

    pub front-back : front_read front ≡ record { number = 0; width = w; rows = r; start = length (pgm_front w r) }
    front-back = rw (← front_length) (front-accepted fields_read (sym none) refl)

-- of a file that begins with it
module _ (w r : ℕ) (some : 1 ≤ w) (wide : w ≤ 4096) (any-rows : 1 ≤ r) (high : r ≤ 65536) where
  length_front : length (pgm_front w r) ≤ 19
  unfolding pgm_front
  length_front =
      let whole = length-append (ascii "P5\n" ++ decimal w ++ (ascii " " ++ decimal r)) (ascii "\n4095\n") in
      let both = length-append (ascii "P5\n" ++ decimal w) (ascii " " ++ decimal r) in
      omega (arith, whole, both, length-decimal 3 w (omega arith), length-decimal 4 r (omega arith))

  pub header-back : (rest : List ℕ)
      → pgm_header (pgm_front w r ++ rest) ≡ record { number = 0; width = w; rows = r; start = length (pgm_front w r) }
  unfolding pgm_header
  header-back rest =
      let k = length (pgm_front w r) in
      let size : k + (65536 - k) ≡ 65536 = omega (arith, length_front) in
      ap (λ (n : ℕ). front_read (take n (pgm_front w r ++ rest))) (sym size)
      ∙ ap front_read (take-append-add (pgm_front w r) rest (65536 - k))
      ∙ front-back w r (take (65536 - k) rest) wide high some any-rows
