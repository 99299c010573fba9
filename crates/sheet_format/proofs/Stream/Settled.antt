-- Rows rise, so that on the way through a sheet the rows below the least number that may come next are settled: whatever follows,
-- the sheet has them as they were, present or absent. Assumes nothing.
use Rattle.std.specs.Prelude.{ℕ, suc, ◌≤◌, ◌<◌, ◌≡◌, false, List, [], ◌∷◌, ◌++◌, length, eqb}
use Rattle.std.proofs.Common.{arith, ◌∙◌, append-nil, eq-eqb, ne_eqb}
use Rattle.std.proofs.Math.Path.{refl, ap}
use Rattle.bitstream.specs.Bits.{halves_of}
use Rattle.row_format.specs.Lists.Laws.{by-test, true-false}
use Rattle.sheet_format.specs.Context.{Heading, Context, new_sheet}
use Rattle.sheet_format.specs.Kind.{Payload, a_table, a_row, a_line, no_payload, is_row, after_record}
use Rattle.sheet_format.specs.Kinds.{kind_of}
use Rattle.sheet_format.specs.Kinds.Laws.{lawful}
use Rattle.sheet_format.specs.Record.{kind_field, body_of}
use Rattle.sheet_format.specs.Reading.{context_after, record_held, record_content, record_judged}
use Rattle.sheet_format.specs.Reading.Laws.{judged-read, judged-held, judged-kind, judged-state}
use Rattle.sheet_format.specs.Sheet.{SheetRecord, StoredRow, Reaches, there, onward, record_here, record_holds, row_of, with_row}
use Rattle.sheet_format.specs.Sheet.{records, sheet_read, stored_rows, absent, present, heights_of}
use Rattle.sheet_format.specs.Sheet.Laws.{records-end}
use Rattle.sheet_format.specs.Stream.{held_of, holds_of, Carried, context_by, Carries}
use Rattle.sheet_format.proofs.Stream.Taken.{records-here, records-append, carries-records, carries-more}
use Rattle.sheet_format.proofs.Theorems.Rising.{Rising, records_from-rising}
use Rattle.sheet_format.proofs.Theorems.Rows.{row-least, row_next}

-- ---- rows, one list after another
with_row-append : (s : Payload) (y : StoredRow) (ys zs : List StoredRow) → with_row s y (ys ++ zs) ≡ with_row s y ys ++ zs
with_row-append a_table y ys zs = refl
with_row-append a_row y ys zs = refl
with_row-append a_line y ys zs = refl
with_row-append no_payload y ys zs = refl

pub stored_rows-append : (xs ys : List SheetRecord) → stored_rows (xs ++ ys) ≡ stored_rows xs ++ stored_rows ys
unfolding stored_rows
stored_rows-append [] ys = refl
stored_rows-append (x ∷ xs) ys =
    ap (with_row (record_holds x) (row_of x)) (stored_rows-append xs ys)
    ∙ with_row-append (record_holds x) (row_of x) (stored_rows xs) (stored_rows ys)

-- rows that lack a number change nothing behind others, and in front of others
pub heights_of-before : (n : ℕ) (ys zs : List StoredRow) → heights_of n zs ≡ absent → heights_of n (ys ++ zs) ≡ heights_of n ys
unfolding heights_of
heights_of-before n [] zs none = none
heights_of-before n (y ∷ ys) zs none = rw (heights_of-before n ys zs none)

pub heights_of-behind : (n : ℕ) (ys zs : List StoredRow) → heights_of n ys ≡ absent → heights_of n (ys ++ zs) ≡ heights_of n zs
unfolding heights_of
heights_of-behind n [] zs none = refl
heights_of-behind n (y ∷ ys) zs none =
    by-test (eqb n y.number) (λ e. absurd (present-absent (rw e at none)))
    (λ e. rw e (heights_of-behind n ys zs (rw e at none)))
  where
    present-absent : {l : List ℕ} → present l ≡ absent → ⊥
    present-absent e = let z : ◌≡◌ {A = ℕ} 0 1 = cc in omega arith

-- ---- rows from a number on, and rows below one
rising-absent : (n low : ℕ) (ys : List StoredRow) → Rising low ys → n < low → heights_of n ys ≡ absent
unfolding heights_of
rising-absent n low [] rises less = refl
rising-absent n low (y ∷ ys) rises less =
    let first = rises.0 in
    rw (ne_eqb n y.number (λ e. omega arith)) (rising-absent n (suc y.number) ys rises.1 (omega arith))

abbrev AllBelow : ℕ → List StoredRow → Type 0
AllBelow most [] = Unit {0}
AllBelow most (y ∷ ys) = (y.number < most) × AllBelow most ys

below-absent : (n most : ℕ) (ys : List StoredRow) → AllBelow most ys → most ≤ n → heights_of n ys ≡ absent
unfolding heights_of
below-absent n most [] below least = refl
below-absent n most (y ∷ ys) below least =
    let first = below.0 in
    rw (ne_eqb n y.number (λ e. omega arith)) (below-absent n most ys below.1 least)

-- ---- what a record makes of the least number
least-after : (s : Payload) (h : Heading) (b : List ℕ) (c : Context) → (s ≡ a_row → c.least ≤ h.row)
    → c.least ≤ (after_record s h b c).least
least-after a_table h b c risen = omega arith
least-after a_row h b c risen = let least = risen refl in omega arith
least-after a_line h b c risen = omega arith
least-after no_payload h b c risen = omega arith

row_below : (s : Payload) (h : Heading) (b : List ℕ) (c : Context) (y : StoredRow) (ys : List StoredRow) (most : ℕ)
    → y.number ≡ h.row → (after_record s h b c).least ≤ most → AllBelow most ys → AllBelow most (with_row s y ys)
row_below a_table h b c y ys most same less rest = rest
row_below a_row h b c y ys most same less rest = (omega (arith, same), rest)
row_below a_line h b c y ys most same less rest = rest
row_below no_payload h b c y ys most same less rest = rest

module _ (c : Context) (r : List ℕ) (ok : (record_judged c r).number ≡ 0) where
  least-next : c.least ≤ (context_after c r).least
  unfolding context_after
  least-next =
      let k = kind_of (kind_field r) in
      least-after k.holds (k.heading (body_of r)) (body_of r) c
      (λ row. (lawful (kind_field r)).row-risen row c (k.heading (body_of r)) (judged-read c r ok).parts.place)

  here-below : (ys : List StoredRow) (most : ℕ) → (context_after c r).least ≤ most → AllBelow most ys
      → AllBelow most (with_row (record_holds (record_here c r)) (row_of (record_here c r)) ys)
  unfolding record_held context_after
  here-below ys most less rest =
      let k = kind_of (kind_field r) in
      rw (judged-held c r ok) (row_below k.holds (k.heading (body_of r)) (body_of r) c _ ys most refl less rest)

reaches-least : {d : Context} {p : List ℕ} {c : Context} {r : List ℕ} → Reaches d p c r → c.least ≤ d.least
reaches-least there = omega arith
reaches-least (onward {c} {r} ok rest) = omega (arith, least-next c r ok, reaches-least rest)

reaches-below : {d c : Context} {r : List ℕ} → Reaches d [] c r → AllBelow d.least (stored_rows (records c r).records)
unfolding stored_rows
reaches-below {d} there = rw (records-end d) tt
reaches-below {d} (onward {c} {r} ok rest) =
    rw (records-here c r ok) (here-below c r ok _ d.least (reaches-least rest) (reaches-below rest))

-- ---- on the way
pub sheet_read-records : (s : List ℕ) → (sheet_read s).records ≡ (records new_sheet s).records
unfolding sheet_read
sheet_read-records [] = rw (records-end new_sheet)
sheet_read-records (x ∷ s) = refl

module _ {s : List ℕ} {p : Carried} (at : Carries s p) where
  -- no row from the least number on is there yet
  pub heights-none : (n : ℕ) → p.state.least_row ≤ n → heights_of n (stored_rows (records new_sheet s).records) ≡ absent
  heights-none n least = below-absent n p.state.least_row _ (reaches-below at.reached) least

  -- and those below it stay as they are
  pub heights-settled : (n : ℕ) → n < p.state.least_row → (rest : List ℕ)
      → heights_of n (stored_rows (sheet_read (s ++ rest)).records) ≡ heights_of n (stored_rows (records new_sheet s).records)
  heights-settled n less rest =
      let xs = (records new_sheet s).records in
      let ys = (records (context_by p) rest).records in
      let later = rising-absent n p.state.least_row (stored_rows ys) (records_from-rising (length rest) (context_by p) rest) less in
      rw (sheet_read-records (s ++ rest), records-append at.reached rest, stored_rows-append xs ys)
      (heights_of-before n (stored_rows xs) (stored_rows ys) later)

-- ---- what holds no row changes neither the rows nor the least number
rowless-least : (s : Payload) (h : Heading) (b : List ℕ) (c : Context) → is_row s ≡ false → (after_record s h b c).least ≡ c.least
rowless-least a_table h b c other = refl
rowless-least a_row h b c other = true-false refl other
rowless-least a_line h b c other = refl
rowless-least no_payload h b c other = refl

rowless-rows : (s : Payload) (y : StoredRow) → is_row s ≡ false → with_row s y [] ≡ []
rowless-rows a_table y other = refl
rowless-rows a_row y other = true-false refl other
rowless-rows a_line y other = refl
rowless-rows no_payload y other = refl

module _ {s : List ℕ} {p : Carried} (at : Carries s p) (b : List ℕ) (held : b ≡ held_of b)
    (ok : (record_judged (context_by p) b).number ≡ 0) (other : is_row (holds_of (record_judged (context_by p) b)) ≡ false) where
  pub least-same : (record_judged (context_by p) b).state.least_row ≡ p.state.least_row
  unfolding context_after
  least-same =
      let k = kind_of (kind_field b) in
      rw (judged-state (context_by p) b ok)
      (rowless-least k.holds (k.heading (body_of b)) (body_of b) (context_by p) (rw (judged-kind (context_by p) b ok) at other))

  pub rows_same : stored_rows (records new_sheet (s ++ b)).records ≡ stored_rows (records new_sheet s).records
  unfolding stored_rows
  rows_same =
      let x = record_here (context_by p) b in
      ap stored_rows (carries-records at b held ok) ∙ stored_rows-append (records new_sheet s).records (x ∷ [])
      ∙ rw (rowless-rows (record_holds x) (row_of x) other) (append-nil (stored_rows (records new_sheet s).records))

-- ---- a row comes: it is settled, whatever follows, and so are the numbers that it passes over
module _ {s : List ℕ} {p : Carried} (at : Carries s p) (b : List ℕ) (held : b ≡ held_of b)
    (ok : (record_judged (context_by p) b).number ≡ 0) (is : holds_of (record_judged (context_by p) b) ≡ a_row) where
  with-row : stored_rows (records new_sheet (s ++ b)).records
      ≡ stored_rows (records new_sheet s).records ++ (row_of (record_here (context_by p) b) ∷ [])
  unfolding stored_rows
  with-row =
      ap stored_rows (carries-records at b held ok)
      ∙ stored_rows-append (records new_sheet s).records (record_here (context_by p) b ∷ []) ∙ rw is

  -- a number that was not there is as the row has it
  settled : (n : ℕ) → p.state.least_row ≤ n → n ≤ (record_judged (context_by p) b).row → (rest : List ℕ)
      → heights_of n (stored_rows (sheet_read (s ++ b ++ rest)).records) ≡ heights_of n (row_of (record_here (context_by p) b) ∷ [])
  settled n least most rest =
      let ys = stored_rows (records new_sheet s).records in
      heights-settled (carries-more at b held ok) n (omega (arith, row_next (context_by p) b ok is)) rest
      ∙ ap (heights_of n) with-row
      ∙ heights_of-behind n ys (row_of (record_here (context_by p) b) ∷ []) (heights-none at n least)

  pub settled-row : (rest : List ℕ)
      → heights_of (record_judged (context_by p) b).row (stored_rows (sheet_read (s ++ b ++ rest)).records)
      ≡ present (halves_of (record_content (context_by p) b))
  unfolding heights_of
  settled-row rest =
      let n = (record_judged (context_by p) b).row in
      settled n (row-least (context_by p) b ok is) (omega arith) rest ∙ rw (eq-eqb n n refl)

  pub settled-gap : (n : ℕ) → p.state.least_row ≤ n → n < (record_judged (context_by p) b).row → (rest : List ℕ)
      → heights_of n (stored_rows (sheet_read (s ++ b ++ rest)).records) ≡ absent
  unfolding heights_of
  settled-gap n least less rest =
      settled n least (omega arith) rest ∙ rw (ne_eqb n (record_judged (context_by p) b).row (λ e. omega arith))
