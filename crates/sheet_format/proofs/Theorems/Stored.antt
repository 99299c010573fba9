-- Every row of a sheet stands under its number with the heights that reading its record gives. Assumes nothing.
use Rattle.std.specs.Prelude.{ℕ, zero, suc, ◌≤◌, ◌≡◌, refl, length, ℤ}
use Rattle.std.proofs.Common.{arith, sym, ap, ⊎_elim, eq-eqb, ne_eqb}
use mathlib.Core.List.Memᴰ
use mathlib.Core.List.{List, [], ◌∷◌, Memᴰ}
use Rattle.answer.specs.Outcome.{writes}
use Rattle.bitstream.specs.Bits.{halves_of}
use Rattle.sheet_format.specs.Context.{Context, new_sheet}
use Rattle.sheet_format.specs.Kind.{Payload, a_table, a_row, a_line, no_payload}
use Rattle.sheet_format.specs.Reading.{answer_bytes, context_after, record_judged, record_read}
use Rattle.sheet_format.specs.Sheet.{SheetRecord, there, onward, ReadFrom, record_here, rest_next, record_holds, records_from, sheet_read, StoredRow, row_of, with_row, stored_rows, numbers_held, with_line, stored_lines, absent, present, heights_of}
use Rattle.sheet_format.specs.Sheet.Laws.{from_record-cases}
use Rattle.sheet_format.proofs.Theorems.Rising.{Rising, sheet_read-rows}
use Rattle.sheet_format.proofs.Theorems.Room.{record_read-granted}

-- ---- rows whose numbers rise
member-least : (low : ℕ) (y : StoredRow) (ys : List StoredRow) → Rising low ys → Memᴰ y ys → low ≤ y.number
member-least low y [] rising m = absurd (Memᴰ.not-nil m)
member-least low y (z ∷ ys) rising m =
    let first = rising.0 in
    ⊎_elim (λ e. omega (arith, ap (λ (w : StoredRow). w.number) e))
    (λ rest. omega (arith, member-least (suc z.number) y ys rising.1 rest)) (Memᴰ.cases_cons m)

heights_of-member : (low : ℕ) (y : StoredRow) (ys : List StoredRow) → Rising low ys → Memᴰ y ys
    → heights_of y.number ys ≡ present y.heights
unfolding heights_of
heights_of-member low y [] rising m = absurd (Memᴰ.not-nil m)
heights_of-member low y (z ∷ ys) rising m =
    ⊎_elim (λ e.
    let same : y.number ≡ z.number = ap (λ (w : StoredRow). w.number) e in
    rw (eq-eqb y.number z.number same) (ap (λ (w : StoredRow). present w.heights) (sym e)))
    (λ rest.
    let above = member-least (suc z.number) y ys rising.1 rest in
    rw (ne_eqb y.number z.number (λ e. omega arith)) (heights_of-member (suc z.number) y ys rising.1 rest))
    (Memᴰ.cases_cons m)

-- ---- the rows among the records
with_row-later : (s : Payload) (y z : StoredRow) (ys : List StoredRow) → Memᴰ y ys → Memᴰ y (with_row s z ys)
with_row-later a_table y z ys m = m
with_row-later a_row y z ys m = Memᴰ.tail m
with_row-later a_line y z ys m = m
with_row-later no_payload y z ys m = m

with_row-here : (s : Payload) (y : StoredRow) (ys : List StoredRow) → s ≡ a_row → Memᴰ y (with_row s y ys)
with_row-here s y ys row = rw row (Memᴰ.head refl)

stored_rows-member : (x : SheetRecord) (xs : List SheetRecord) → Memᴰ x xs → record_holds x ≡ a_row
    → Memᴰ (row_of x) (stored_rows xs)
unfolding stored_rows
stored_rows-member x [] m row = absurd (Memᴰ.not-nil m)
stored_rows-member x (z ∷ xs) m row =
    ⊎_elim (λ e. rw (← e) (with_row-here (record_holds x) (row_of x) (stored_rows xs) row))
    (λ rest. with_row-later (record_holds z) (row_of x) (row_of z) (stored_rows xs) (stored_rows-member x xs rest row))
    (Memᴰ.cases_cons m)

pub stored-heights : (s : List ℕ) (x : SheetRecord) → Memᴰ x (sheet_read s).records → record_holds x ≡ a_row
    → heights_of x.answer.row (stored_rows (sheet_read s).records) ≡ present (halves_of x.content)
stored-heights s x m row =
    let rows = stored_rows (sheet_read s).records in
    heights_of-member 0 (row_of x) rows (sheet_read-rows s) (stored_rows-member x (sheet_read s).records m row)

-- ---- lines, and what is not there
with_line-later : (s : Payload) (y z : List ℤ) (ys : List (List ℤ)) → Memᴰ y ys → Memᴰ y (with_line s z ys)
with_line-later a_table y z ys m = m
with_line-later a_row y z ys m = m
with_line-later a_line y z ys m = Memᴰ.tail m
with_line-later no_payload y z ys m = m

with_line-here : (s : Payload) (y : List ℤ) (ys : List (List ℤ)) → s ≡ a_line → Memᴰ y (with_line s y ys)
with_line-here s y ys line = rw line (Memᴰ.head refl)

stored_lines-member : (x : SheetRecord) (xs : List SheetRecord) → Memᴰ x xs → record_holds x ≡ a_line
    → Memᴰ (numbers_held x) (stored_lines xs)
unfolding stored_lines
stored_lines-member x [] m line = absurd (Memᴰ.not-nil m)
stored_lines-member x (z ∷ xs) m line =
    ⊎_elim (λ e. rw (← e) (with_line-here (record_holds x) (numbers_held x) (stored_lines xs) line))
    (λ rest. with_line-later (record_holds z) (numbers_held x) (numbers_held z) (stored_lines xs) (stored_lines-member x xs rest line))
    (Memᴰ.cases_cons m)

pub stored-numbers : (s : List ℕ) (x : SheetRecord) → Memᴰ x (sheet_read s).records → record_holds x ≡ a_line
    → Memᴰ (numbers_held x) (stored_lines (sheet_read s).records)
stored-numbers s x = stored_lines-member x (sheet_read s).records

-- a number that no row has is absent
with_row-absent : (n : ℕ) (s : Payload) (y : StoredRow) (ys : List StoredRow) → (s ≡ a_row → y.number ≡ n → ⊥)
    → heights_of n ys ≡ absent → heights_of n (with_row s y ys) ≡ absent
unfolding heights_of
with_row-absent n a_table y ys other rest = rest
with_row-absent n a_row y ys other rest = rw (ne_eqb n y.number (λ e. other refl (sym e))) rest
with_row-absent n a_line y ys other rest = rest
with_row-absent n no_payload y ys other rest = rest

stored_rows-absent : (n : ℕ) (xs : List SheetRecord)
    → ((x : SheetRecord) → Memᴰ x xs → record_holds x ≡ a_row → x.answer.row ≡ n → ⊥)
    → heights_of n (stored_rows xs) ≡ absent
unfolding stored_rows heights_of
stored_rows-absent n [] none = refl
stored_rows-absent n (x ∷ xs) none =
    with_row-absent n (record_holds x) (row_of x) (stored_rows xs) (none x (Memᴰ.head refl))
    (stored_rows-absent n xs (λ y m. none y (Memᴰ.tail m)))

pub stored-absent : (s : List ℕ) (n : ℕ)
    → ((x : SheetRecord) → Memᴰ x (sheet_read s).records → record_holds x ≡ a_row → x.answer.row ≡ n → ⊥)
    → heights_of n (stored_rows (sheet_read s).records) ≡ absent
stored-absent s n = stored_rows-absent n (sheet_read s).records

-- ---- a record of a sheet is one that is accepted at a place to which the sheet is read
records_from-read : (n : ℕ) (c : Context) (r : List ℕ) (x : SheetRecord) → Memᴰ x (records_from n c r).records
    → ReadFrom c r x
unfolding records_from
records_from-read zero c r = λ x m. absurd (Memᴰ.not-nil m)
records_from-read (suc n) c r =
    let next = records_from-read n (context_after c r) (rest_next c r) in
    from_record-cases (λ s. (x : SheetRecord) → Memᴰ x s.records → ReadFrom c r x) r (record_judged c r).number
    (record_judged c r).at (record_here c r) (records_from n (context_after c r) (rest_next c r))
    (λ x m. absurd (Memᴰ.not-nil m)) (λ k e x m. absurd (Memᴰ.not-nil m))
    (λ ok x m. ⊎_elim (λ e. record { context = c; place = r; reached = there; accepted = ok; here = e })
    (λ rest. later ok (next x rest)) (Memᴰ.cases_cons m))
  where
    later : {x : SheetRecord} → (record_judged c r).number ≡ 0 → ReadFrom (context_after c r) (rest_next c r) x → ReadFrom c r x
    later ok f = record {
      context = f.context;
      place = f.place;
      reached = onward ok f.reached;
      accepted = f.accepted;
      here = f.here;
    }

pub sheet_read-read : (s : List ℕ) (x : SheetRecord) → Memᴰ x (sheet_read s).records → ReadFrom new_sheet s x
unfolding sheet_read
sheet_read-read [] x m = absurd (Memᴰ.not-nil m)
sheet_read-read (y ∷ s) x m = records_from-read (length (y ∷ s)) new_sheet (y ∷ s) x m

-- and what reading it there gives
pub stored-read : (s : List ℕ) (x : SheetRecord) (from : ReadFrom new_sheet s x) (m : List ℕ) → answer_bytes x.answer ≤ length m
    → record_read from.context from.place m ≡ writes x.answer x.content m
stored-read s x from m room =
    rw from.here (record_read-granted from.context from.place m from.accepted (rw from.here at room))
