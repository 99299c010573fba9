-- In every sheet, up to its end or to the refused record, the row numbers rise strictly. Assumes nothing.
use Rattle.std.specs.Prelude.{ℕ, zero, suc, ◌≤◌, ◌<◌, ◌≡◌, refl, List, [], ◌∷◌, map, length, get_or}
use Rattle.std.proofs.Common.{add-one, arith}
use Rattle.sheet_format.specs.Context.{Heading, Context, new_sheet}
use Rattle.sheet_format.specs.Kind.{Payload, a_table, a_row, a_line, no_payload, after_record}
use Rattle.sheet_format.specs.Kinds.{kind_of}
use Rattle.sheet_format.specs.Kinds.Laws.{lawful}
use Rattle.sheet_format.specs.Record.{body_of, kind_field}
use Rattle.sheet_format.specs.Reading.{context_after, record_held, record_judged}
use Rattle.sheet_format.specs.Reading.Laws.{judged-read, judged-held}
use Rattle.sheet_format.specs.Sheet.{StoredRow, row_of, record_holds, record_here, with_row, stored_rows, records_from, sheet_read, row_numbers}
use Rattle.sheet_format.specs.Sheet.Laws.{records_from-all}

-- rows whose numbers rise strictly from low on
abbrev pub Rising : ℕ → List StoredRow → Type 0
Rising low [] = Unit {0}
Rising low (y ∷ ys) = (low ≤ y.number) × Rising (suc y.number) ys

-- ---- one record
row-rises : (s : Payload) (h : Heading) (b : List ℕ) (c : Context) (y : StoredRow) (ys : List StoredRow)
    → y.number ≡ h.row → (s ≡ a_row → c.least ≤ h.row)
    → Rising (after_record s h b c).least ys → Rising c.least (with_row s y ys)
row-rises a_table h b c y ys same risen rest = rest
row-rises a_row h b c y ys same risen rest =
    (rw same (risen refl), rw (same, ← add-one h.row) rest)
row-rises a_line h b c y ys same risen rest = rest
row-rises no_payload h b c y ys same risen rest = rest

record-rises : (c : Context) (r : List ℕ) (ys : List StoredRow) → (record_judged c r).number ≡ 0
    → Rising (context_after c r).least ys
    → Rising c.least (with_row (record_holds (record_here c r)) (row_of (record_here c r)) ys)
unfolding record_held context_after
record-rises c r ys ok rest =
    let k = kind_of (kind_field r) in
    let place = (judged-read c r ok).parts.place in
    rw (judged-held c r ok)
    (row-rises k.holds (k.heading (body_of r)) (body_of r) c _ ys refl
    (λ row. (lawful (kind_field r)).row-risen row c (k.heading (body_of r)) place) rest)

-- ---- all records
pub records_from-rising : (n : ℕ) (c : Context) (r : List ℕ) → Rising c.least (stored_rows (records_from n c r).records)
unfolding stored_rows
records_from-rising =
    records_from-all (λ c s. Rising c.least (stored_rows s.records)) (λ c e at. tt)
    (λ c r rest ok h. record-rises c r (stored_rows rest.records) ok h)

pub sheet_read-rows : (s : List ℕ) → Rising 0 (stored_rows (sheet_read s).records)
unfolding sheet_read stored_rows
sheet_read-rows [] = tt
sheet_read-rows (x ∷ s) = records_from-rising (length (x ∷ s)) new_sheet (x ∷ s)

-- ---- by index
abbrev number : StoredRow → ℕ
number y = y.number

rising-least : (low : ℕ) (ys : List StoredRow) (j : ℕ) → Rising low ys → j < length (map number ys)
    → low ≤ get_or (map number ys) j 0
rising-least low [] j h less = absurd (omega arith)
rising-least low (y ∷ ys) zero h less = h.0
rising-least low (y ∷ ys) (suc j) h less =
    let first = h.0 in omega (arith, rising-least (suc y.number) ys j h.1 (omega arith))

rising-pairs : (low : ℕ) (ys : List StoredRow) → Rising low ys → (i j : ℕ) → i < j → j < length (map number ys)
    → get_or (map number ys) i 0 < get_or (map number ys) j 0
rising-pairs low [] h i j order less = absurd (omega arith)
rising-pairs low (y ∷ ys) h i zero order less = absurd (omega arith)
rising-pairs low (y ∷ ys) h zero (suc j) order less = rising-least (suc y.number) ys j h.1 (omega arith)
rising-pairs low (y ∷ ys) h (suc i) (suc j) order less = rising-pairs (suc y.number) ys h.1 i j (omega arith) (omega arith)

pub sheet_read-rising : (s : List ℕ) (i j : ℕ) → i < j → j < length (row_numbers (sheet_read s).records)
    → get_or (row_numbers (sheet_read s).records) i 0 < get_or (row_numbers (sheet_read s).records) j 0
sheet_read-rising s = rising-pairs 0 (stored_rows (sheet_read s).records) (sheet_read-rows s)
