-- What the text says: a line gives its row back, without `--rows` no row is left out, and what is printed record by record is the
-- text of the sheet. Assumes nothing.
use Rattle.std.specs.Prelude.{ℕ, ◌≡◌, refl, true, length, take, drop}
use Rattle.std.proofs.Common.{arith, sym, ap, ◌∙◌, take-append-drop, take_at}
use mathlib.Core.List.{List, ◌∷◌, ◌++◌, Memᴰ, append_assoc}
use Rattle.bitstream.specs.Bits.{Below}
use Rattle.bitstream.specs.Bits.Laws.{below-cons}
use Rattle.map_text.specs.Scan.{counts, text_counts}
use Rattle.map_text.specs.Theorems.{row-text-back}
use Rattle.sheet_format.specs.Context.{new_sheet}
use Rattle.sheet_format.specs.Record.{record_span}
use Rattle.sheet_format.specs.Reading.{record_judged}
use Rattle.sheet_format.specs.Sheet.{SheetRead, StoredRow, records, stored_rows, sheet_read}
use Rattle.sheet_format.specs.Stream.{held_of, context_by, carried_next, ended, next_of, Carried, Carries}
use Rattle.sheet_format.proofs.Stream.Settled.{stored_rows-append, sheet_read-records}
use Rattle.sheet_format.proofs.Stream.Taken.{records-append, carries-more, carries-ended}
use Rattle.sheet_format.proofs.Theorems.StoredRows.{stored-within}
use Rattle.sheet_to_text.specs.declared.range.RowRange.{RowRange}
use Rattle.sheet_to_text.specs.RowRange.{between, is_asked}
use Rattle.sheet_to_text.specs.RowRange.Laws.{asked-within}
use Rattle.sheet_to_text.specs.SheetText.{row_line, row_lines, sheet_text, NextText}
use Rattle.sheet_to_text.specs.SheetText.Laws.{lines-append}

module _ (s : List ℕ) (y : StoredRow) (there : Memᴰ y (stored_rows (sheet_read s).records)) where
  -- the numbers that a row's line is read as are the row's number and its heights
  pub line-back : text_counts (row_line y) ≡ counts (y.number ∷ y.heights)
  line-back =
      let within = stored-within s y there in
      let low : Below 65536 y.heights = record { below = λ i. omega (arith, within.low.below i) } in
      row-text-back (y.number ∷ y.heights) (below-cons within.number low)

  -- the rows from 0 to 65535 are all
  pub every-row : is_asked (between 0 65535) y.number ≡ true
  every-row =
      let within = stored-within s y there in
      asked-within (between 0 65535) y.number (omega arith) (omega (arith, within.number))

-- where the sheet ends, what was printed of its records is its text
pub text-ends : (r : RowRange) {taken : List ℕ} {p : Carried} → Carries taken p → (held : List ℕ) {e bit : ℕ} → next_of p held ≡ ended e bit
    → row_lines r (stored_rows (records new_sheet taken).records) ≡ sheet_text r (taken ++ held)
text-ends r at held ends = sym (ap (λ (x : SheetRead). row_lines r (stored_rows x.records)) (carries-ended at held ends))

-- and before that it is the front of it, whatever follows: where the record's bytes are those that are held of what is left, t, the
-- text of all begins with what was printed before and with what is printed now
module _ {r : RowRange} {held l : List ℕ} (x : NextText r held l) (t : List ℕ) (same : held_of t ≡ held) where
  abbrev front : List ℕ
  front = row_lines r (stored_rows (records new_sheet x.taken).records)

  whole : x.taken ++ t ≡ (x.taken ++ held) ++ drop (record_span t) t
  whole =
      let parts : t ≡ held ++ drop (record_span t) t = rw (← same) (sym (take-append-drop (record_span t) t)) in
      ap (x.taken ++◌) parts ∙ sym (append_assoc x.taken held (drop (record_span t) t))

  pub text-begins : take (length (front ++ l)) (sheet_text r (x.taken ++ t)) ≡ front ++ l
  text-begins =
      let rest = drop (record_span t) t in
      let next = carries-more x.carries held x.whole x.accepted in
      let more = (records (context_by (carried_next x.carried held (record_judged (context_by x.carried) held))) rest).records in
      rw (
        whole,
        sheet_read-records ((x.taken ++ held) ++ rest),
        records-append next.reached rest,
        stored_rows-append (records new_sheet (x.taken ++ held)).records more,
        lines-append r (stored_rows (records new_sheet (x.taken ++ held)).records) (stored_rows more),
        x.gains,
      )
      (take_at (front ++ l) (row_lines r (stored_rows more)) (length (front ++ l)) refl)
