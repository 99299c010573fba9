-- The laws of a sheet's text, record by record. Assumes nothing.
use Rattle.std.specs.Prelude.{ℕ, ◌≡◌, true, false, List, [], ◌∷◌, ◌++◌}
use Rattle.std.proofs.Math.Path.{refl}
use Rattle.std.proofs.Common.{sym, ap, ◌∙◌, append_assoc, append-nil}
use Rattle.row_format.specs.Lists.Laws.{by-test, true-false}
use Rattle.sheet_format.specs.declared.RecordRead.{RecordRead}
use Rattle.sheet_format.specs.Context.{new_sheet}
use Rattle.sheet_format.specs.Kind.{Payload, a_table, a_row, a_line, no_payload, is_row}
use Rattle.sheet_format.specs.Kinds.{kind_of}
use Rattle.sheet_format.specs.Sheet.{SheetRecord, StoredRow, record_holds, row_of, with_row, stored_rows, records}
use Rattle.sheet_format.proofs.Stream.Settled.{stored_rows-append}
use Rattle.sheet_stream.specs.Step.{record_by}
use Rattle.sheet_stream.specs.AcceptedRecord.{AcceptedRecord, row_answered}
use Rattle.sheet_stream.specs.AcceptedRecord.Laws.{next-records, next_row}
use Rattle.sheet_to_text.specs.declared.range.RowRange.{RowRange}
use Rattle.sheet_to_text.specs.RowRange.{is_asked}
use Rattle.sheet_to_text.specs.SheetText.{row_line, line_asked, row_lines, held_text, record_text, NextText}

-- ---- a record
module _ (r : RowRange) (y : StoredRow) where
  pub text-rowless : (s : Payload) → is_row s ≡ false → held_text r s y ≡ []
  unfolding row_lines
  text-rowless a_table other = refl
  text-rowless a_row other = true-false refl other
  text-rowless a_line other = refl
  text-rowless no_payload other = refl

  row-alone : (s : Payload) → is_row s ≡ true → with_row s y [] ≡ y ∷ []
  row-alone a_table is = true-false is refl
  row-alone a_row is = refl
  row-alone a_line is = true-false is refl
  row-alone no_payload is = true-false is refl

  pub text-unasked : (s : Payload) → is_row s ≡ true → is_asked r y.number ≡ false → held_text r s y ≡ []
  unfolding row_lines
  text-unasked s is other = rw (row-alone s is, other)

  pub text-asked : (s : Payload) → is_row s ≡ true → is_asked r y.number ≡ true → held_text r s y ≡ row_line y
  unfolding row_lines
  text-asked s is asked = rw (row-alone s is, asked) (append-nil (row_line y))

-- ---- one record after others
pub lines-append : (r : RowRange) (ys zs : List StoredRow) → row_lines r (ys ++ zs) ≡ row_lines r ys ++ row_lines r zs
unfolding row_lines
lines-append r [] zs = refl
lines-append r (y ∷ ys) zs = rw (lines-append r ys zs) (sym (append_assoc (line_asked r y) (row_lines r ys) (row_lines r zs)))

pub text-more : (r : RowRange) (xs : List SheetRecord) (x : SheetRecord)
    → row_lines r (stored_rows (xs ++ (x ∷ []))) ≡ row_lines r (stored_rows xs) ++ record_text r x
unfolding stored_rows
text-more r xs x = rw (stored_rows-append xs (x ∷ [])) (lines-append r (stored_rows xs) (with_row (record_holds x) (row_of x) []))

-- ---- the record that was read last
module _ (r : RowRange) {held : List ℕ} {a : RecordRead} {content : List ℕ} (x : AcceptedRecord held a content) where
  same_text : record_text r (record_by a held content) ≡ held_text r (kind_of a.kind).holds (row_answered a content)
  same_text =
      let s = (kind_of a.kind).holds in
      by-test (is_row s)
      (λ row. ap (held_text r s) (next_row x row))
      (λ other. text-rowless r (row_of (record_by a held content)) s other ∙ sym (text-rowless r (row_answered a content) s other))

  pub text-next : {l : List ℕ} → l ≡ held_text r (kind_of a.kind).holds (row_answered a content) → NextText r held l
  text-next is =
      record {
        taken = x.taken;
        carried = x.carried;
        carries = x.carries;
        whole = x.whole;
        accepted = x.accepted;
        gains = rw (next-records x, is, ← same_text) (text-more r (records new_sheet x.taken).records (record_by a held content));
      }
