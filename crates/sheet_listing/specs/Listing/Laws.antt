-- The laws of a sheet's listing: what the lister prints, record by record. Assumes nothing.
use Rattle.std.specs.Prelude.{ℕ, ◌+◌, ◌≡◌, true, false, List, [], ◌∷◌, ◌++◌}
use Rattle.std.proofs.Common.{zero-add, sym, ap, ◌∙◌, append_assoc}
use Rattle.std.proofs.Math.Nat.{add-zero}
use native.Mathlib.Omega.{arith}
use Rattle.std.proofs.Math.ListN.{length}
use Rattle.row_format.specs.Lists.Laws.{true-false}
use Rattle.row_format.specs.Place.{has_place}
use Rattle.sheet_format.specs.Context.{Context, new_sheet}
use Rattle.sheet_format.specs.Reading.{context_after, record_judged}
use Rattle.sheet_format.specs.Sheet.{SheetRecord, SheetRead, ends_with, put_first, record_here, rest_next, records, sheet_read}
use Rattle.sheet_format.specs.Sheet.{record_holds, row_of, stored_rows, row_numbers}
use Rattle.sheet_format.specs.Stream.{rows_of}
use Rattle.sheet_format.proofs.Stream.Laws.{length-with_row, length-row_numbers}
use Rattle.sheet_format.proofs.Theorems.{sheet-end, sheet-refused, sheet-more}
use Rattle.text.specs.Lines.{refused_at_line, refused_bit_line}
use Rattle.sheet_listing.specs.Line.{record_line, last_line}
use Rattle.sheet_listing.specs.Line.Laws.{last_bit, last-placeless}
use Rattle.sheet_listing.specs.Listing.{record_lines, last_of, listing}

-- a listing from a record on, after so many records and rows
abbrev pub listing_from : ℕ → ℕ → SheetRead → List ℕ
listing_from index rows s =
    record_lines s.records
    ++ last_line s.number s.place (index + length s.records) (rows + length (row_numbers s.records))

pub listing-from : (s : SheetRead) → record_lines s.records ++ last_of s ≡ listing_from 0 0 s
listing-from s = rw (zero-add (length s.records), zero-add (length (row_numbers s.records)))

module _ (index rows : ℕ) where
  last-alone : (e at : ℕ) → listing_from index rows (ends_with e at) ≡ last_line e at index rows
  unfolding record_lines stored_rows
  last-alone e at = rw (add-zero index, add-zero rows)

  first-line : (x : SheetRecord) (s : SheetRead)
      → listing_from index rows (put_first x s) ≡ record_line x ++ listing_from (index + 1) (rows + rows_of (record_holds x)) s
  unfolding record_lines stored_rows
  first-line x s =
      let xs = s.records in
      let count : index + length (x ∷ s.records) ≡ index + 1 + length s.records = omega arith in
      let counted : rows + length (row_numbers (x ∷ s.records))
      ≡ rows + rows_of (record_holds x) + length (row_numbers s.records) =
      omega (arith, length-row_numbers (x ∷ xs), length-row_numbers xs, length-with_row (record_holds x) (row_of x) (stored_rows xs)) in
      rw (count, counted) (append_assoc (record_line x) (record_lines xs) _)

  -- ---- from a record on, after so many records and rows
  module _ (c : Context) where
    pub listing-end : listing_from index rows (records c []) ≡ last_line 0 0 index rows
    listing-end = ap (listing_from index rows) (sheet-end c) ∙ last-alone 0 0

    pub listing-refused : (x : ℕ) (r : List ℕ) → ((record_judged c (x ∷ r)).number ≡ 0 → ⊥)
        → let a = record_judged c (x ∷ r) in listing_from index rows (records c (x ∷ r)) ≡ last_line a.number a.at index rows
    listing-refused x r h =
        let a = record_judged c (x ∷ r) in
        ap (listing_from index rows) (sheet-refused c x r h) ∙ last-alone a.number a.at

    pub listing-more : (x : ℕ) (r : List ℕ) → (record_judged c (x ∷ r)).number ≡ 0
        → listing_from index rows (records c (x ∷ r))
        ≡ record_line (record_here c (x ∷ r))
        ++ listing_from (index + 1) (rows + rows_of (record_holds (record_here c (x ∷ r))))
        (records (context_after c (x ∷ r)) (rest_next c (x ∷ r)))
    listing-more x r h =
        ap (listing_from index rows) (sheet-more c x r h)
        ∙ first-line (record_here c (x ∷ r)) (records (context_after c (x ∷ r)) (rest_next c (x ∷ r)))

-- ---- the whole sheet
-- "A sheet with no records is refused 16"
pub listing-nothing : listing [] ≡ last_line 16 0 0 0
unfolding listing sheet_read
listing-nothing = listing-from (ends_with 16 0) ∙ last-alone 0 0 16 0

pub listing-some : (x : ℕ) (r : List ℕ) → listing (x ∷ r) ≡ listing_from 0 0 (records new_sheet (x ∷ r))
unfolding listing sheet_read
listing-some x r = listing-from (records new_sheet (x ∷ r))

-- ---- a refused sheet's last line
module _ (s : SheetRead) where
  -- "The lister's last line gains `bit B` for these": for 6 to 10 it has the place
  pub last_of-place : has_place s.number ≡ true → last_of s ≡ refused_bit_line s.number (length s.records) s.place
  last_of-place h = sym (last_bit s.number s.place _ _ (λ z. true-false h (ap has_place z)) h)

  -- and for every other number it is document 01's
  pub last_of-placeless : (s.number ≡ 0 → ⊥) → has_place s.number ≡ false
      → last_of s ≡ refused_at_line s.number (length s.records)
  last_of-placeless some h = sym (last-placeless s.number s.place _ _ some h)
