-- Document 01, "A sheet is records one after another": the records of a whole sheet up to its end or to the first that is
-- refused, and what they store. Definitions only. Assumes nothing.
use Rattle.std.specs.Prelude.{ℕ, zero, suc, ◌≡◌, List, [], ◌∷◌, map, cond, length, take, drop, eqb, ℤ}
use Rattle.bitstream.specs.Bits.{halves_of, words_of}
use Rattle.sheet_format.specs.declared.RecordRead.{RecordRead}
use Rattle.sheet_format.specs.Context.{Context, new_sheet}
use Rattle.sheet_format.specs.Line.{signed_of}
use Rattle.sheet_format.specs.Kind.{Payload, a_table, a_row, a_line, no_payload}
use Rattle.sheet_format.specs.Kinds.{kind_of}
use Rattle.sheet_format.specs.Reading.{context_after, record_content, record_judged}
pub mod Laws

-- an accepted record of a sheet: what it holds, its content, and its bytes
pub record SheetRecord : Type 0 where
  pub answer : RecordRead
  pub content : List ℕ
  pub bytes : List ℕ

-- a sheet's records before its end or before the refused one, and the number: 0 where the whole sheet is accepted. "refused N
-- at record K, records counted from 0": K is the count of these records. place: the bit of the refused row, from its first word,
-- where reading stopped, and 0 where the number shows none
pub record SheetRead : Type 0 where
  pub records : List SheetRecord
  pub number : ℕ
  pub place : ℕ

abbrev pub ends_with : ℕ → ℕ → SheetRead
ends_with e at = record { records = []; number = e; place = at }

abbrev pub put_first : SheetRecord → SheetRead → SheetRead
put_first x s = record { records = x ∷ s.records; number = s.number; place = s.place }

-- a sheet from a record on: at its end, after a record that is accepted, and at one that is refused by a number and a place
abbrev pub from_record : List ℕ → ℕ → ℕ → SheetRecord → SheetRead → SheetRead
from_record [] e at x rest = ends_with 0 0
from_record (y ∷ r) zero at x rest = put_first x rest
from_record (y ∷ r) (suc e) at x rest = ends_with (suc e) at

-- the record at r
abbrev pub record_here : Context → List ℕ → SheetRecord
record_here c r =
    record {
      answer = record_judged c r;
      content = record_content c r;
      bytes = take (record_judged c r).length r;
    }

-- the bytes after it
abbrev pub rest_next : Context → List ℕ → List ℕ
rest_next c r = drop (record_judged c r).length r

-- reading on from r, where the sheet holds c, over accepted records, comes to the place p, where it holds d
pub data Reaches (d : Context) (p : List ℕ) : Context → List ℕ → Type 0 where
  there : Reaches d p d p
  onward : {c : Context} {r : List ℕ} → (record_judged c r).number ≡ 0 → Reaches d p (context_after c r) (rest_next c r)
      → Reaches d p c r

-- x is a record that is accepted at a place to which reading on from r comes
pub record ReadFrom (c : Context) (r : List ℕ) (x : SheetRecord) : Type 0 where
  pub context : Context
  pub place : List ℕ
  pub reached : Reaches context place c r
  pub accepted : (record_judged context place).number ≡ 0
  pub here : x ≡ record_here context place

-- the records from a place on, where the sheet holds c so far. Every record has bytes, so that there are no more records than
-- bytes: n bounds them
unfoldable pub records_from : ℕ → Context → List ℕ → SheetRead
records_from zero c r = ends_with 0 0
records_from (suc n) c r =
    let a : RecordRead = record_judged c r in
    from_record r a.number a.at (record_here c r) (records_from n (context_after c r) (rest_next c r))

abbrev pub records : Context → List ℕ → SheetRead
records c r = records_from (length r) c r

-- "A sheet with no records is refused 16"
unfoldable pub sheet_read : List ℕ → SheetRead
sheet_read [] = ends_with 16 0
sheet_read (x ∷ r) = records new_sheet (x ∷ r)

-- ---- what records store
-- what a record holds: a table, a row or a line
abbrev pub record_holds : SheetRecord → Payload
record_holds x = (kind_of x.answer.kind).holds

-- a row: its number and its heights
pub record StoredRow : Type 0 where
  pub number : ℕ
  pub heights : List ℕ

abbrev pub row_of : SheetRecord → StoredRow
row_of x = record { number = x.answer.row; heights = halves_of x.content }

abbrev pub with_row : Payload → StoredRow → List StoredRow → List StoredRow
with_row a_table y ys = ys
with_row a_row y ys = y ∷ ys
with_row a_line y ys = ys
with_row no_payload y ys = ys

-- the rows, as their records come
unfoldable pub stored_rows : List SheetRecord → List StoredRow
stored_rows [] = []
stored_rows (x ∷ xs) = with_row (record_holds x) (row_of x) (stored_rows xs)

-- a line: its numbers
abbrev pub numbers_held : SheetRecord → List ℤ
numbers_held x = map signed_of (words_of x.content)

abbrev pub with_line : Payload → List ℤ → List (List ℤ) → List (List ℤ)
with_line a_table y ys = ys
with_line a_row y ys = ys
with_line a_line y ys = y ∷ ys
with_line no_payload y ys = ys

-- the lines' numbers, as their records come
unfoldable pub stored_lines : List SheetRecord → List (List ℤ)
stored_lines [] = []
stored_lines (x ∷ xs) = with_line (record_holds x) (numbers_held x) (stored_lines xs)

-- rows by their number: the heights of a row, or that there is none
pub data Heights : Type 0 where
  absent : Heights
  present : List ℕ → Heights

unfoldable pub heights_of : ℕ → List StoredRow → Heights
heights_of n [] = absent
heights_of n (y ∷ ys) = cond (eqb n y.number) (present y.heights) (heights_of n ys)

-- ---- of some records: their kinds, and their row numbers
unfoldable pub record_kinds : List SheetRecord → List ℕ
record_kinds [] = []
record_kinds (x ∷ xs) = x.answer.kind ∷ record_kinds xs

abbrev pub row_numbers : List SheetRecord → List ℕ
row_numbers xs = map (λ (y : StoredRow). y.number) (stored_rows xs)
