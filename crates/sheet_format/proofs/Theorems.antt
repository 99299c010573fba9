-- The theorems about records and sheets, in the words of document 01 and of document 02's tickets 2 and 5; the files below prove
-- them. c is what the sheet holds so far, r the sheet's bytes from a record's place on, h the heading and x the content that the
-- record writer is given, and m the memory lent for writing, as it was. The calls are given tb, the bytes of the sheet's table, and
-- st, a state of two numbers: context_of tb st is what these say of c. Assumes nothing.
use Rattle.std.specs.Prelude.{ℕ, ◌+◌, ◌*◌, ◌≤◌, ◌<◌, ◌≡◌, true, false, ◌↔◌, length, take, drop, get_or, ltb, eqb}
use mathlib.Core.List.{List, [], ◌∷◌, ◌++◌, Memᴰ}
use Rattle.bitstream.specs.Bits.{words_of, halves_of, Below}
use Rattle.answer.specs.Outcome.{outcome, writes, Kept, Within}
use Rattle.row_format.specs.Lists.{any}
use Rattle.row_format.specs.Table.{table_number}
use Rattle.row_format.specs.Row.{pixel_bytes}
use Rattle.row_format.specs.FirstHeight.{former_bits, former_bytes}
use Rattle.row_format.specs.Place.{has_place}
use Rattle.row_format.specs.Calls.{row_refused}
use Rattle.sheet_format.specs.declared.SheetState.{SheetState}
use Rattle.sheet_format.specs.Context.{Heading, Context, new_sheet, state_of, context_of, table_for}
use Rattle.sheet_format.specs.Context.Laws.{state_of-context_of}
use Rattle.sheet_format.specs.Kind.{a_row, a_line, table_kept, content_given}
use Rattle.sheet_format.specs.Kind.Row.{row_heading, pixel_count, row_content}
use Rattle.sheet_format.specs.Kinds.{kind_of}
use Rattle.sheet_format.specs.Record.{length_field, kind_field, body_of, length_number, record_span}
use Rattle.sheet_format.specs.Reading.{answer_bytes, context_after, record_held, record_content, judged_numbers, refused_record, ReachesRow, row_call, record_judged, record_read}
use Rattle.sheet_format.specs.Reading.Laws.{judged-length}
use Rattle.sheet_format.specs.Writing.{written_numbers, not_written, record_for, record_written, RecordWritable}
use Rattle.sheet_format.specs.Sheet.{SheetRecord, ReadFrom, ends_with, put_first, record_here, rest_next, records, sheet_read, record_holds, numbers_held, stored_rows, stored_lines, absent, present, heights_of, record_kinds, row_numbers}
use Rattle.sheet_format.specs.Sheet.Laws.{records-end, records-refused, records-more}
use Rattle.sheet_format.specs.Given.{record_given, Write, AllDone, sheet_bytes, sheet_given}
use RowNumber.{record_written-above, record_written-rowless}
use Written.{read-written, judged-written, table-written, length-written, granted-written, full-written}
use Memory.{record_judged-refused, record_read-kept, record_written-kept, record_written-within}
use Locality.{record-alike, span-alike}
use Room.{record_read-judged, record_read-granted, record_read-full, record_read-within}
use Rising.{sheet_read-rising}
use TableFirst.{table-accepted, sheet_read-table-first}
use Sheets.{sheet_read-written}
use Numbers.{record_judged-numbers, record_read-numbers, record_written-numbers}
use Place.{record_judged-placeless, record_read-placeless, row-judged, row_read}
use Reached.{record_read-placed, judged-reaches, judged-call}
use State.{context_after-kept}
use Former.{former-judged, former-held, former-read}
use Stored.{stored-heights, stored-numbers, stored-absent, stored-read, sheet_read-read}
pub mod ReadBack
pub mod Written
pub mod RowNumber
pub mod Memory
pub mod Locality
pub mod Room
pub mod Rising
pub mod Rows
pub mod TableFirst
pub mod Sheets
pub mod Numbers
pub mod State
pub mod Stored
pub mod Place
pub mod Reached
pub mod StoredRows
pub mod Former

-- ---- what is written is read back
-- From the bytes that a done write counts, whatever follows them, and with room for the content, reading gives number 0, the
-- kind, row, count and content that were given, the length that was counted, and the state that the writer answered.
module _ (code : ℕ) (h : Heading) (c : Context) (x m : List ℕ) (bytes : Below 256 x)
    (done : (record_written code h c x m).answer.number ≡ 0) where
  pub written_read : (rest m' : List ℕ) → length (content_given (kind_of code) x) ≤ length m'
      → let w = record_written code h c x m in
      record_read c (take w.answer.count w.memory ++ rest) m'
      ≡ writes (record_given code h c x w.answer) (content_given (kind_of code) x) m'
  written_read = read-written code h c x m bytes done

  -- and judging accepts it
  pub written-judged : (rest : List ℕ)
      → let w = record_written code h c x m in
      record_judged c (take w.answer.count w.memory ++ rest) ≡ record_given code h c x w.answer
  written-judged = judged-written code h c x m bytes done

  -- a table's bytes are the record's from place 6 on
  pub written-table : code ≡ 1 → let w = record_written code h c x m in drop 6 (take w.answer.count w.memory) ≡ x
  written-table = table-written code h c x m bytes done

  -- it is 6 to 32778 bytes
  pub written-length :
      let w = record_written code h c x m in
      (6 ≤ w.answer.count) × (w.answer.count ≤ 32778)
  written-length = length-written code h c x m bytes done

-- No row number is cut down: one that is above 65535, which a record cannot hold, is refused 16, whatever the content. A kind
-- without a row writes the same whatever number is given.
pub written-row-above : (code : ℕ) (h : Heading) (c : Context) (x m : List ℕ) → (kind_of code).holds ≡ a_row → 65535 < h.row
    → (kind_of code).writable ≡ 0 → record_written code h c x m ≡ outcome (not_written 16) m
written-row-above = record_written-above

pub written-rowless : (code : ℕ) (h g : Heading) (c : Context) (x m : List ℕ) → ((kind_of code).holds ≡ a_row → ⊥)
    → record_written code h c x m ≡ record_written code g c x m
written-rowless = record_written-rowless

-- A sheet of written records, each done in what the one before left, is accepted, and its records are those.
pub written-sheet : (w : Write) (ws : List Write) → AllDone new_sheet (w ∷ ws)
    → sheet_read (sheet_bytes new_sheet (w ∷ ws)) ≡ record { records = sheet_given new_sheet (w ∷ ws); number = 0; place = 0 }
written-sheet = sheet_read-written

-- ---- sheets
-- "A sheet is records one after another": nothing at its end; at a refused record its number and place; after an accepted one
-- the rest
pub sheet-end : (c : Context) → records c [] ≡ ends_with 0 0
sheet-end = records-end

pub sheet-refused : (c : Context) (x : ℕ) (r : List ℕ) → ((record_judged c (x ∷ r)).number ≡ 0 → ⊥)
    → records c (x ∷ r) ≡ ends_with (record_judged c (x ∷ r)).number (record_judged c (x ∷ r)).at
sheet-refused = records-refused

pub sheet-more : (c : Context) (x : ℕ) (r : List ℕ) → (record_judged c (x ∷ r)).number ≡ 0
    → records c (x ∷ r) ≡ put_first (record_here c (x ∷ r)) (records (context_after c (x ∷ r)) (rest_next c (x ∷ r)))
sheet-more = records-more

-- What a caller keeps is enough: the state that was answered and the table, the record's body where it holds one, say what
-- the sheet holds after an accepted record; and the state says what it said.
pub state-kept : (tb r : List ℕ) (st : SheetState) → (record_judged (context_of tb st) r).number ≡ 0
    → context_after (context_of tb st) r
    ≡ context_of (table_kept (kind_of (kind_field r)).holds tb (body_of r)) (record_judged (context_of tb st) r).state
state-kept = context_after-kept

pub state-same : (tb : List ℕ) (st : SheetState) → state_of (context_of tb st) ≡ st
state-same = state_of-context_of

-- "Row numbers rise strictly over kinds 2 and 3": in every sheet, a refused one's records before the refused one included
pub row-numbers-rise : (s : List ℕ) (i j : ℕ) → i < j → j < length (row_numbers (sheet_read s).records)
    → get_or (row_numbers (sheet_read s).records) i 0 < get_or (row_numbers (sheet_read s).records) j 0
row-numbers-rise = sheet_read-rising

-- "The one table comes first": record i of a sheet is a table exactly when i is 0
pub table-first : (s : List ℕ) (i : ℕ) → i < length (record_kinds (sheet_read s).records)
    → (get_or (record_kinds (sheet_read s).records) i 0 ≡ 1) ↔ (i ≡ 0)
table-first = sheet_read-table-first

-- the table that a sheet keeps, the bytes of its record from place 6 on, is accepted
pub kept_table : (c : Context) (r : List ℕ) → (record_judged c r).number ≡ 0 → (record_judged c r).kind ≡ 1
    → table_number (drop 6 (take (record_judged c r).length r)) ≡ 0
kept_table = table-accepted

-- What a sheet stores: every row among its records stands under its number with the heights that its content has, and every
-- line is among its lines; and that content is what reading the record gives at the place in the sheet where it stands.
pub stored_row : (s : List ℕ) (x : SheetRecord) → Memᴰ x (sheet_read s).records → record_holds x ≡ a_row
    → heights_of x.answer.row (stored_rows (sheet_read s).records) ≡ present (halves_of x.content)
stored_row = stored-heights

pub stored-line : (s : List ℕ) (x : SheetRecord) → Memᴰ x (sheet_read s).records → record_holds x ≡ a_line
    → Memᴰ (numbers_held x) (stored_lines (sheet_read s).records)
stored-line = stored-numbers

-- a number that none of its rows has is absent
pub unstored-row : (s : List ℕ) (n : ℕ)
    → ((x : SheetRecord) → Memᴰ x (sheet_read s).records → record_holds x ≡ a_row → x.answer.row ≡ n → ⊥)
    → heights_of n (stored_rows (sheet_read s).records) ≡ absent
unstored-row = stored-absent

pub record-place : (s : List ℕ) (x : SheetRecord) → Memᴰ x (sheet_read s).records → ReadFrom new_sheet s x
record-place = sheet_read-read

pub record-content : (s : List ℕ) (x : SheetRecord) (from : ReadFrom new_sheet s x) (m : List ℕ) → answer_bytes x.answer ≤ length m
    → record_read from.context from.place m ≡ writes x.answer x.content m
record-content = stored-read

-- ---- a record alone
-- "a 4-byte .. length"; "2 to 32,774": an accepted record is 6 to 32778 bytes, and they are there
pub record-length : (c : Context) (r : List ℕ) → (record_judged c r).number ≡ 0
    → (6 ≤ (record_judged c r).length) × ((record_judged c r).length ≤ 32778) × ((record_judged c r).length ≤ length r)
record-length = judged-length

-- Reading looks at no byte after the record: with anything else in their place the answer is the same.
pub record-local : (c : Context) (r : List ℕ) → length_number r ≡ 0 → (rest : List ℕ)
    → let front = take (4 + length_field r) r in
    (record_judged c (front ++ rest) ≡ record_judged c r) × ((m : List ℕ) → record_read c (front ++ rest) m ≡ record_read c r m)
record-local = record-alike

-- So a sheet can be streamed: four bytes, and as many more as they say where that is within its limits, are enough to judge
-- and to read the record that stands there, or to refuse it, truncated or not.
pub record-span : (c : Context) (r : List ℕ)
    → (record_judged c (take (record_span r) r) ≡ record_judged c r)
    × ((m : List ℕ) → record_read c (take (record_span r) r) m ≡ record_read c r m)
record-span = span-alike

-- ---- judging and reading
-- With 16384 bytes lent they answer the same, whatever stands there.
pub read-judged : (c : Context) (r m : List ℕ) → 16384 ≤ length m → (record_read c r m).answer ≡ record_judged c r
read-judged = record_read-judged

-- "lent room smaller than this call's output": of a record that judging accepts, reading is refused 5 exactly when fewer
-- bytes are lent than 2 for each pixel or 4 for each number; else it gives the same answer and the content.
module _ (c : Context) (r m : List ℕ) (ok : (record_judged c r).number ≡ 0) where
  pub read-granted : answer_bytes (record_judged c r) ≤ length m
      → record_read c r m ≡ writes (record_judged c r) (record_content c r) m
  read-granted = record_read-granted c r m ok

  pub read-refused-room : length m < answer_bytes (record_judged c r) → (record_read c r m).answer.number ≡ 5
  read-refused-room = record_read-full c r m ok

-- Writing, where no other refusal is given, is refused 5 exactly when fewer bytes are lent than the whole record's.
module _ (code : ℕ) (h : Heading) (c : Context) (x m : List ℕ) (ok : RecordWritable code h c x) where
  pub written-granted : length (record_for code h c x) ≤ length m → (record_written code h c x m).answer.number ≡ 0
  written-granted = granted-written code h c x m ok

  pub written-refused-room : length m < length (record_for code h c x) → (record_written code h c x m).answer.number ≡ 5
  written-refused-room = full-written code h c x m ok

-- ---- document 02, ticket 2: where reading stopped
-- The place is 0 where a record is accepted, and for every number but 6 to 10.
pub judged-place-none : (c : Context) (r : List ℕ) → has_place (record_judged c r).number ≡ false → (record_judged c r).at ≡ 0
judged-place-none = record_judged-placeless

pub read-place-none : (c : Context) (r m : List ℕ) → has_place (record_read c r m).answer.number ≡ false
    → (record_read c r m).answer.at ≡ 0
read-place-none = record_read-placeless

-- Of a record that is a packed row, its length, fields and place in order: where the row call, lent m, answers 6 to 10 for the
-- row's words, judging the record answers the same number and place, "counted from the row's first word", and so does reading
-- it where there is room for the row.
module _ (c : Context) (r : List ℕ) (there : ReachesRow c r) (m : List ℕ) (shows : has_place (row_call c r m).answer.number ≡ true)
  where
    pub judged-row-place : let a = (row_call c r m).answer in record_judged c r ≡ refused_record a.at a.number
    judged-row-place = row-judged c r there m shows

    pub read-row-place : (m' : List ℕ) → 2 * pixel_count (body_of r) ≤ length m'
        → let a = (row_call c r m).answer in record_read c r m' ≡ outcome (refused_record a.at a.number) m'
    read-row-place = row_read c r there m shows

-- And back: what judging refuses 6 to 10 is such a record, and the row call for its words, where it has room for the row, answers
-- that number and that place. Where reading a record answers 6 to 10, it answers as judging does.
module _ (c : Context) (r : List ℕ) (shows : has_place (record_judged c r).number ≡ true) where
  pub judged-place-row : ReachesRow c r
  judged-place-row = judged-reaches c r shows

  pub judged-place-call : (m : List ℕ) → 2 * pixel_count (body_of r) ≤ length m
      → row_call c r m ≡ row_refused (record_judged c r).at (record_judged c r).number m
  judged-place-call = judged-call c r shows

pub read-place-judged : (c : Context) (r m : List ℕ) → has_place (record_read c r m).answer.number ≡ true
    → (record_read c r m).answer ≡ record_judged c r
read-place-judged = record_read-placed

-- ---- document 02, ticket 5: "Old words are still read as before"
-- Of a record that is a packed row, its length, fields, place and table in order, with the words that the rule before the ticket
-- gives for the pixels ps: it is accepted, by the bits that it took then, and what is read of it are those pixels.
module _ (c : Context) (r ps : List ℕ) (there : ReachesRow c r)
    (ok : table_number (table_for c (row_heading (body_of r))) ≡ 0) (count : pixel_count (body_of r) ≡ length ps)
    (few : length ps ≤ 4096) (pixels : any (ltb 4095) ps ≡ false)
    (words : row_content (body_of r) ≡ former_bytes (words_of (table_for c (row_heading (body_of r)))) ps) where
  pub former-row-judged : (record_judged c r ≡ record_held c r)
      × ((record_held c r).bits ≡ length (former_bits (words_of (table_for c (row_heading (body_of r)))) ps))
  former-row-judged = (former-judged c r ps there ok count few pixels words, former-held c r ps there ok count few pixels words)

  pub former-row-read : (m : List ℕ) → 2 * length ps ≤ length m → record_read c r m ≡ writes (record_held c r) (pixel_bytes ps) m
  former-row-read = former-read c r ps there ok count few pixels words

-- ---- demand 1
-- "each call .. answers with a number from document 01", and its order lists which; judging never gives 5
pub judged-numbers : (c : Context) (r : List ℕ) → any (eqb (record_judged c r).number) judged_numbers ≡ true
judged-numbers = record_judged-numbers

pub read-numbers : (c : Context) (r m : List ℕ) → any (eqb (record_read c r m).answer.number) (5 ∷ judged_numbers) ≡ true
read-numbers = record_read-numbers

pub written-numbers : (code : ℕ) (h : Heading) (c : Context) (x m : List ℕ)
    → any (eqb (record_written code h c x m).answer.number) written_numbers ≡ true
written-numbers = record_written-numbers

-- "A refused call gives its number, zero for every count and value, and leaves the lent memory as found", as ticket 2 amends
-- it: but the place of 6 to 10, which refused_record keeps
pub judged-refused-keeps : (c : Context) (r : List ℕ) → ((record_judged c r).number ≡ 0 → ⊥)
    → record_judged c r ≡ refused_record (record_judged c r).at (record_judged c r).number
judged-refused-keeps = record_judged-refused

pub read-refused-keeps : (c : Context) (r m : List ℕ) → ((record_read c r m).answer.number ≡ 0 → ⊥)
    → let a = (record_read c r m).answer in Kept (refused_record a.at a.number) m (record_read c r m)
read-refused-keeps = record_read-kept

pub written-refused-keeps : (code : ℕ) (h : Heading) (c : Context) (x m : List ℕ)
    → ((record_written code h c x m).answer.number ≡ 0 → ⊥)
    → Kept (not_written (record_written code h c x m).answer.number) m (record_written code h c x m)
written-refused-keeps = record_written-kept

-- "A done call writes only the pixels, words or bytes that it counts"
pub read-writes-content : (c : Context) (r m : List ℕ) → Within (answer_bytes (record_read c r m).answer) m (record_read c r m)
read-writes-content = record_read-within

pub written-writes-record : (code : ℕ) (h : Heading) (c : Context) (x m : List ℕ)
    → Within (record_written code h c x m).answer.count m (record_written code h c x m)
written-writes-record = record_written-within
