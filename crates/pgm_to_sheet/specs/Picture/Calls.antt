-- What the calls answered, as the program goes on with it: the table or the header is refused, or the table's record is the first; a row
-- is refused, or its record is the next. Assumes nothing.
use Rattle.std.specs.Prelude.{ℕ, ◌+◌, ◌*◌, ◌≤◌, ◌<◌, ◌≡◌, refl, List, [], ◌++◌, length, take, drop, Ok, Err}
use Rattle.std.proofs.Common.{arith, sym, ap, ◌∙◌, length-append}
use Rattle.bitstream.specs.Bits.{Below}
use Rattle.answer.specs.declared.Answer.{Answer}
use Rattle.answer.specs.Outcome.{Outcome, outcome, writes, answer_of, refusal}
use Rattle.answer.specs.declared.refusal.Refusal.{Refusal}
use Rattle.answer.specs.Refusal.{refusal_number}
use Rattle.answer.specs.Refusal.Laws.{refusal_not_done}
use Rattle.answer.specs.Outcome.Laws.{given-first, given-next, unless-in, unless-number}
use Rattle.row_format.specs.Table.{table_number, max_item_bits}
use Rattle.row_format.specs.Calls.{checked}
use Rattle.row_format.specs.Row.{pixel_bytes}
use Rattle.bitstream.specs.Bits.{words_of}
use Rattle.sheet_format.specs.declared.RecordWritten.{RecordWritten}
use Rattle.sheet_format.specs.declared.SheetState.{SheetState}
use Rattle.sheet_format.specs.Context.{Heading, no_heading, new_sheet, context_of}
use Rattle.sheet_format.specs.Writing.{record_for, write_number, not_written, record_done, record_written}
use Rattle.fits_format.specs.Heights.{table_bytes}
use Rattle.fits_format.specs.Image.{big_endian}
use Rattle.pgm_format.specs.declared.PgmHeader.{PgmHeader}
use Rattle.pgm_format.specs.Header.{PgmRead, pgm_header, as_pgm, PgmAccepted}
use Rattle.pgm_format.specs.Header.Accepted.{pgm-accepted}
use Rattle.pgm_format.specs.Conversion.{line_refusal, before_samples, pgm_row}
use Rattle.pgm_format.proofs.Conversion.Call.{pgm_row-number, pgm_row-bytes, table_written-bytes, table_written-count}
use Rattle.pgm_to_sheet.specs.Picture.{SpanHeld, LineHeld, PictureStands, TableWritten, LinesBefore, LineAdded, LineWritten, LineRefused, PictureEnded}
use Rattle.pgm_to_sheet.specs.Picture.Laws.{ended-refused, no_header, first-record}
use Rattle.pgm_to_sheet.specs.Picture.Laws.{rows_taken-none, ended-rows, rows_taken-more, next-record}

-- ---- the table's
checked-number : (tb : List ℕ) → (checked tb).number ≡ table_number tb
unfolding checked
checked-number tb =
    unless-number (λ (a : Answer). a.number) refusal (answer_of 0 (max_item_bits (words_of tb))) (λ k. refl) (table_number tb) refl

pub table-refused : (tb : List ℕ) {a : Answer} → a ≡ checked tb → (a.number ≡ 0 → ⊥) → PictureEnded tb [] [] a.number 0 0
table-refused tb {a} is some =
    let number : a.number ≡ table_number tb = ap (λ (x : Answer). x.number) is ∙ checked-number tb in
    ended-refused [] no_header tb (given-first (table_number tb) (pgm_header []).number number some) some

pub table-checked : (tb : List ℕ) {a : Answer} → a ≡ checked tb → a.number ≡ 0 → checked tb ≡ answer_of 0 a.count
table-checked tb {a} is none = sym is ∙ ap (λ (e : ℕ). answer_of e a.count) none

pub table-accepted : (tb : List ℕ) {most : ℕ} → checked tb ≡ answer_of 0 most → table_number tb ≡ 0
table-accepted tb table = sym (checked-number tb) ∙ ap (λ (a : Answer). a.number) table

module _ (tb : List ℕ) (accepted : table_number tb ≡ 0) where
  module _ (m : List ℕ) (room : 6 + length tb ≤ length m) {a : RecordWritten} {m' : List ℕ}
      (written : outcome a m' ≡ record_written 1 no_heading new_sheet tb m) where
    pub table-put : take a.count m' ≡ table_bytes tb
    table-put =
        ap (λ (o : Outcome RecordWritten). take o.answer.count o.memory) written ∙ table_written-bytes tb accepted m room

    pub table-within : a.count ≤ length m'
    table-within = rw (← written) at (table_written-count tb accepted m room)

  -- ---- the header's
  pub header_refused_lem : (front : List ℕ) (e : Refusal) → as_pgm (Err e) ≡ pgm_header front
      → PictureEnded tb front [] (refusal_number e) 0 0
  header_refused_lem front e is =
      let number : refusal_number e ≡ (pgm_header front).number = ap (λ (x : PgmRead). x.number) is in
      let some : refusal_number e ≡ 0 → ⊥ = λ z. omega (arith, z, refusal_not_done e) in
      ended-refused front (λ z. some (number ∙ z)) tb (given-next accepted number) some

-- ---- a row's
counted : Outcome RecordWritten → Type 0
counted o = o.answer.count ≤ length o.memory

record_written-counted : (code : ℕ) (r : ℕ) (tb : List ℕ) (st : SheetState) (x m : List ℕ)
    → counted (record_written code (record { row = r }) (context_of tb st) x m)
unfolding record_written counted
record_written-counted code r tb st x m =
    let h : Heading = record { row = r } in
    let c = context_of tb st in
    let b = record_for code h c x in
    unless-in counted (write_number code h c x (length m)) (λ e. outcome (not_written e) m) (writes (record_done code h c x) b m)
    (λ k e. omega arith) (λ e. omega (arith, length-append b (drop (length b) m)))

pgm_row-counted : (w r : ℕ) (tb : List ℕ) (st : SheetState) (s m : List ℕ) → counted (pgm_row w r tb st s m)
unfolding pgm_row counted
pgm_row-counted w r tb st s m =
    unless-in counted (before_samples w (length s)) (λ e. outcome (not_written e) m) _
    (λ k e. omega arith) (λ e. record_written-counted 2 r tb st (pixel_bytes (big_endian w s)) m)

-- ---- a header that is accepted, and its rows
module _ {tb : List ℕ} {most : ℕ} {front : List ℕ} {h : PgmHeader} (stands : PictureStands tb most front h) where
  ok : (pgm_header front).number ≡ 0
  ok = sym (ap (λ (x : PgmRead). x.number) stands.header)

  width_is : h.width ≡ (pgm_header front).width
  width_is = ap (λ (x : PgmRead). x.width) stands.header

  rows_is : h.rows ≡ (pgm_header front).rows
  rows_is = ap (λ (x : PgmRead). x.rows) stands.header

  start_is : h.start ≡ (pgm_header front).start
  start_is = ap (λ (x : PgmRead). x.start) stands.header

  tb-ok : table_number tb ≡ 0
  tb-ok = table-accepted tb stands.table

  pub stands-fits : PgmAccepted front (as_pgm (Ok h))
  stands-fits = rw stands.header (pgm-accepted front ok)

  pub stands-first : {b : List ℕ} → b ≡ table_bytes tb → TableWritten tb front b
  stands-first is = rw is (first-record tb front tb-ok ok)

  -- what the row's call answered
  module _ (r : ℕ) (less : r < h.rows) (held m : List ℕ) (bytes : Below 256 held) (room : 32784 ≤ length m)
      {a : RecordWritten} {m' : List ℕ}
      (read : outcome a m' ≡ pgm_row h.width r tb (record { has_table = 1; least_row = r }) held m) where
    low : r ≤ 65535
    low = omega (arith, less, stands-fits.rows-most)

    enough : 13834 ≤ length m
    enough = omega (arith, room)

    row_number : a.number ≡ line_refusal h.width held
    row_number =
        ap (λ (o : Outcome RecordWritten). o.answer.number) read
        ∙ pgm_row-number tb tb-ok h.width stands-fits.width-least stands-fits.width-most r low held m bytes enough

    row_within : a.count ≤ length m'
    unfolding counted
    row_within = rw (← read) at (pgm_row-counted h.width r tb (record { has_table = 1; least_row = r }) held m)

    pub row-written : a.number ≡ 0 → LineWritten tb h.width r held a.count m'
    row-written none = record {
      number = sym row_number ∙ none;
      bytes =
          ap (λ (o : Outcome RecordWritten). take o.answer.count o.memory) read
          ∙ pgm_row-bytes tb tb-ok h.width stands-fits.width-least stands-fits.width-most r low held m bytes enough
          (sym row_number ∙ none);
      within = row_within;
    }

    pub row-refused : (a.number ≡ 0 → ⊥) → LineRefused h.width held a.number
    row-refused some = record { is = row_number; some = some }

  pub before-none : LinesBefore front 0
  before-none = record { image = []; taken = rows_taken-none tb front tb-ok ok }

  module _ {r : ℕ} (before : LinesBefore front r) where
    pub all-ended : h.rows ≤ r → PictureEnded tb front [] 0 0 r
    all-ended most-rows =
        let last : r ≡ (pgm_header front).rows =
        omega (arith, most-rows, rows_is, before.taken.within) in
        ended-rows tb front tb-ok ok before.image r before.taken [] 0
        (λ less. absurd (omega (arith, less, last))) (λ less. absurd (omega (arith, less, last))) (λ e. refl)
        (λ less. absurd (omega (arith, less, last))) (λ e. refl)

    module _ (less : r < h.rows) where
      less-here : r < (pgm_header front).rows
      less-here = rw rows_is at less

      module _ {held : List ℕ} (row : SpanHeld (drop (h.start + 2 * h.width * r) front) held (2 * h.width)) where
        row_here : LineHeld front held r
        row_here = rw (start_is, width_is) at row

        pub row-ended : {number : ℕ} → LineRefused h.width held number → PictureEnded tb front held 0 number r
        row-ended {number} refused =
            ended-rows tb front tb-ok ok before.image r before.taken held number
            (λ less. rw width_is at refused.is) (λ less. refused.some) (λ e. absurd (omega (arith, e, less-here))) (λ less. row_here)
            (λ e. absurd (omega (arith, e, less-here)))

        module _ {count : ℕ} {out : List ℕ} (written : LineWritten tb h.width r held count out) where
          right : line_refusal (pgm_header front).width held ≡ 0
          right = rw width_is at written.number

          pub before_more : LinesBefore front (r + 1)
          before_more = record {
            image = before.image ++ held;
            taken = rows_taken-more tb front tb-ok ok before.image r before.taken held less-here row_here right;
          }

          pub row_next : LineAdded tb front held r (take count out)
          row_next =
              rw (written.bytes, width_is)
              (next-record tb front tb-ok ok before.image r before.taken held less-here row_here right)
