-- What the calls answered, as the program goes on with it: the header is refused, or its record is the first; a row is
-- refused, or its record is the next. Assumes nothing.
use Rattle.std.specs.Prelude.{ℕ, ◌+◌, ◌*◌, ◌≤◌, ◌<◌, ◌≡◌, refl, List, [], ◌++◌, take, drop, eqb}
use Rattle.std.proofs.Common.{arith, sym, ap, ◌∙◌, eqb-true}
use Rattle.std.proofs.Math.ListN.{length, length-append}
use Rattle.std.proofs.Math.Seq.{take-append_seam}
use Rattle.std.proofs.lemmas.Bool.{eqb-false}
use Rattle.answer.specs.declared.Answer.{Answer}
use Rattle.answer.specs.Outcome.{Outcome, outcome, writes, refused, wrote}
use Rattle.answer.specs.Outcome.Laws.{unless-in}
use Rattle.row_format.specs.Lists.Laws.{by-test}
use Rattle.fits_format.specs.declared.ImageHeader.{ImageHeader}
use Rattle.fits_format.specs.Header.{header_number, plain_table_record, no_image, image_of, header_read}
use Rattle.fits_format.specs.Image.{row_record, image_row_number, image_row}
use Rattle.fits_format.specs.Image.Call.{image_row-number, image_row-counted}
use Rattle.fits_to_sheet.specs.Scan.{HeaderHeld, row_span, ImageStands, FirstRecord, RowsBefore, NextRecord, RowWritten, RowRefused, Ended}
use Rattle.fits_format.specs.Image.Room.{image_row_number-room}
use Rattle.fits_to_sheet.specs.Scan.Laws.{header_read-refused, header-granted, ended-header, image_width-most, row_span-cut, row_span-whole, first-record, rows_taken-none, ended-rows, rows_taken-more, next-record}

-- ---- the header's
module _ (header m : List ℕ) {x : ImageHeader} {m' : List ℕ} (room : 7178 ≤ length m)
    (read : outcome x m' ≡ header_read header m) where
  as-refused : (header_number header ≡ 0 → ⊥) → outcome x m' ≡ outcome (no_image (header_number header)) m
  as-refused some = read ∙ header_read-refused header m some

  as-accepted : header_number header ≡ 0 → outcome x m' ≡ writes (image_of header) plain_table_record m
  as-accepted ok = read ∙ header-granted header m ok (omega (arith, room))

  number_is : x.number ≡ header_number header
  number_is =
      by-test (eqb (header_number header) 0)
      (λ t.
      let ok = eqb-true (header_number header) 0 t in
      ap (λ (o : Outcome ImageHeader). o.answer.number) (as-accepted ok) ∙ sym ok)
      (λ t. ap (λ (o : Outcome ImageHeader). o.answer.number) (as-refused (eqb-false (header_number header) 0 t)))

  pub answered-refused : (x.number ≡ 0 → ⊥) → Ended header [] x.number 0 0
  answered-refused some = rw number_is (ended-header header (λ e. some (number_is ∙ e)))

  module _ (held : HeaderHeld header) (none : x.number ≡ 0) where
    ok : header_number header ≡ 0
    ok = sym number_is ∙ none

    says : x ≡ image_of header
    says = ap (λ (o : Outcome ImageHeader). o.answer) (as-accepted ok)

    memory : m' ≡ plain_table_record ++ drop (length plain_table_record) m
    memory = ap (λ (o : Outcome ImageHeader). o.memory) (as-accepted ok)

    pub answered-stands : ImageStands header x
    answered-stands = record { held = held; accepted = ok; says = says }

    pub answered-first : FirstRecord header (take x.count m')
    answered-first =
        rw (says, memory, take-append_seam plain_table_record (drop (length plain_table_record) m)) (first-record header held ok)

    pub answered-within : x.count ≤ length m'
    answered-within = rw (says, memory, length-append plain_table_record (drop (length plain_table_record) m)) (omega arith)

-- ---- a row's
module _ (w r : ℕ) (held m : List ℕ) {a : Answer} {m' : List ℕ} (room : 7178 ≤ length m)
    (read : outcome a m' ≡ image_row w r held m) where
  row_number : a.number ≡ image_row_number w r held (length m)
  row_number = ap (λ (o : Outcome Answer). o.answer.number) read ∙ image_row-number w r held m

  row_number-room : a.number ≡ image_row_number w r held 7178
  row_number-room = row_number ∙ image_row_number-room w r held (length m) room

  row_within : a.count ≤ length m'
  unfolding image_row
  row_within =
      let b = row_record w r held in
      let within = unless-in (λ (o : Outcome Answer). o.answer.count ≤ length o.memory) (image_row_number w r held (length m))
      (λ e. refused e m) (wrote (length b) b m) (λ k e. omega arith) (λ e. omega (arith, length-append b (drop (length b) m))) in
      rw (← read) at within

  pub row-written : a.number ≡ 0 → RowWritten w r held a.count m'
  row-written none = record {
    number = sym row_number-room ∙ none;
    bytes =
        ap (λ (o : Outcome Answer). take o.answer.count o.memory) read
        ∙ image_row-counted w r held m (sym row_number ∙ none);
    within = row_within;
  }

  pub row-refused : (a.number ≡ 0 → ⊥) → RowRefused w r held a.number
  row-refused some = record { is = row_number-room; some = some }

-- ---- a header that is accepted, and its rows
module _ {header : List ℕ} {x : ImageHeader} (stands : ImageStands header x) where
  width_is : x.width ≡ (image_of header).width
  width_is = ap (λ (i : ImageHeader). i.width) stands.says

  rows_is : x.rows ≡ (image_of header).rows
  rows_is = ap (λ (i : ImageHeader). i.rows) stands.says

  start_is : x.start ≡ (image_of header).start
  start_is = ap (λ (i : ImageHeader). i.start) stands.says

  pub stands-narrow : x.width ≤ 4096
  stands-narrow = rw width_is (image_width-most header stands.held stands.accepted)

  pub stands-cut : length header < x.start → 0 ≡ row_span header
  stands-cut h = sym (row_span-cut header stands.held stands.accepted (rw start_is at h))

  pub stands-whole : x.start ≤ length header → 2 * x.width ≡ row_span header
  stands-whole h = rw width_is (sym (row_span-whole header stands.held stands.accepted (rw start_is at h)))

  pub before-none : RowsBefore header 0
  before-none = record { image = []; taken = rows_taken-none header stands.held stands.accepted }

  module _ {r : ℕ} (before : RowsBefore header r) where
    pub all-ended : x.rows ≤ r → Ended header [] 0 0 r
    all-ended h =
        let last : r ≡ (image_of header).rows = omega (arith, h, rows_is, before.taken.within) in
        ended-rows header stands.held stands.accepted before.image r before.taken [] (omega arith) 0
        (λ less. absurd (omega (arith, less, last))) (λ less. absurd (omega (arith, less, last))) (λ e. refl)

    module _ (less : r < x.rows) where
      less-here : r < (image_of header).rows
      less-here = rw rows_is at less

      module _ {held : List ℕ} (few : length held ≤ row_span header) where
        pub row-ended : {number : ℕ} → RowRefused x.width r held number → Ended header held 0 number r
        row-ended {number} refused =
            ended-rows header stands.held stands.accepted before.image r before.taken held few number
            (λ h. rw width_is at refused.is) (λ h. refused.some) (λ e. absurd (omega (arith, e, less-here)))

        module _ {count : ℕ} {out : List ℕ} (written : RowWritten x.width r held count out) where
          right : image_row_number (image_of header).width r held 7178 ≡ 0
          right = rw width_is at written.number

          pub before_more : RowsBefore header (r + 1)
          before_more = record {
            image = before.image ++ held;
            taken = rows_taken-more header stands.held stands.accepted before.image r before.taken held few less-here right;
          }

          pub row_next : NextRecord header held r (take count out)
          row_next =
              rw (written.bytes, width_is)
              (next-record header stands.held stands.accepted before.image r before.taken held few less-here right)
