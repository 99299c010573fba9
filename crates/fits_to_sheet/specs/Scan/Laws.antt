-- The laws of a scan's turns: what converting comes to with the bytes that were taken, record by record. Assumes nothing.
use Rattle.std.specs.Prelude.{ℕ, ◌+◌, ◌*◌, ◌≤◌, ◌<◌, ◌≡◌, refl, true, length, take, drop, ltb}
use Rattle.std.proofs.Common.{zero-add, zero-mul, mul-zero, not-suc-le-zero, add-one, arith, sym, ap, ◌∙◌, length-append, length-take, drop_of_length-le, drop_at, ltb-true, ltb-false, lt-ltb, le-ltb}
use mathlib.Core.List.{List, [], ◌∷◌, ◌++◌, append_assoc, append-nil}
use Rattle.std.proofs.Math.ListN.{length-drop}
use Rattle.std.proofs.Math.Seq.{take-append_seam}
use Rattle.std.proofs.lemmas.List.{drop-append-le}
use Rattle.answer.specs.Outcome.{outcome, writes}
use Rattle.answer.specs.Outcome.Laws.{less_number-none, unless-first, unless-refused}
use Rattle.row_format.specs.Lists.Laws.{by-test}
use Rattle.fits_format.specs.Header.{header_cards, stands, header_number, image_start, header_span, plain_table_record, no_image, image_of, header_read, HeaderAccepted}
use Rattle.fits_format.specs.Header.Laws.{length-plain_table_record}
use Rattle.fits_format.specs.Image.{row_record, image_row_number}
use Rattle.fits_format.specs.Image.Call.{RowStands}
use Rattle.fits_format.specs.Conversion.{RowsWritten, Conversion, header_refused, after_header, conversion}
use Rattle.fits_format.specs.Conversion.{row_calls, row_at, row_number_at, row_record_at, in_order}
use Rattle.fits_format.specs.Theorems.Header.{header_read-accepted}
use Rattle.fits_format.specs.Theorems.Span.{prefix-end}
use Rattle.fits_reader.specs.Verdict.{verdict_text}
use Rattle.fits_to_sheet.specs.Scan.{HeaderHeld, image_width, image_rows, row_span, Enough, FirstRecord, RowsTaken, NextRecord, Ended, EndVerdict}
use Rattle.fits_format.specs.Image.Room.{image_row_number-room}
use Rattle.fits_to_sheet.specs.Scan.Rows.{row_record-front, image_row_number-front, image_row_number-stands, in_order-same, in_order-last, row_calls-rows, row_calls-records, row_calls-number, row_calls-none}

-- ---- the header's call
module _ (s m : List ℕ) where
  pub header_read-refused : (header_number s ≡ 0 → ⊥) → header_read s m ≡ outcome (no_image (header_number s)) m
  unfolding header_read
  header_read-refused some = unless-first (header_number s) _ (λ e. outcome (no_image e) m) _ some

  pub header-granted : header_number s ≡ 0 → 2078 ≤ length m → header_read s m ≡ writes (image_of s) plain_table_record m
  unfolding header_read
  header-granted ok enough =
      rw (ok, less_number-none (length m) (length plain_table_record) 5 (omega (arith, length-plain_table_record, enough)))

-- what follows it, where it was read so
conversion-read : (m : List ℕ) (lends : ℕ → List ℕ) (s header : List ℕ)
    → header_read s m ≡ writes (image_of header) plain_table_record m
    → conversion m lends s
    ≡ after_header plain_table_record (row_calls lends (image_width header) (image_rows header) 0 (drop (image_start header) s))
unfolding conversion
conversion-read m lends s header read = rw (read, take-append_seam plain_table_record (drop (length plain_table_record) m))

-- ---- a header that is refused
module _ (header : List ℕ) (some : header_number header ≡ 0 → ⊥) where
  conversion-refused : (m : List ℕ) (lends : ℕ → List ℕ) → conversion m lends header ≡ header_refused (header_number header)
  unfolding conversion
  conversion-refused m lends =
      rw (header_read-refused header m some) (unless-refused (header_number header) header_refused _ some)

  pub ended-header : Ended header [] (header_number header) 0 0
  ended-header = record {
    image = [];
    size = sym (mul-zero (row_span header));
    ends = λ m lends enough. rw (append-nil header, conversion-refused m lends);
  }

-- ---- a header that is accepted
-- what converting comes to, by the number of the row that is refused, the rows before it and the bytes
abbrev ended_with : ℕ → ℕ → List ℕ → Conversion
ended_with e r b = record { header = 0; fault = e; rows = r; bytes = b }

module _ (header : List ℕ) (held : HeaderHeld header) (ok : header_number header ≡ 0) where
  abbrev w : ℕ
  w = image_width header

  abbrev n : ℕ
  n = image_rows header

  number : (header_read header plain_table_record).answer.number ≡ 0
  number = rw (header-granted header plain_table_record ok (omega (arith, length-plain_table_record)))

  found : HeaderAccepted header (image_of header)
  found =
      rw (header-granted header plain_table_record ok (omega (arith, length-plain_table_record)))
      at (header_read-accepted header plain_table_record number)

  pub image_width-most : w ≤ 4096
  image_width-most = found.width-most

  header_span-is : header_span header ≡ image_start header
  unfolding header_span
  header_span-is = rw found.end-stands

  most : length header ≤ image_start header
  most = omega (arith, ap length held, length-take (header_span header) header, header_span-is)

  -- the block that has END is cut short, or it is whole
  pub row_span-cut : length header < image_start header → row_span header ≡ 0
  unfolding row_span
  row_span-cut h = rw (lt-ltb (length header) (image_start header) h)

  pub row_span-whole : image_start header ≤ length header → row_span header ≡ 2 * w
  unfolding row_span
  row_span-whole h = rw (le-ltb (length header) (image_start header) h)

  pub row_span-most : row_span header ≤ 2 * w
  row_span-most =
      by-test (ltb (length header) (image_start header))
      (λ t. omega (arith, row_span-cut (ltb-true (length header) (image_start header) t)))
      (λ t. omega (arith, row_span-whole (ltb-false (length header) (image_start header) t)))

  module _ (m : List ℕ) (lends : ℕ → List ℕ) (enough : Enough m lends) where
    abbrev image-calls : List ℕ → RowsWritten
    image-calls x = row_calls lends w n 0 x

    -- what follows a header that is whole is the image; nothing follows one that is cut short
    converted : (x : List ℕ) → (row_span header ≡ 0 → length x ≡ 0)
        → conversion m lends (header ++ x) ≡ after_header plain_table_record (image-calls x)
    converted x none =
        by-test (ltb (length header) (image_start header))
        (λ t.
        let short = ltb-true (length header) (image_start header) t in
        let size = none (row_span-cut short) in
        cut x size (omega (arith, short)))
        (λ t.
        let long = ltb-false (length header) (image_start header) t in
        whole x (omega (arith, long, most)))
      where
        cut : (x : List ℕ) → length x ≡ 0 → length header ≤ image_start header
            → conversion m lends (header ++ x) ≡ after_header plain_table_record (image-calls x)
        cut [] e h =
            rw (append-nil header)
            (conversion-read m lends header header (header-granted header m ok enough.table)
            ∙ rw (drop_of_length-le header h))
        cut (y ∷ x) e h = absurd (omega arith)

        whole : (x : List ℕ) → length header ≡ image_start header
            → conversion m lends (header ++ x) ≡ after_header plain_table_record (image-calls x)
        whole x e =
            let front = take-append_seam header x in
            let end : stands "END     " (header_cards (take (length header) (header ++ x))) ≡ true =
            rw front found.end-stands in
            let same = prefix-end (length header) (header ++ x) m end in
            let read : header_read (header ++ x) m ≡ writes (image_of header) plain_table_record m =
            sym same ∙ rw front (header-granted header m ok enough.table) in
            conversion-read m lends (header ++ x) header read ∙ rw (drop_at header x (image_start header) e)

    -- where no row of x before row r is refused, and row r is or there is none
    module _ (x : List ℕ) (none : row_span header ≡ 0 → length x ≡ 0) (r : ℕ) (within : r ≤ n)
        (right : (i : ℕ) → i < r → image_row_number w i (row_at w x i) 7178 ≡ 0)
        (stops : r < n → image_row_number w r (row_at w x r) 7178 ≡ 0 → ⊥) where
      room : (i : ℕ) → row_number_at lends w x i ≡ image_row_number w i (row_at w x i) 7178
      room i = image_row_number-room w i (row_at w x i) (length (lends i)) (enough.rows i)

      right-here : (i : ℕ) → i < r → row_number_at lends w x i ≡ 0
      right-here i h = room i ∙ right i h

      stops-here : r < n → row_number_at lends w x r ≡ 0 → ⊥
      stops-here h e = stops h (sym (room r) ∙ e)

      converted-bytes : (conversion m lends (header ++ x)).bytes ≡ plain_table_record ++ in_order (row_record_at w x) 0 r
      converted-bytes =
          rw (converted x none) (ap (plain_table_record ++◌) (row_calls-records lends w n x r within right-here stops-here))

      converted-ends : (e : ℕ) → (r < n → e ≡ image_row_number w r (row_at w x r) 7178) → (r ≡ n → e ≡ 0)
          → conversion m lends (header ++ x) ≡ ended_with e r (conversion m lends (header ++ x)).bytes
      converted-ends e faulty whole =
          let number : (image-calls x).number ≡ e =
          by-test (ltb r n)
          (λ t.
          let h = ltb-true r n t in
          row_calls-number lends w n x r within right-here stops-here h ∙ room r ∙ sym (faulty h))
          (λ t.
          let h : r ≡ n = omega (arith, ltb-false r n t, within) in
          row_calls-none lends w n x r within right-here stops-here h ∙ sym (whole h)) in
          rw (converted x none, number, row_calls-rows lends w n x r within right-here stops-here)

  -- a row that is not there is refused
  absent-row : (r : ℕ) (s : List ℕ) → length s ≡ 0 → image_row_number w r s 7178 ≡ 0 → ⊥
  absent-row r s none e =
      absurd (omega (arith, (image_row_number-stands w r s 7178 e).there, found.width-least, none))

  -- ---- before the first row
  pub first-record : FirstRecord header plain_table_record
  unfolding in_order
  first-record = record {
    held = held;
    bytes = λ m lends enough.
        let stops : 0 < n → image_row_number w 0 (row_at w [] 0) 7178 ≡ 0 → ⊥ =
        λ h. absent-row 0 (row_at w [] 0) (omega (arith, length-drop {A = ℕ} (2 * w * 0) [])) in
        let bytes = converted-bytes m lends enough [] (λ e. refl) 0 (omega arith) (λ i h. absurd (not-suc-le-zero h)) stops in
        rw (append-nil header, append-nil plain_table_record) at bytes;
  }

  pub rows_taken-none : RowsTaken header [] 0
  rows_taken-none = record {
    within = omega arith;
    size = sym (mul-zero (row_span header));
    right = λ i h. absurd (not-suc-le-zero h);
  }

  -- ---- r rows were taken
  module _ (image : List ℕ) (r : ℕ) (taken : RowsTaken header image r) where
    image-none : row_span header ≡ 0 → length image ≡ 0
    image-none e = taken.size ∙ rw e (zero-mul r)

    row-there : (i : ℕ) → i < r → RowStands w i (length (row_at w image i))
    row-there i h = image_row_number-stands w i (row_at w image i) 7178 (taken.right i h)

    image-size : length image ≡ 2 * w * r
    image-size =
        by-test (ltb (length header) (image_start header))
        (λ t.
        let none = image-none (row_span-cut (ltb-true (length header) (image_start header) t)) in
        by-test (ltb 0 r)
        (λ u.
        let there = (row-there 0 (ltb-true 0 r u)).there in
        absurd (omega (arith, there, none, length-drop (2 * w * 0) image, found.width-least)))
        (λ u.
        let zero-rows : r ≡ 0 = omega (arith, ltb-false 0 r u) in
        rw zero-rows (omega (arith, none))))
        (λ t. taken.size ∙ rw (row_span-whole (ltb-false (length header) (image_start header) t)))

    module _ (here : List ℕ) where
      -- those rows, and what is held of the next
      old_row : (i : ℕ) → i < r → row_at w (image ++ here) i ≡ row_at w image i ++ here
      old_row i h =
          let there = (row-there i h).there in
          drop-append-le (2 * w * i) image here (omega (arith, there, length-drop (2 * w * i) image, found.width-least))

      old-right : (i : ℕ) → i < r → image_row_number w i (row_at w (image ++ here) i) 7178 ≡ 0
      old-right i h =
          rw (old_row i h) (image_row_number-front w i (row_at w image i) here (row-there i h).there 7178 ∙ taken.right i h)

      old-record : (i : ℕ) → i < r → row_record w i (row_at w (image ++ here) i) ≡ row_record w i (row_at w image i)
      old-record i h = rw (old_row i h) (row_record-front w i (row_at w image i) here (row-there i h).there)

      new_row : row_at w (image ++ here) r ≡ here
      new_row = drop_at image here (2 * w * r) image-size

      next_row : (i : ℕ) → i ≡ r + 1 → length here ≤ 2 * w → length (row_at w (image ++ here) i) ≡ 0
      next_row i e few =
          rw e (omega (arith, length-drop (2 * w * (r + 1)) (image ++ here), length-append image here, image-size, few))

      both-none : length here ≤ row_span header → row_span header ≡ 0 → length (image ++ here) ≡ 0
      both-none few e = omega (arith, length-append image here, image-none e, few, e)

    -- without the next
    abbrev records : ℕ → List ℕ
    records i = row_record w i (row_at w image i)

    bytes-before : (m : List ℕ) (lends : ℕ → List ℕ) → Enough m lends
        → (conversion m lends (header ++ image)).bytes ≡ plain_table_record ++ in_order records 0 r
    bytes-before m lends enough =
        let stops : r < n → image_row_number w r (row_at w image r) 7178 ≡ 0 → ⊥ =
        λ h. absent-row r (row_at w image r) (omega (arith, length-drop (2 * w * r) image, image-size)) in
        converted-bytes m lends enough image image-none r taken.within taken.right stops

    module _ (here : List ℕ) (few : length here ≤ row_span header) where
      records-same : (k : ℕ) → k ≤ r → in_order (λ i. row_record w i (row_at w (image ++ here) i)) 0 k ≡ in_order records 0 k
      records-same k h =
          in_order-same (λ i. row_record w i (row_at w (image ++ here) i)) records k 0
          (λ i least most. old-record here i (omega (arith, most, h)))

      -- the next is refused, or there is none to come: nothing more is written
      module _ (e : ℕ) (faulty : r < n → e ≡ image_row_number w r here 7178) (some : r < n → e ≡ 0 → ⊥)
          (whole : r ≡ n → e ≡ 0) where
        pub ended-rows : Ended header here 0 e r
        ended-rows = record {
          image = image;
          size = taken.size;
          ends = λ m lends enough.
              let number : r < n → e ≡ image_row_number w r (row_at w (image ++ here) r) 7178 =
              λ h. rw (new_row here) (faulty h) in
              let stops : r < n → image_row_number w r (row_at w (image ++ here) r) 7178 ≡ 0 → ⊥ =
              λ h z. some h (number h ∙ z) in
              let none = both-none here few in
              let bytes = converted-bytes m lends enough (image ++ here) none r taken.within (old-right here) stops in
              let same : (conversion m lends (header ++ (image ++ here))).bytes ≡ (conversion m lends (header ++ image)).bytes =
              bytes ∙ ap (plain_table_record ++◌) (records-same r (omega arith)) ∙ sym (bytes-before m lends enough) in
              converted-ends m lends enough (image ++ here) none r taken.within (old-right here) stops e number whole
              ∙ ap (ended_with e r) same;
        }

      -- the next is right
      module _ (next : r < n) (right : image_row_number w r here 7178 ≡ 0) where
        here-size : (length here ≡ 2 * w) × (row_span header ≡ 2 * w)
        here-size =
            let there = (image_row_number-stands w r here 7178 right).there in
            (omega (arith, there, few, row_span-most), omega (arith, there, few, row_span-most))

        all_right : (i : ℕ) → i < r + 1 → image_row_number w i (row_at w (image ++ here) i) 7178 ≡ 0
        all_right i h =
            by-test (ltb i r)
            (λ t. old-right here i (ltb-true i r t))
            (λ t.
            let last : i ≡ r = omega (arith, ltb-false i r t, h) in
            rw (last, new_row here) right)

        pub rows_taken-more : RowsTaken header (image ++ here) (r + 1)
        rows_taken-more = record {
          within = omega (arith, next);
          size =
              rw here-size.1 (omega (arith, length-append image here, image-size, here-size.0));
          right = all_right;
        }

        pub next-record : NextRecord header here r (row_record w r here)
        next-record = record {
          image = image;
          taken = taken;
          most = few;
          bytes = λ m lends enough.
              let stops : r + 1 < n → image_row_number w (r + 1) (row_at w (image ++ here) (r + 1)) 7178 ≡ 0 → ⊥ =
              λ h.
              let none_left = next_row here (r + 1) refl (omega (arith, here-size.0)) in
              absent-row (r + 1) (row_at w (image ++ here) (r + 1)) none_left in
              let none = both-none here few in
              let most : r + 1 ≤ n = omega (arith, next) in
              let bytes = converted-bytes m lends enough (image ++ here) none (r + 1) most all_right stops in
              let f : ℕ → List ℕ = λ i. row_record w i (row_at w (image ++ here) i) in
              let last : in_order f 0 (r + 1) ≡ in_order records 0 r ++ row_record w r here =
              ap (in_order f 0) (add-one r)
              ∙ in_order-last f r 0
              ∙ rw (zero-add r, records-same r (omega arith), new_row here) in
              bytes
              ∙ ap (plain_table_record ++◌) last
              ∙ sym (append_assoc plain_table_record (in_order records 0 r) (row_record w r here))
              ∙ ap (◌++ row_record w r here) (sym (bytes-before m lends enough));
        }

-- ---- the verdict
pub verdict-ended : {header held l : List ℕ} {number fault rows : ℕ} → Ended header held number fault rows
    → l ≡ verdict_text number fault rows → EndVerdict header held l
verdict-ended {header} {held} {l} {number} {fault} {rows} ended is = record {
  number = number;
  fault = fault;
  rows = rows;
  ended = ended;
  line = λ m lends enough. rw (ended.ends m lends enough) is;
}
