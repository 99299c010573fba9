-- The laws of a picture's turns: what converting comes to with the bytes that were taken, record by record. Assumes nothing.
use Rattle.std.specs.Prelude.{ℕ, ◌+◌, ◌*◌, ◌≤◌, ◌<◌, ◌≡◌, refl, take, ltb}
use Rattle.std.proofs.Math.Nat.{zero-add}
use Rattle.std.proofs.Common.{mul-zero, not-suc-le-zero, add-one, arith, ◌∙◌, length-append, take_at, length-take-le, ltb-true, ltb-false}
use Rattle.std.proofs.Math.Path.{sym, ap}
use mathlib.Core.List.{List, [], ◌∷◌, ◌++◌, append_assoc, append-nil}
use Rattle.std.proofs.Math.ListN.{length, length-drop}
use Rattle.std.proofs.Math.Seq.{drop_at}
use Rattle.std.proofs.lemmas.List.{drop-append-le}
use Rattle.answer.specs.Outcome.{◌or_else◌}
use Rattle.answer.specs.Outcome.Laws.{unless-refused}
use Rattle.row_format.specs.Lists.Laws.{by-test}
use Rattle.row_format.specs.Table.{table_number}
use Rattle.fits_format.specs.Heights.{table_bytes, heights_records}
use Rattle.fits_format.specs.Image.{big_endian}
use Rattle.fits_format.specs.Conversion.{header_refused, after_header, row_at}
use Rattle.text.specs.Same.{same_bytes}
use Rattle.pgm_format.specs.Header.{PgmRead, front_number, front_read, pgm_header, PgmAccepted}
use Rattle.pgm_format.specs.Header.Accepted.{pgm-accepted, pgm-refused}
use Rattle.pgm_format.specs.Header.Alike.{pgm-alike}
use Rattle.pgm_format.specs.Samples.{lines_in}
use Rattle.pgm_format.specs.Samples.Laws.{length-lines_in, lines_in-front, lines_in-last}
use Rattle.pgm_format.specs.Conversion.{line_refusal, line_record, line_records, pgm_conversion}
use Rattle.pgm_format.proofs.Conversion.Rows.{UpToLine, line-there, lines-up-to, rows_are, bytes-are, number_is, number-none}
use Rattle.pgm_format.proofs.Conversion.Rows.{line_refusal-front, heights_records-append}
use Rattle.fits_reader.specs.Verdict.{verdict_text}
use Rattle.pgm_to_sheet.specs.Picture.{Agrees, header_bytes, LineHeld, TableWritten, LinesTaken, LineAdded, PictureEnded, PictureVerdict}
use Rattle.pgm_to_sheet.specs.Picture.Front.{agrees-front, agrees-more}

-- ---- a header that is refused says nothing more
module _ (front : List ℕ) (bad : (pgm_header front).number ≡ 0 → ⊥) where
  pub header-whole : header_bytes front ≡ front
  unfolding header_bytes
  header-whole = unless-refused (pgm_header front).number (λ e. front) (take (pgm_header front).start front) bad

  pub no_rows : (pgm_header front).rows ≡ 0
  no_rows = ap (λ (h : PgmRead). h.rows) (pgm-refused front bad)

  pub ended-refused : (tb : List ℕ) {number : ℕ} → number ≡ table_number tb or_else (pgm_header front).number → (number ≡ 0 → ⊥)
      → PictureEnded tb front [] number 0 0
  unfolding pgm_conversion
  ended-refused tb {number} is some =
      let same : header_bytes front ++ [] ≡ front = append-nil (header_bytes front) ∙ header-whole in
      record {
        image = [];
        taken = record {
          within = omega arith;
          size = sym (mul-zero (2 * (pgm_header front).width));
          agrees = rw same;
          right = λ i h. absurd (not-suc-le-zero h);
        };
        next = λ less. absurd (omega (arith, less, no_rows));
        last = λ e. refl;
        ends = rw (same, ← is, unless-refused number header_refused _ some);
      }

-- as no bytes are
pub no_header : (pgm_header []).number ≡ 0 → ⊥
unfolding same_bytes front_number front_read pgm_header
no_header e = absurd (omega (arith, e))

-- ---- a header that is accepted is so by its own bytes
module _ (front : List ℕ) (ok : (pgm_header front).number ≡ 0) where
  header-own : header_bytes front ≡ take (pgm_header front).start front
  unfolding header_bytes
  header-own = rw ok

  header-size : length (header_bytes front) ≡ (pgm_header front).start
  header-size = rw header-own (length-take-le (pgm_header front).start front (pgm-accepted front ok).start-within)

  pub header-same : (x : List ℕ) → pgm_header (header_bytes front ++ x) ≡ pgm_header front
  header-same x =
      pgm-alike front (header_bytes front ++ x) ok
      (take_at (header_bytes front) x (pgm_header front).start header-size ∙ header-own)

-- ---- a header that is accepted, under a table that is
module _ (tb front : List ℕ) (table : table_number tb ≡ 0) (ok : (pgm_header front).number ≡ 0) where
  abbrev w : ℕ
  w = (pgm_header front).width

  abbrev n : ℕ
  n = (pgm_header front).rows

  accepted : PgmAccepted front (pgm_header front)
  accepted = pgm-accepted front ok

  -- what follows the header's bytes is the picture
  pub converted : (x : List ℕ) → pgm_conversion tb (header_bytes front ++ x) ≡ after_header (table_bytes tb) (line_records tb w n 0 x)
  unfolding pgm_conversion
  converted x = rw (header-same front ok x, table, ok, drop_at (header_bytes front) x (pgm_header front).start (header-size front ok))

  pub up_to : (x : List ℕ) → UpToLine tb w 0 n x (line_records tb w n 0 x)
  up_to x = lines-up-to tb w accepted.width-most n 0 x

  -- a row that is not there is refused
  absent-row : (s : List ℕ) → length s ≡ 0 → line_refusal w s ≡ 0 → ⊥
  absent-row s none e = omega (arith, line-there w s e, accepted.width-least, none)

  -- ---- where r rows are right, and r is refused or the last
  module _ (x : List ℕ) (r : ℕ) (within : r ≤ n) (right : (i : ℕ) → i < r → line_refusal w (row_at w x i) ≡ 0)
      (stops : r < n → line_refusal w (row_at w x r) ≡ 0 → ⊥) where
    converted-bytes : (pgm_conversion tb (header_bytes front ++ x)).bytes ≡ table_bytes tb ++ heights_records tb 0 (lines_in w r x)
    converted-bytes = rw (converted x) (ap (table_bytes tb ++◌) (bytes-are (up_to x) r within right stops))

    converted-rows : (pgm_conversion tb (header_bytes front ++ x)).rows ≡ r
    converted-rows = rw (converted x) (rows_are (up_to x) r within right stops)

    converted-ends : (e : ℕ) → (r < n → e ≡ line_refusal w (row_at w x r)) → (r ≡ n → e ≡ 0)
        → pgm_conversion tb (header_bytes front ++ x)
        ≡ record { header = 0; fault = e; rows = r; bytes = (pgm_conversion tb (header_bytes front ++ x)).bytes }
    converted-ends e faulty whole =
        let number : (line_records tb w n 0 x).number ≡ e =
        by-test (ltb r n)
        (λ t.
        let h = ltb-true r n t in
        number_is (up_to x) r within right stops h ∙ sym (faulty h))
        (λ t.
        let h : r ≡ n = omega (arith, ltb-false r n t, within) in
        number-none (up_to x) r within right stops h ∙ sym (whole h)) in
        rw (converted x, number, rows_are (up_to x) r within right stops)

  -- ---- before the first row
  pub first-record : TableWritten tb front (table_bytes tb)
  unfolding lines_in heights_records
  first-record = record {
    bytes =
        let stops : 0 < n → line_refusal w (row_at w [] 0) ≡ 0 → ⊥ =
        λ h. absent-row (row_at w [] 0) (omega (arith, length-drop {A = ℕ} (2 * w * 0) [])) in
        let bytes = converted-bytes [] 0 (omega arith) (λ i h. absurd (not-suc-le-zero h)) stops in
        rw (append-nil (header_bytes front), append-nil (table_bytes tb)) at bytes;
  }

  pub rows_taken-none : LinesTaken front [] 0
  rows_taken-none = record {
    within = omega arith;
    size = sym (mul-zero (2 * w));
    agrees = rw (append-nil (header_bytes front), header-own front ok)
        (agrees-front (pgm_header front).start front accepted.start-within);
    right = λ i h. absurd (not-suc-le-zero h);
  }

  -- ---- r rows were taken
  module _ (image : List ℕ) (r : ℕ) (taken : LinesTaken front image r) where
    abbrev before : List ℕ
    before = header_bytes front ++ image

    before-size : length before ≡ (pgm_header front).start + 2 * w * r
    before-size = omega (arith, length-append (header_bytes front) image, header-size front ok, taken.size)

    absent-next : r < n → line_refusal w (row_at w image r) ≡ 0 → ⊥
    absent-next h = absent-row (row_at w image r) (omega (arith, length-drop (2 * w * r) image, taken.size))

    bytes-before : (pgm_conversion tb before).bytes ≡ table_bytes tb ++ heights_records tb 0 (lines_in w r image)
    bytes-before = converted-bytes image r taken.within taken.right absent-next

    rows_before : (pgm_conversion tb before).rows ≡ r
    rows_before = converted-rows image r taken.within taken.right absent-next

    -- and then these bytes are held
    module _ (here : List ℕ) where
      row-there : (i : ℕ) → i < r → 2 * w ≤ length (row_at w image i)
      row-there i h = line-there w (row_at w image i) (taken.right i h)

      old_row : (i : ℕ) → i < r → row_at w (image ++ here) i ≡ row_at w image i ++ here
      old_row i h =
          drop-append-le (2 * w * i) image here (omega (arith, row-there i h, length-drop (2 * w * i) image, accepted.width-least))

      old-right : (i : ℕ) → i < r → line_refusal w (row_at w (image ++ here) i) ≡ 0
      old-right i h = rw (old_row i h) (line_refusal-front w (row_at w image i) here (row-there i h) ∙ taken.right i h)

      new_row : row_at w (image ++ here) r ≡ here
      new_row = drop_at image here (2 * w * r) taken.size

      old-lines : lines_in w r (image ++ here) ≡ lines_in w r image
      old-lines = lines_in-front w r image here (omega (arith, taken.size))

      -- the next is refused, or there is none to come: nothing more is written
      module _ (e : ℕ) (faulty : r < n → e ≡ line_refusal w here) (some : r < n → e ≡ 0 → ⊥) (whole : r ≡ n → e ≡ 0) where
        stops : r < n → line_refusal w (row_at w (image ++ here) r) ≡ 0 → ⊥
        stops h z = some h (faulty h ∙ (rw new_row at z))

        pub ended-rows : (r < n → LineHeld front here r) → (r ≡ n → here ≡ []) → PictureEnded tb front here 0 e r
        ended-rows next last = record {
          image = image;
          taken = taken;
          next = next;
          last = last;
          ends =
              let number : r < n → e ≡ line_refusal w (row_at w (image ++ here) r) = λ h. rw new_row (faulty h) in
              let bytes = converted-bytes (image ++ here) r taken.within old-right stops in
              let same : (pgm_conversion tb (header_bytes front ++ (image ++ here))).bytes ≡ (pgm_conversion tb before).bytes =
              bytes ∙ rw old-lines (sym bytes-before) in
              converted-ends (image ++ here) r taken.within old-right stops e number whole
              ∙ ap (λ (b : List ℕ). record { header = 0; fault = e; rows = r; bytes = b }) same;
        }

      -- the next is right
      module _ (next : r < n) (row : LineHeld front here r) (right : line_refusal w here ≡ 0) where
        here-size : length here ≡ 2 * w
        here-size = omega (arith, line-there w here right, row.most)

        all-agrees : Agrees front (header_bytes front ++ (image ++ here))
        all-agrees =
            rw (append_assoc (header_bytes front) image here)
            at (agrees-more front before here taken.agrees (rw before-size row.agrees))

        all_right : (i : ℕ) → i < r + 1 → line_refusal w (row_at w (image ++ here) i) ≡ 0
        all_right i h =
            by-test (ltb i r)
            (λ t. old-right i (ltb-true i r t))
            (λ t.
            let last : i ≡ r = omega (arith, ltb-false i r t, h) in
            rw (last, new_row) right)

        all-size : length (image ++ here) ≡ 2 * w * (r + 1)
        all-size = omega (arith, length-append image here, taken.size, here-size)

        pub rows_taken-more : LinesTaken front (image ++ here) (r + 1)
        rows_taken-more = record {
          within = omega (arith, next);
          size = all-size;
          agrees = all-agrees;
          right = all_right;
        }

        records-next : heights_records tb 0 (lines_in w (r + 1) (image ++ here))
            ≡ heights_records tb 0 (lines_in w r image) ++ line_record tb w r here
        unfolding heights_records
        records-next =
            let lines : lines_in w (r + 1) (image ++ here) ≡ lines_in w r image ++ (big_endian w here ∷ []) =
            ap (λ (k : ℕ). lines_in w k (image ++ here)) (add-one r) ∙ lines_in-last w r (image ++ here) ∙ rw (old-lines, new_row) in
            let number : 0 + length (lines_in w r image) ≡ r = zero-add (length (lines_in w r image)) ∙ length-lines_in w r image in
            ap (heights_records tb 0) lines
            ∙ heights_records-append tb 0 (lines_in w r image) (big_endian w here ∷ [])
            ∙ rw (number, append-nil (line_record tb w r here))

        pub next-record : LineAdded tb front here r (line_record tb w r here)
        next-record = record {
          image = image;
          taken = taken;
          row = row;
          rows = rows_before;
          bytes =
              let stops : r + 1 < n → line_refusal w (row_at w (image ++ here) (r + 1)) ≡ 0 → ⊥ =
              λ h.
              absent-row (row_at w (image ++ here) (r + 1)) (omega (arith, length-drop (2 * w * (r + 1)) (image ++ here), all-size)) in
              let bytes = converted-bytes (image ++ here) (r + 1) (omega (arith, next)) all_right stops in
              bytes
              ∙ ap (table_bytes tb ++◌) records-next
              ∙ sym (append_assoc (table_bytes tb) (heights_records tb 0 (lines_in w r image)) (line_record tb w r here))
              ∙ ap (◌++ line_record tb w r here) (sym bytes-before);
        }

-- ---- the verdict
pub verdict-ended : {tb front held l : List ℕ} {number fault rows : ℕ} → PictureEnded tb front held number fault rows
    → l ≡ verdict_text number fault rows → PictureVerdict tb front held l
verdict-ended {tb} {front} {held} {l} {number} {fault} {rows} ended is = record {
  number = number;
  fault = fault;
  rows = rows;
  ended = ended;
  line = rw ended.ends is;
}
