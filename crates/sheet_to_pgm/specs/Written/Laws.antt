-- The laws of what is written. Assumes nothing.
use Rattle.std.specs.Prelude.{ℕ, zero, suc, ◌+◌, ◌-◌, ◌/◌, ◌%◌, ◌≤◌, ◌≡◌, refl, false, length, take, replicate, Option, Some, None}
use Rattle.std.proofs.Common.{add-one, arith, sym, ap, ◌∙◌, eq-eqb, ne_eqb}
use mathlib.Core.List.{List, [], ◌∷◌, ◌++◌, Memᴰ}
use Rattle.std.proofs.Math.Seq.{take-append-add}
use Rattle.bitstream.specs.Bits.{cut, halves_of}
use Rattle.row_format.specs.Lists.Laws.{by-test}
use Rattle.row_pixels.specs.Laws.{length-halves}
use Rattle.text.specs.Text.{ascii, field, fields}
use Rattle.sheet_format.specs.Kind.{is_row}
use Rattle.sheet_format.specs.Kinds.{kind_of}
use Rattle.sheet_format.specs.Sheet.{StoredRow, Heights, absent, present, heights_of, stored_rows, sheet_read}
use Rattle.sheet_format.proofs.Theorems.StoredRows.{stored-within}
use Rattle.sheet_format.specs.Size.{rows_width, rows_height}
use Rattle.sheet_stream.specs.declared.progress.SheetProgress.{SheetProgress}
use Rattle.sheet_stream.specs.declared.step.SheetStep.{SheetStep}
use Rattle.sheet_stream.specs.Progress.{carried_by, Underway}
use Rattle.sheet_stream.specs.Step.{StepMade}
use Rattle.sheet_stream.specs.Step.Laws.{step-accepted}
use Rattle.sheet_stream.specs.Step.Rows.{rowless-next, row-least, row_next, row-there, gap-absent}
use Rattle.sheet_stream.specs.AcceptedRecord.Laws.{step-next}
use Rattle.pgm_format.specs.Header.{pgm_front}
use Rattle.pgm_format.specs.Samples.{samples_of, lines_bytes, pgm_bytes}
use Rattle.pgm_format.specs.Samples.Laws.{samples_of-append}
use Rattle.pgm_format.specs.Shape.{LineFault, row_missing, row_unequal, padded_line, padded_lines}
use Rattle.pgm_format.specs.Shape.{no_padding, pad_with, unless_fault, SheetPgm, no_heights, at_fault, pgm_picture, sheet_pgm}
use Rattle.sheet_to_pgm.specs.declared.shape.RowFault.TheVariants.{Missing, Unequal}
use Rattle.sheet_to_pgm.specs.declared.shape.LineShape.{LineShape}
use Rattle.sheet_to_pgm.specs.LineShape.{fault_said, ShapeOf, ShapeFound}
use Rattle.sheet_to_pgm.specs.Written.{padding, pad_height, fault_text, reason_text, Reason, FaultFound, PictureFound}
use Rattle.sheet_to_pgm.specs.Written.{RowSettled, LineWritten, RowBrought, lines_after}

-- ---- pads
replicate_more : (n h : ℕ) → replicate (suc n) h ≡ replicate n h ++ (h ∷ [])
replicate_more zero h = refl
replicate_more (suc n) h = ap (h ∷◌) (replicate_more n h)

pub pads-none : (h : ℕ) → samples_of (replicate 0 h) ≡ []
unfolding samples_of
pads-none h = refl

pub pads-more : (n h : ℕ) → samples_of (replicate (n + 1) h) ≡ samples_of (replicate n h) ++ (h / 256 ∷ h % 256 ∷ [])
unfolding samples_of
pads-more n h =
    ap samples_of (ap (λ (k : ℕ). replicate k h) (add-one n) ∙ replicate_more n h) ∙ samples_of-append (replicate n h) (h ∷ [])

-- ---- lines
take-replicate : (n k h : ℕ) → n ≤ k → take n (replicate k h) ≡ replicate n h
take-replicate zero k h less = refl
take-replicate (suc n) zero h less = absurd (omega arith)
take-replicate (suc n) (suc k) h less = ap (h ∷◌) (take-replicate n k h (omega arith))

pub line-present : (h w : ℕ) (hs : List ℕ) → length hs ≤ w → hs ++ replicate (w - length hs) h ≡ padded_line h w (present hs)
line-present h w hs few =
    let size : w ≡ length hs + (w - length hs) = omega arith in
    sym (ap (λ (n : ℕ). take n (hs ++ replicate w h)) size
    ∙ take-append-add hs (replicate w h) (w - length hs)
    ∙ ap (hs ++◌) (take-replicate (w - length hs) w h (omega arith)))

length-lines : (h w n k : ℕ) (ys : List StoredRow) → length (padded_lines h w n k ys) ≡ k
unfolding padded_lines
length-lines h w n zero ys = refl
length-lines h w n (suc k) ys = ap suc (length-lines h w (suc n) k ys)

width-most : (ys : List StoredRow) → ((y : StoredRow) → Memᴰ y ys → length y.heights ≤ 4096) → rows_width ys ≤ 4096
unfolding rows_width
width-most [] few = omega arith
width-most (y ∷ ys) few =
    let first = few y (Memᴰ.head refl) in
    let rest = width-most ys (λ z m. few z (Memᴰ.tail m)) in
    omega arith

-- ---- the picture of some rows, by their shape
module _ (ys : List StoredRow) {s : LineShape} (shape : ShapeOf s ys) where
  abbrev picture_with : ℕ → SheetPgm
  picture_with h = pgm_picture (pgm_front s.width s.count ++ lines_bytes (padded_lines h s.width 0 s.count ys))

  bytes-are : (h : ℕ) → pgm_picture (pgm_bytes (rows_width ys) (padded_lines h (rows_width ys) 0 (rows_height ys) ys)) ≡ picture_with h
  unfolding pgm_bytes
  bytes-are h = rw (shape.width, shape.count, length-lines h (rows_width ys) 0 (rows_height ys) ys)

  pub pgm-none : (p : Option ℕ) → s.width ≡ 0 → sheet_pgm (padding p) ys ≡ no_heights
  unfolding sheet_pgm
  pgm-none p none = rw (eq-eqb (rows_width ys) 0 (sym shape.width ∙ none))

  module _ (some : s.width ≡ 0 → ⊥) where
    there : rows_width ys ≡ 0 → ⊥
    there e = some (shape.width ∙ e)

    pub pgm-padded : (h : ℕ) → sheet_pgm (pad_with h) ys ≡ picture_with h
    unfolding sheet_pgm
    pgm-padded h = rw (ne_eqb (rows_width ys) 0 there) (bytes-are h)

    by-fault : sheet_pgm no_padding ys
        ≡ unless_fault (fault_said s.fault) (pgm_bytes (rows_width ys) (padded_lines 0 (rows_width ys) 0 (rows_height ys) ys))
    unfolding sheet_pgm
    by-fault = rw (ne_eqb (rows_width ys) 0 there, shape.fault)

    pub pgm-whole : s.fault ≡ None → sheet_pgm no_padding ys ≡ picture_with 0
    pgm-whole e = by-fault ∙ rw e (bytes-are 0)

    pub pgm-missing : (n : ℕ) → s.fault ≡ Some (Missing n) → sheet_pgm no_padding ys ≡ at_fault (row_missing n)
    pgm-missing n e = by-fault ∙ rw e

    pub pgm-unequal : (n k w : ℕ) → s.fault ≡ Some (Unequal n k w) → sheet_pgm no_padding ys ≡ at_fault (row_unequal n k w)
    pgm-unequal n k w e = by-fault ∙ rw e

-- ---- what is found of a sheet
module _ {s : LineShape} (found : ShapeFound s) where
  abbrev rows : List StoredRow
  rows = stored_rows (sheet_read found.sheet).records

  pub reason-none : (p : Option ℕ) → s.width ≡ 0 → Reason p (ascii "there are no heights")
  unfolding reason_text
  reason-none p none =
      record { sheet = found.sheet; accepted = found.accepted; says = rw (pgm-none rows found.shape p none) }

  wide : s.width ≤ 4096
  wide = rw found.shape.width (width-most rows (λ y m. (stored-within found.sheet y m).few))

  picture-found : (p : Option ℕ) → sheet_pgm (padding p) rows ≡ picture_with rows found.shape (pad_height p)
      → PictureFound p s.width s.count
  picture-found p is = record { sheet = found.sheet; accepted = found.accepted; wide = wide; picture = is }

  module _ (some : s.width ≡ 0 → ⊥) where
    pub found-padded : (p : Option ℕ) (h : ℕ) → p ≡ Some h → PictureFound p s.width s.count
    found-padded p h e = rw e (picture-found (Some h) (pgm-padded rows found.shape some h))

    pub found-whole : s.fault ≡ None → PictureFound None s.width s.count
    found-whole e = picture-found None (pgm-whole rows found.shape some e)

    pub fault-missing : (n : ℕ) → s.fault ≡ Some (Missing n) → FaultFound (row_missing n)
    fault-missing n e =
        record { sheet = found.sheet; accepted = found.accepted; fault = pgm-missing rows found.shape some n e }

    pub fault-unequal : (n k w : ℕ) → s.fault ≡ Some (Unequal n k w) → FaultFound (row_unequal n k w)
    fault-unequal n k w e =
        record { sheet = found.sheet; accepted = found.accepted; fault = pgm-unequal rows found.shape some n k w e }

pub reason-fault : {f : LineFault} {text : List ℕ} → FaultFound f → text ≡ fault_text f → Reason None text
unfolding reason_text
reason-fault found is = record { sheet = found.sheet; accepted = found.accepted; says = rw found.fault is }

pub text-missing : (n : ℕ) → field (ascii "row ") n ++ ascii " is missing" ≡ fault_text (row_missing n)
unfolding fault_text
text-missing n = refl

pub text-unequal : (n k w : ℕ)
    → fields (ascii "row ") n (ascii " has ") k ++ field (ascii " heights and row 0 has ") w ≡ fault_text (row_unequal n k w)
unfolding fault_text
text-unequal n k w = refl

-- ---- lines that are written
pub absent-written : {h w n : ℕ} {held text : List ℕ} → RowSettled held n absent
    → text ≡ samples_of (halves_of [] ++ replicate (w - length {A = ℕ} [] / 2) h) → LineWritten h w n held text
unfolding cut
absent-written {h} {w} settled is =
    let all : w - 0 / 2 ≡ w = omega arith in
    record { heights = absent; settled = settled; line = is ∙ ap (λ (k : ℕ). samples_of (replicate k h)) all }

pub present-written : {h w n : ℕ} {held text : List ℕ} (pixels : List ℕ) → length (halves_of pixels) ≤ w
    → RowSettled held n (present (halves_of pixels))
    → text ≡ samples_of (halves_of pixels ++ replicate (w - length pixels / 2) h) → LineWritten h w n held text
present-written {h} {w} pixels few settled is =
    let count : length pixels / 2 ≡ length (halves_of pixels) = sym (length-halves pixels) in
    record {
      heights = present (halves_of pixels);
      settled = settled;
      line =
          is ∙ ap (λ (k : ℕ). samples_of (halves_of pixels ++ replicate (w - k) h)) count
          ∙ ap samples_of (line-present h w (halves_of pixels) few);
    }

-- ---- the record that was read last
module _ {b : List ℕ} {p : SheetProgress} {table : List ℕ} {s : SheetStep} {table' content' : List ℕ}
    (step : StepMade b p table s table' content') (on : s.last ≡ false) (at : Underway (carried_by p table)) where
  settled : {n : ℕ} {x : Heights} → p.state.least_row ≤ n
      → ((rest : List ℕ) → heights_of n (stored_rows (sheet_read (at.taken ++ b ++ rest)).records) ≡ x) → RowSettled b n x
  settled later row =
      record {
        taken = at.taken;
        carried = carried_by p table;
        carries = at.carries;
        whole = step.held;
        accepted = step-accepted step on;
        later = later;
        row = row;
      }

  pub row-brought : RowBrought b p.state.least_row s.read content'
  row-brought =
      record {
        next = step-next step on at;
        low = λ row. row-least step on row;
        own = λ row. settled (row-least step on row) (λ rest. row-there step on row at.carries rest);
        gap = λ row n low high. settled low (λ rest. gap-absent step on row at.carries rest n low high);
      }

  -- and the lines before the least row that may come next are out
  pub lines_next : lines_after p.state.least_row s.read ≡ s.next.state.least_row
  lines_next =
      by-test (is_row (kind_of s.read.kind).holds)
      (λ row. rw row (sym (row_next step on row)))
      (λ other. rw other (sym (rowless-next step on other at.carries)))
