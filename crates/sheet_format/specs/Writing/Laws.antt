-- The fields of a record that was written, whatever follows it, and what a done write passed. Assumes nothing.
use Rattle.std.specs.Prelude.{ℕ, suc, ◌+◌, ◌-◌, ◌≤◌, ◌<◌, ◌≡◌, take, drop, ltb}
use Rattle.std.proofs.Common.{arith, sym, ◌∙◌, take_at, drop_at, drop-drop}
use Rattle.std.proofs.Math.Path.{refl, ap}
use mathlib.Core.List.{List, [], ◌++◌, append_assoc, append-nil}
use Rattle.std.proofs.Math.ListN.{length, length-append}
use borrow.Author.Tests.{le-ltb}
use Rattle.answer.specs.Outcome.{Outcome, outcome, writes, refuse_if}
use Rattle.answer.specs.Outcome.Laws.{less_number-zero, or_else-zero-left, or_else-zero-right, unless-number}
use Rattle.sheet_format.specs.declared.RecordWritten.{RecordWritten}
use Rattle.sheet_format.specs.Context.{Heading, Context}
use Rattle.sheet_format.specs.Fields.{two_bytes, four_bytes}
use Rattle.sheet_format.specs.Fields.Laws.{number_of-two_bytes, number_of-four_bytes, length-two_bytes, length-four_bytes, take-two_bytes, drop-two_bytes}
use Rattle.sheet_format.specs.Kinds.{kind_of}
use Rattle.sheet_format.specs.Record.{length_field, kind_field, body_of, length_number}
use Rattle.sheet_format.specs.Writing.{record_bytes, record_for, write_number, RecordWritable, not_written, record_done, record_written}

pub length-record_bytes : (code : ℕ) (b : List ℕ) → length (record_bytes code b) ≡ 6 + length b
unfolding record_bytes
length-record_bytes code b =
    length-append (four_bytes (2 + length b)) (two_bytes code ++ b)
    ∙ rw (length-append (two_bytes code) b, length-four_bytes (2 + length b), length-two_bytes code) (omega arith)

-- what the fields of the bytes r are
pub record RecordParts (r : List ℕ) (code : ℕ) (b : List ℕ) : Type 0 where
  pub size : length_field r ≡ 2 + length b
  pub kind : kind_field r ≡ code
  pub body : body_of r ≡ b
  pub right : length_number r ≡ 0

module _ (code : ℕ) (b rest : List ℕ) where
  record-append : record_bytes code b ++ rest ≡ four_bytes (2 + length b) ++ (two_bytes code ++ (b ++ rest))
  unfolding record_bytes
  record-append = simp append_assoc

  after-length : drop 4 (record_bytes code b ++ rest) ≡ two_bytes code ++ (b ++ rest)
  after-length = rw record-append
      (drop_at (four_bytes (2 + length b)) (two_bytes code ++ (b ++ rest)) 4 (length-four_bytes (2 + length b)))

  pub drop-record_bytes : drop 6 (record_bytes code b ++ rest) ≡ b ++ rest
  drop-record_bytes =
      sym (drop-drop 2 4 (record_bytes code b ++ rest)) ∙ ap (drop 2) after-length ∙ drop-two_bytes code (b ++ rest)

module _ (code : ℕ) (b rest : List ℕ) (small : code < 65536) (short : length b ≤ 32772) where
  length_field-record_bytes : length_field (record_bytes code b ++ rest) ≡ 2 + length b
  length_field-record_bytes =
      let size = length-four_bytes (2 + length b) in
      rw (record-append code b rest, take_at (four_bytes (2 + length b)) (two_bytes code ++ (b ++ rest)) 4 size)
      (number_of-four_bytes (2 + length b) (omega arith))

  kind_field-record_bytes : kind_field (record_bytes code b ++ rest) ≡ code
  kind_field-record_bytes = rw (after-length code b rest, take-two_bytes code (b ++ rest)) (number_of-two_bytes code small)

  body_of-record_bytes : body_of (record_bytes code b ++ rest) ≡ b
  body_of-record_bytes =
      let size : length b ≡ 2 + length b - 2 = omega arith in
      rw (length_field-record_bytes, drop-record_bytes code b rest) (take_at b rest (2 + length b - 2) size)

  length_number-record_bytes : length_number (record_bytes code b ++ rest) ≡ 0
  unfolding length_number
  length_number-record_bytes =
      let size : length (record_bytes code b ++ rest) ≡ 6 + length b + length rest =
      length-append (record_bytes code b) rest ∙ ap (◌+ length rest) (length-record_bytes code b) in
      rw (
        size,
        length_field-record_bytes,
        le-ltb (6 + length b + length rest) 4 (omega arith),
        le-ltb (2 + length b) 2 (omega arith),
        le-ltb 32774 (2 + length b) (omega arith),
        le-ltb (6 + length b + length rest) (4 + (2 + length b)) (omega arith),
      )

  pub parts-record_bytes : RecordParts (record_bytes code b ++ rest) code b
  parts-record_bytes = record {
    size = length_field-record_bytes;
    kind = kind_field-record_bytes;
    body = body_of-record_bytes;
    right = length_number-record_bytes;
  }

-- a table's record holds its bytes from place 6 on
pub record_bytes-table : (code : ℕ) (h : Heading) (c : Context) (x : List ℕ) → code ≡ 1 → drop 6 (record_for code h c x) ≡ x
record_bytes-table code h c x one =
    let b = (kind_of code).body h c x in
    ap (drop 6) (sym (append-nil (record_bytes code b)))
    ∙ drop-record_bytes code b []
    ∙ append-nil b
    ∙ ap (λ (k : ℕ). (kind_of k).body h c x) one

-- ---- what a done write passed
module _ (code : ℕ) (h : Heading) (c : Context) (x : List ℕ) where
  pub writable : (room : ℕ) → write_number code h c x room ≡ 0 → RecordWritable code h c x
  unfolding write_number
  writable room e =
      let k = kind_of code in
      let e1 = or_else-zero-right k.writable _ e in
      let e2 = or_else-zero-right (k.place c h) _ e1 in
      record {
        writable = or_else-zero-left k.writable _ e;
        place = or_else-zero-left (k.place c h) _ e1;
        given = or_else-zero-left (k.given h c x) _ e2;
      }

  -- then only room is left to ask for
  pub write_number-writable : (room : ℕ) → RecordWritable code h c x
      → write_number code h c x room ≡ refuse_if (ltb room (length (record_for code h c x))) 5
  unfolding write_number
  write_number-writable room w = rw (w.writable, w.place, w.given)

  pub write_number-room : (room : ℕ) → write_number code h c x room ≡ 0 → length (record_for code h c x) ≤ room
  write_number-room room e =
      less_number-zero room (length (record_for code h c x)) 4 (sym (write_number-writable room (writable room e)) ∙ e)

  -- ---- the call
  module _ (m : List ℕ) where
    pub record_written-number : (record_written code h c x m).answer.number ≡ write_number code h c x (length m)
    unfolding record_written
    record_written-number =
        unless-number (λ (o : Outcome RecordWritten). o.answer.number) (λ e. outcome (not_written e) m)
        (writes (record_done code h c x) (record_for code h c x) m) (λ k. refl) (write_number code h c x (length m)) refl

    pub record_written-done : write_number code h c x (length m) ≡ 0
        → record_written code h c x m ≡ writes (record_done code h c x) (record_for code h c x) m
    unfolding record_written
    record_written-done e = rw e

    pub record_written-refused : (e : ℕ) → write_number code h c x (length m) ≡ suc e
        → record_written code h c x m ≡ outcome (not_written (suc e)) m
    unfolding record_written
    record_written-refused e h = rw h

    -- the bytes that a done write counts are the record's
    pub record_written-front : write_number code h c x (length m) ≡ 0
        → take (record_written code h c x m).answer.count (record_written code h c x m).memory ≡ record_for code h c x
    record_written-front e =
        let b = record_for code h c x in
        rw (record_written-done e) (take_at b (drop (length b) m) (length b) refl)
