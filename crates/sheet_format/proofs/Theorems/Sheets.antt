-- A sheet of written records is accepted, and its records are those that were written. Assumes nothing.
use Rattle.std.specs.Prelude.{ℕ, ◌<◌, ◌≡◌, refl, List, [], ◌∷◌, ◌++◌, length, take, drop}
use Rattle.std.proofs.Common.{arith, sym, ap, ◌∙◌, length-append}
use Rattle.std.proofs.Math.Seq.{take-append_seam, drop-append_seam}
use Rattle.answer.specs.Outcome.{Outcome}
use Rattle.sheet_format.specs.declared.RecordRead.{RecordRead}
use Rattle.sheet_format.specs.declared.RecordWritten.{RecordWritten}
use Rattle.sheet_format.specs.Context.{Context, new_sheet}
use Rattle.sheet_format.specs.Kinds.{kind_of}
use Rattle.sheet_format.specs.Reading.{context_after, record_content, record_judged}
use Rattle.sheet_format.specs.Writing.{write_number, record_for, record_done, RecordWritable}
use Rattle.sheet_format.specs.Writing.Laws.{length-record_bytes, writable, record_written-number, record_written-done, record_written-front}
use Rattle.sheet_format.specs.Sheet.{SheetRead, put_first, record_here, rest_next, records, sheet_read}
use Rattle.sheet_format.specs.Sheet.Laws.{records-end, records-more}
use Rattle.sheet_format.specs.Given.{record_given, given_by, Write, written_by, context_written, bytes_written, Done, AllDone, sheet_bytes, sheet_given}
use Rattle.sheet_format.proofs.Theorems.ReadBack.{record_judged-back, record_content-back, context_after-back}

-- the same of bytes that are not written out as a first byte and the rest
records-accepted : (c : Context) (r : List ℕ) → 0 < length r → (record_judged c r).number ≡ 0
    → records c r ≡ put_first (record_here c r) (records (context_after c r) (rest_next c r))
records-accepted c [] some ok = absurd (omega arith)
records-accepted c (x ∷ r) some ok = records-more c x r ok

-- the sheet from a record a with its content on, where the bytes r are left and the sheet holds next
abbrev from_here : List ℕ → List ℕ → Context → RecordRead → SheetRead
from_here r content next a =
    put_first (record { answer = a; content = content; bytes = take a.length r }) (records next (drop a.length r))

-- the bytes of the record that is written
abbrev whole : Context → Write → List ℕ
whole c w = record_for w.kind w.heading c w.content

whole-some : (c : Context) (w : Write) (rest : List ℕ) → 0 < length (whole c w ++ rest)
whole-some c w rest =
    let size = length-record_bytes w.kind ((kind_of w.kind).body w.heading c w.content) in
    omega (arith, length-append (whole c w) rest)

module _ (c : Context) (w : Write) (d : Done c w) where
  number : write_number w.kind w.heading c w.content (length w.memory) ≡ 0
  number = sym (record_written-number w.kind w.heading c w.content w.memory) ∙ d.done

  can : RecordWritable w.kind w.heading c w.content
  can = writable w.kind w.heading c w.content (length w.memory) number

  bytes-written : bytes_written c w ≡ whole c w
  bytes-written = record_written-front w.kind w.heading c w.content w.memory number

  answered : (written_by c w).answer ≡ record_done w.kind w.heading c w.content
  answered =
      ap (λ (o : Outcome RecordWritten). o.answer)
      (record_written-done w.kind w.heading c w.content w.memory number)

  module _ (rest : List ℕ) where
    back : record_judged c (whole c w ++ rest) ≡ record_given w.kind w.heading c w.content (written_by c w).answer
    back =
        record_judged-back w.kind w.heading c w.content d.bytes can rest
        ∙ ap (record_given w.kind w.heading c w.content) (sym answered)

    size : (written_by c w).answer.count ≡ length (whole c w)
    size = ap (λ (a : RecordWritten). a.count) answered

    next : context_after c (whole c w ++ rest) ≡ context_written c w
    next = context_after-back w.kind w.heading c w.content d.bytes can rest

    written-first : records c (whole c w ++ rest) ≡ put_first (given_by c w) (records (context_written c w) rest)
    written-first =
        let r = whole c w ++ rest in
        let content = record_content-back w.kind w.heading c w.content d.bytes can rest in
        records-accepted c r (whole-some c w rest) (ap (λ (a : RecordRead). a.number) back)
        ∙ ap (from_here r (record_content c r) (context_after c r)) back
        ∙ rw (content, next, bytes-written, size, take-append_seam (whole c w) rest, drop-append_seam (whole c w) rest)

records-written : (c : Context) (ws : List Write) → AllDone c ws
    → records c (sheet_bytes c ws) ≡ record { records = sheet_given c ws; number = 0; place = 0 }
unfolding sheet_bytes sheet_given
records-written c [] d = records-end c
records-written c (w ∷ ws) d =
    let rest = sheet_bytes (context_written c w) ws in
    ap (λ (b : List ℕ). records c (b ++ rest)) (bytes-written c w d.0)
    ∙ written-first c w d.0 rest
    ∙ ap (put_first (given_by c w)) (records-written (context_written c w) ws d.1)

sheet_read-records : (s : List ℕ) → 0 < length s → sheet_read s ≡ records new_sheet s
unfolding sheet_read
sheet_read-records [] some = absurd (omega arith)
sheet_read-records (x ∷ s) some = refl

pub sheet_read-written : (w : Write) (ws : List Write) → AllDone new_sheet (w ∷ ws)
    → sheet_read (sheet_bytes new_sheet (w ∷ ws)) ≡ record { records = sheet_given new_sheet (w ∷ ws); number = 0; place = 0 }
sheet_read-written w ws d = sheet_read-records (sheet_bytes new_sheet (w ∷ ws)) some ∙ records-written new_sheet (w ∷ ws) d
  where
    some : 0 < length (sheet_bytes new_sheet (w ∷ ws))
    some = unfold sheet_bytes in (rw (bytes-written new_sheet w d.0) (whole-some new_sheet w _))
