-- What a done write leaves is read back, and when a write is refused for room: the calls' own words. Assumes nothing.
use Rattle.std.specs.Prelude.{ℕ, ◌≤◌, ◌<◌, ◌≡◌, List, [], ◌++◌, length, take, drop}
use Rattle.std.proofs.Common.{arith, sym, ap, ◌∙◌}
use Rattle.bitstream.specs.Bits.{Below}
use Rattle.answer.specs.Outcome.{Outcome, writes}
use Rattle.answer.specs.Outcome.Laws.{less_number-none, less_number-given}
use Rattle.sheet_format.specs.declared.RecordRead.{RecordRead}
use Rattle.sheet_format.specs.declared.RecordWritten.{RecordWritten}
use Rattle.sheet_format.specs.Context.{Heading, Context}
use Rattle.sheet_format.specs.Kind.{content_given}
use Rattle.sheet_format.specs.Kinds.{kind_of}
use Rattle.sheet_format.specs.Reading.{record_judged, record_read}
use Rattle.sheet_format.specs.Reading.Laws.{judged-length}
use Rattle.sheet_format.specs.Writing.{write_number, record_done, record_for, record_written, RecordWritable}
use Rattle.sheet_format.specs.Writing.Laws.{record_written-number, record_written-done, record_written-front, record_bytes-table, writable, write_number-writable}
use Rattle.sheet_format.specs.Given.{record_given}
use Rattle.sheet_format.proofs.Theorems.ReadBack.{record_read-back, record_judged-back}

module _ (code : ℕ) (h : Heading) (c : Context) (x m : List ℕ) (bytes : Below 256 x)
    (done : (record_written code h c x m).answer.number ≡ 0) where
  abbrev written : Outcome RecordWritten
  written = record_written code h c x m

  abbrev front : List ℕ
  front = take written.answer.count written.memory

  number : write_number code h c x (length m) ≡ 0
  number = sym (record_written-number code h c x m) ∙ done

  can : RecordWritable code h c x
  can = writable code h c x (length m) number

  whole : front ≡ record_for code h c x
  whole = record_written-front code h c x m number

  answered : written.answer ≡ record_done code h c x
  answered = ap (λ (o : Outcome RecordWritten). o.answer) (record_written-done code h c x m number)

  pub read-written : (rest m' : List ℕ) → length (content_given (kind_of code) x) ≤ length m'
      → record_read c (front ++ rest) m' ≡ writes (record_given code h c x written.answer) (content_given (kind_of code) x) m'
  read-written rest m' room = rw (whole, answered) (record_read-back code h c x bytes can rest m' room)

  pub judged-written : (rest : List ℕ) → record_judged c (front ++ rest) ≡ record_given code h c x written.answer
  judged-written rest = rw (whole, answered) (record_judged-back code h c x bytes can rest)

  pub table-written : code ≡ 1 → drop 6 front ≡ x
  table-written one = rw whole (record_bytes-table code h c x one)

  pub length-written : (6 ≤ written.answer.count) × (written.answer.count ≤ 32778)
  length-written =
      let same = judged-written [] in
      let size : (record_judged c (front ++ [])).length ≡ written.answer.count = ap (λ (a : RecordRead). a.length) same in
      let within = judged-length c (front ++ []) (ap (λ (a : RecordRead). a.number) same) in
      omega (arith, within.0, within.1)

-- ---- room
module _ (code : ℕ) (h : Heading) (c : Context) (x m : List ℕ) (ok : RecordWritable code h c x) where
  pub granted-written : length (record_for code h c x) ≤ length m → (record_written code h c x m).answer.number ≡ 0
  granted-written room =
      record_written-number code h c x m
      ∙ write_number-writable code h c x (length m) ok
      ∙ less_number-none (length m) (length (record_for code h c x)) 5 room

  pub full-written : length m < length (record_for code h c x) → (record_written code h c x m).answer.number ≡ 5
  full-written less =
      record_written-number code h c x m
      ∙ write_number-writable code h c x (length m) ok
      ∙ less_number-given (length m) (length (record_for code h c x)) 5 less
