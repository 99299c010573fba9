-- What is written is read back, whatever follows it. Assumes nothing.
use Rattle.std.specs.Prelude.{ℕ, ◌+◌, ◌*◌, ◌≤◌, ◌≡◌, List, ◌++◌}
use Rattle.std.proofs.Common.{arith, ◌∙◌}
use Rattle.std.proofs.Math.Path.{refl}
use Rattle.std.proofs.Math.ListN.{length}
use Rattle.std.proofs.Math.Seq.{length-take-le}
use Rattle.bitstream.specs.Bits.{Below}
use Rattle.answer.specs.Outcome.{writes, Lent, nothing, lent, room_number}
use Rattle.answer.specs.Outcome.Laws.{less_number-none}
use Rattle.sheet_format.specs.Context.{Heading, Context}
use Rattle.sheet_format.specs.Kind.{Kind, after_record, content_given}
use Rattle.sheet_format.specs.Kind.Lawful.{Back}
use Rattle.sheet_format.specs.Kinds.{kind_of}
use Rattle.sheet_format.specs.Kinds.Laws.{lawful, readable-code}
use Rattle.sheet_format.specs.Record.{record_number}
use Rattle.sheet_format.specs.Record.Laws.{content_number-passed}
use Rattle.sheet_format.specs.Reading.{record_held, record_content, context_after, record_judged, record_read}
use Rattle.sheet_format.specs.Reading.Laws.{record_content-of, context_after-of}
use Rattle.sheet_format.specs.Writing.{record_for, record_done, RecordWritable}
use Rattle.sheet_format.specs.Writing.Laws.{RecordParts, parts-record_bytes, length-record_bytes}
use Rattle.sheet_format.specs.Given.{record_given}

module _ (code : ℕ) (h : Heading) (c : Context) (x : List ℕ) (bytes : Below 256 x) (w : RecordWritable code h c x)
    (rest : List ℕ) where
  abbrev k : Kind
  k = kind_of code

  abbrev body : List ℕ
  body = k.body h c x

  back : Back k h c x body
  back = (lawful code).back h c x bytes w.writable w.place w.given

  readable : k.readable ≡ 0
  readable = (lawful code).readable-back w.writable

  found : RecordParts (record_for code h c x ++ rest) code body
  found = parts-record_bytes code body rest (omega (arith, readable-code code readable)) back.short

  pub record_number-back : (m : Lent) → room_number m (k.each * k.given_count x) ≡ 0
      → record_number m c (record_for code h c x ++ rest) ≡ 0
  unfolding record_number
  record_number-back m room =
      rw (found.right, found.body, found.kind, readable)
      (content_number-passed k m c body (record {
        fixed = back.fixed;
        place = back.place ∙ w.place;
        own = back.own m room;
      }))

  pub record_held-back : record_held c (record_for code h c x ++ rest) ≡ record_given code h c x (record_done code h c x)
  unfolding record_held
  record_held-back =
      let size : 4 + (2 + length body) ≡ length (record_for code h c x) = omega (arith, length-record_bytes code body) in
      rw (found.body, found.kind, found.size, size, back.after, back.heading, back.count, back.bits)

  pub record_content-back : record_content c (record_for code h c x ++ rest) ≡ content_given k x
  record_content-back = record_content-of c (record_for code h c x ++ rest) found.kind found.body ∙ back.content

  pub context_after-back : context_after c (record_for code h c x ++ rest) ≡ after_record k.holds h x c
  context_after-back = context_after-of c (record_for code h c x ++ rest) found.kind found.body ∙ back.after

  pub record_judged-back : record_judged c (record_for code h c x ++ rest) ≡ record_given code h c x (record_done code h c x)
  unfolding record_judged
  record_judged-back = rw (record_number-back nothing refl, record_held-back)

  pub record_read-back : (m : List ℕ) → length (content_given k x) ≤ length m
      → record_read c (record_for code h c x ++ rest) m
      ≡ writes (record_given code h c x (record_done code h c x)) (content_given k x) m
  unfolding record_read
  record_read-back m room =
      let size = length-take-le (k.each * k.given_count x) x ((lawful code).given-size x) in
      let granted = less_number-none (length m) (k.each * k.given_count x) 5 (omega (arith, size)) in
      rw (record_number-back (lent (length m)) granted, record_held-back, record_content-back)
