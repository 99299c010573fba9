-- `pgm_reader::header::read_fields` meets its contract. Assumes nothing.
use Prim.Native.Nat.{ℕ, min}
use native.Mathlib.Omega.{arith}
use mathlib.Core.Path.{◌≡◌, refl, sym, ap}
use mathlib.Core.Bool.{Bool, true}
use mathlib.Core.List.{List}
use lib.ListN.{length, take, get_or, length-take}
use Rattle.std.proofs.lemmas.Result.{err_from_is_err_and}
use Rattle.answer.specs.Refusal.Laws.{refusal_not_done}
use Rattle.text.specs.Same.{same_bytes}
use Rattle.pgm_format.specs.Header.{field_at, after_field, is_blank}
use Rattle.text.specs.Text.{ascii}
use Rattle.text.specs.Same.Laws.{same-is}
use Rattle.pgm_format.specs.Header.Laws.{FieldsRead, front-refused, front-accepted}
use Rattle.pgm_reader.proofs.header.read_fields.Goals as goal

-- the three fields are those of the definition, one after the other
fields : (s : List ℕ) (width end1 rows end2 largest end3 : ℕ) (blank : Bool) → same_bytes (take 2 s) (ascii "P5") ≡ true
    → width ≡ min (field_at 2 s) 65537 → end1 ≡ after_field 2 s → rows ≡ min (field_at end1 s) 65537 → end2 ≡ after_field end1 s
    → largest ≡ min (field_at end2 s) 65537 → end3 ≡ after_field end2 s → blank ≡ is_blank (get_or s end3 0)
    → FieldsRead s width rows largest end3 blank
fields s width end1 rows end2 largest end3 blank begins first is1 second is2 third is3 closed =
    let then2 = rw is1 at is2 in
    record {
      begins = begins;
      width = first;
      rows = rw is1 at second;
      most = rw then2 at third;
      ends = rw then2 at is3;
      closed = closed;
    }

pub field_at-width-requires : goal.field_at-width-requires
field_at-width-requires c = let begins = same-is (take 2 c.args.bytes.now) (ascii "P5") c.requires.ascii_value in
    omega (arith, ap length begins, length-take 2 c.args.bytes.now)

pub returns-in_err-judge : goal.returns-in_err-judge
returns-in_err-judge c =
    let p = err_from_is_err_and c.from_residual.result c.from_residual.ensures.1 in
    rw (p.1, p.2)
    (sym (front-refused (fields c.args.bytes.now c.field_at-width.result.value c.field_at-width.result.end
    c.field_at-rows.result.value c.field_at-rows.result.end c.field_at-largest.result.value c.field_at-largest.result.end c.blank_at-blank.result
    c.requires.ascii_value c.field_at-width.ensures.value c.field_at-width.ensures.end c.field_at-rows.ensures.value
    c.field_at-rows.ensures.end c.field_at-largest.ensures.value c.field_at-largest.ensures.end c.blank_at-blank.ensures)
    c.in_err-judge.ensures (λ e. absurd (omega (arith, refusal_not_done c.in_err-judge.field-0.0, e)))))

pub returns : goal.returns
returns c =
    sym (front-accepted (fields c.args.bytes.now c.field_at-width.result.value c.field_at-width.result.end
    c.field_at-rows.result.value c.field_at-rows.result.end c.field_at-largest.result.value c.field_at-largest.result.end c.blank_at-blank.result
    c.requires.ascii_value c.field_at-width.ensures.value c.field_at-width.ensures.end c.field_at-rows.ensures.value
    c.field_at-rows.ensures.end c.field_at-largest.ensures.value c.field_at-largest.ensures.end c.blank_at-blank.ensures)
    c.in_ok-judge.ensures refl)
