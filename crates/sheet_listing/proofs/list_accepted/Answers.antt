-- `sheet_listing::list_accepted`: the line is made aside and then given. Assumes nothing.
use native.Mathlib.Omega.{arith}
use mathlib.Core.Path.{refl, sym}
use lib.Seq.{length-take-le}
use Rattle.answer.specs.Refusal.Laws.{refusal_not_done}
use Rattle.text.specs.Put.Laws.{put_front}
use Rattle.sheet_listing.specs.Line.{answer_line}
use Rattle.sheet_listing.specs.Listed.Laws.{listed-line, listed-full}
use Rattle.sheet_listing.proofs.list_accepted.Goals as goal

pub slice_bounds-give-end : goal.slice_bounds-give-end
slice_bounds-give-end c = sym
    (length-take-le c.put_record_line-n.result c.put_record_line-n.new.out
    (omega (arith, c.put_record_line-n.auto.out)))

pub give-requires : goal.give-requires
give-requires c = omega (
  arith,
  length-take-le c.put_record_line-n.result c.put_record_line-n.new.out
      (omega (arith, c.put_record_line-n.auto.out)),
)

pub returns-in-Ok-clause-listed : goal.returns-in-Ok-clause-listed
returns-in-Ok-clause-listed c = listed-line (answer_line c.args.read c.args.body.now) c.args.read
    c.args.out.now (rw (put_front c.put_record_line-n.ensures.put) at c.in-Ok.ensures) refl

pub returns-in-Err-clause-listed : goal.returns-in-Err-clause-listed
returns-in-Err-clause-listed c = rw (c.refused.ensures, c.number.ensures)
    (listed-full (answer_line c.args.read c.args.body.now) c.args.read
    c.args.out.now (rw (put_front c.put_record_line-n.ensures.put) at c.in-Err.ensures)
    (λ e. omega (arith, refusal_not_done c.in-Err.full)))
