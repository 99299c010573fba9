-- `pixels::pixels` meets its contract: pixel after pixel. Assumes nothing.
use Rattle.std.proofs.Common.{arith, refl, ◌∙◌, ◌+◌}
use Rattle.std.specs.Prelude.{Ok, Err}
use Rattle.std.proofs.lemmas.Result.{err_from_is_err_and}
use Rattle.bitstream.specs.Bits.{halves_of}
use Rattle.bitstream.specs.Msb.{msb_bits_of}
use Rattle.row_pixels.specs.Laws.{length-halves}
use Rattle.mat_map.specs.Step.{as_stepped}
use Rattle.mat_map.specs.Step.Group.{pixels-none, pixels-more, pixels-stop, pixels-all}
use Rattle.mat_map.proofs.Laws.{not_done}
use Rattle.mat_map.proofs.pixels.pixels.Goals as goal

pub loop-i-init : goal.loop-i-init
loop-i-init c = (refl, pixels-none (msb_bits_of c.args.s.now) c.args.at c.args.n c.args.place (halves_of c.args.own.now) 0 refl)

pub returns-in_err-p : goal.returns-in_err-p
returns-in_err-p c =
    let p = err_from_is_err_and c.from_residual.result c.from_residual.ensures.1 in
    rw (p.1, p.2)
    (pixels-stop (msb_bits_of c.args.s.now) c.args.at c.args.n c.args.place (halves_of c.args.own.now)
    (halves_of c.loop-i.own) c.loop-i.next c.loop-i.sum c.loop-i.i c.loop-i.invariant.1
    (omega arith) (as_stepped (Err c.in_err-p.field-0.0)) c.in_err-p.ensures (not_done c.in_err-p.field-0.0))

pub put_count-requires : goal.put_count-requires
put_count-requires c = record {
  i_in_bounds = omega (arith, c.requires.n_in_bounds, length-halves c.args.own.now, c.loop-i.invariant.0);
  v_bound = (c.in_ok-p.ensures.goes refl).low;
}

pub overflow_add-sum : goal.overflow_add-sum
overflow_add-sum c =
    let low = (c.in_ok-p.ensures.goes refl).low in
    record { fits = omega (arith, c.loop-i.invariant.1.low, low, c.requires.n_bound) }

pub loop-i-preserved : goal.loop-i-preserved
loop-i-preserved c = (
  c.put_count.auto.counts ∙ c.loop-i.invariant.0,
  pixels-more (msb_bits_of c.args.s.now) c.args.at c.args.n c.args.place (halves_of c.args.own.now)
      (halves_of c.loop-i.own) c.loop-i.next c.loop-i.sum c.loop-i.i c.loop-i.invariant.1
      (omega arith) (as_stepped (Ok c.in_ok-p.p)) c.in_ok-p.ensures
      (omega (arith, c.requires.n_in_bounds, length-halves c.args.own.now))
      refl (halves_of c.put_count.new.counts) (c.args.place + c.loop-i.i) refl c.put_count.ensures (c.loop-i.i + 1) refl,
)

pub shape_of-own : goal.shape_of-own
shape_of-own c = c.loop-i.invariant.0

pub returns : goal.returns
returns c =
    pixels-all (msb_bits_of c.args.s.now) c.args.at c.args.n c.args.place (halves_of c.args.own.now)
    (halves_of c.loop-i.own) c.loop-i.next c.loop-i.sum c.loop-i.i c.loop-i.invariant.1 c.requires.n_nonzero (omega arith)
