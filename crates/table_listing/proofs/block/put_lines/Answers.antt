-- `table_listing::block::put_lines`: a turn puts the next line or stops there. Assumes nothing.
use Rattle.std.proofs.Common.{◌+◌, sym, ap, ◌∙◌, arith, map, refl}
use Rattle.std.proofs.lemmas.List.{length-map}
use Rattle.bitstream.specs.Bits.{words_of}
use Rattle.table_listing.specs.Line.{line}
use Rattle.table_listing.proofs.block.Laws.{filling-none, filling-all, turn-first, turn-later, turn_more}
use Rattle.table_listing.proofs.block.put_lines.Goals as goal

pub loop-place-init : goal.loop-place-init
loop-place-init c = record { count = refl; filling = filling-none (map (line (words_of c.args.table.now)) c.args.places.now) c.args.out.now }

pub append_line-requires-clause-at_in_bounds : goal.append_line-requires-clause-at_in_bounds
append_line-requires-clause-at_in_bounds c = omega (arith, c.loop-place.invariant.filling.room, c.loop-place.auto.out)

pub returns-then-lines-eq0 : goal.returns-then-lines-eq0
returns-then-lines-eq0 c =
    turn-first (words_of c.args.table.now) c.args.places.now c.loop-place.invariant.filling c.loop-place-test.true c.in_default.ensures
    (sym c.loop-place.invariant.count ∙ c.if-lines-eq0.true)

pub loop-place-preserved : goal.loop-place-preserved
loop-place-preserved c =
    record {
      count = ap (◌+ 1) c.loop-place.invariant.count;
      filling = turn_more (words_of c.args.table.now) c.args.places.now c.loop-place.invariant.filling c.loop-place-test.true c.in-Some.ensures
          c.append_line.auto.out;
    }

pub returns-else-lines-eq0 : goal.returns-else-lines-eq0
returns-else-lines-eq0 c =
    rw c.loop-place.invariant.count
    (turn-later (words_of c.args.table.now) c.args.places.now c.loop-place.invariant.filling c.loop-place-test.true c.in_default.ensures
    (λ e. c.if-lines-eq0.false (c.loop-place.invariant.count ∙ e)))

pub returns-after-loop-place : goal.returns-after-loop-place
returns-after-loop-place c =
    rw c.loop-place.invariant.count
    (filling-all c.loop-place.invariant.filling
    (omega (arith, c.loop-place-test.false, length-map c.args.places.now (line (words_of c.args.table.now)))))
