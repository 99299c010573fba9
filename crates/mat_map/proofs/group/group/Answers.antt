-- `group::group`: by the bits ahead, where they are there, else field after field. Assumes nothing.
use Prim.Native.Nat.{◌+◌}
use native.Mathlib.Omega.{arith}
use mathlib.Core.Path.{sym, ◌∙◌}
use borrow.Author.Tests.{ltb-false}
use Rattle.bitstream.specs.Bits.{halves_of}
use Rattle.bitstream.specs.Msb.{msb_bits_of}
use Rattle.row_pixels.specs.Laws.{length-halves}
use Rattle.mat_map.specs.Step.GroupAhead.{ahead-dark, one-low, ahead-one, first-low, second-low, second-room, ahead-two, ahead-each}
use Rattle.mat_map.specs.Step.Group.{first_fits}
use Rattle.mat_map.specs.Step.{as_stepped}
use Rattle.mat_map.proofs.group.group.Goals as goal

pub msb_field-ahead-requires : goal.msb_field-ahead-requires
msb_field-ahead-requires c = record { n_bound = omega arith; n_bound_2 = ltb-false _ _ (sym c.lacks_bits.ensures ∙ c.if-lacks_bits.false) }

pub returns-then-ahead-eq1 : goal.returns-then-ahead-eq1
returns-then-ahead-eq1 c = let there = ltb-false _ _ (sym c.lacks_bits.ensures ∙ c.if-lacks_bits.false) in
    ahead-dark c.args.s.now c.args.at c.msb_field-ahead.result there c.msb_field-ahead.ensures c.args.k c.args.place
    (halves_of c.args.own.now) c.requires c.if-ahead-eq1.true

pub overflow_add-place : goal.overflow_add-place
overflow_add-place c = let there = ltb-false _ _
    (sym c.lacks_bits.ensures ∙ c.if-lacks_bits.false) in
    let low = one-low c.args.s.now c.args.at c.msb_field-ahead.result there c.msb_field-ahead.ensures c.args.k c.args.place
    (halves_of c.args.own.now) c.requires
    c.if-ahead-eq1.false c.if-ahead-eq1-2.true c.position.result c.position.ensures in
    record { fits = omega (arith, low, c.requires.room, length-halves c.args.own.now) }

pub add_photon-requires : goal.add_photon-requires
add_photon-requires c = let there = ltb-false _ _ (sym c.lacks_bits.ensures ∙ c.if-lacks_bits.false) in
    let low = one-low c.args.s.now c.args.at c.msb_field-ahead.result there c.msb_field-ahead.ensures c.args.k c.args.place
    (halves_of c.args.own.now) c.requires
    c.if-ahead-eq1.false c.if-ahead-eq1-2.true c.position.result c.position.ensures in record {
      i_in_bounds = omega (arith, low, c.requires.room, length-halves c.args.own.now);
      i_bound = first_fits (msb_bits_of c.args.s.now) c.args.k (c.args.at + 3) c.args.place (halves_of c.args.own.now) c.requires
          c.position.result low;
    }

pub returns-then-ahead-eq1-2 : goal.returns-then-ahead-eq1-2
returns-then-ahead-eq1-2 c = let there = ltb-false _ _ (sym c.lacks_bits.ensures ∙ c.if-lacks_bits.false) in
    ahead-one c.args.s.now c.args.at c.msb_field-ahead.result there c.msb_field-ahead.ensures c.args.k c.args.place
    (halves_of c.args.own.now) c.requires
    c.if-ahead-eq1.false c.if-ahead-eq1-2.true c.position.result c.position.ensures
    (halves_of c.add_photon.new.counts) c.add_photon.ensures

pub overflow_add-place-then-ahead-eq1-3 : goal.overflow_add-place-then-ahead-eq1-3
overflow_add-place-then-ahead-eq1-3 c = let there = ltb-false _ _
    (sym c.lacks_bits.ensures ∙
    c.if-lacks_bits.false) in
    let low = first-low c.args.s.now c.args.at c.msb_field-ahead.result there c.msb_field-ahead.ensures c.args.k c.args.place
    (halves_of c.args.own.now) c.requires
    c.if-ahead-eq1.false c.if-ahead-eq1-2.false c.if-ahead-eq1-3.true
    c.position-then-ahead-eq1-3.result c.position-then-ahead-eq1-3.ensures in
    record { fits = omega (arith, low, c.requires.room, length-halves c.args.own.now) }

pub add_photon-requires-then-ahead-eq1-3 : goal.add_photon-requires-then-ahead-eq1-3
add_photon-requires-then-ahead-eq1-3 c = let there = ltb-false _ _ (sym c.lacks_bits.ensures ∙ c.if-lacks_bits.false) in
    let low = first-low c.args.s.now c.args.at c.msb_field-ahead.result there c.msb_field-ahead.ensures c.args.k c.args.place
    (halves_of c.args.own.now) c.requires
    c.if-ahead-eq1.false c.if-ahead-eq1-2.false c.if-ahead-eq1-3.true c.position-then-ahead-eq1-3.result c.position-then-ahead-eq1-3.ensures in record {
      i_in_bounds = omega (arith, low, c.requires.room, length-halves c.args.own.now);
      i_bound = first_fits (msb_bits_of c.args.s.now) c.args.k (c.args.at + 3) c.args.place (halves_of c.args.own.now) c.requires
          c.position-then-ahead-eq1-3.result low;
    }

pub overflow_add-place-then-ahead-eq1-3-2 : goal.overflow_add-place-then-ahead-eq1-3-2
overflow_add-place-then-ahead-eq1-3-2 c = let there = ltb-false _ _
    (sym c.lacks_bits.ensures ∙
    c.if-lacks_bits.false) in
    let low = second-low c.args.s.now c.args.at c.msb_field-ahead.result there c.msb_field-ahead.ensures c.args.k c.args.place
    (halves_of c.args.own.now) c.requires
    c.if-ahead-eq1.false
    c.if-ahead-eq1-2.false
    c.if-ahead-eq1-3.true c.position-then-ahead-eq1-3.result
    c.position-then-ahead-eq1-3.ensures
    (halves_of c.add_photon-then-ahead-eq1-3.new.counts) c.add_photon-then-ahead-eq1-3.ensures
    c.position-then-ahead-eq1-3-2.result c.position-then-ahead-eq1-3-2.ensures in
    record { fits = omega (arith, low, c.requires.room, length-halves c.args.own.now) }

pub add_photon-requires-then-ahead-eq1-3-2 : goal.add_photon-requires-then-ahead-eq1-3-2
add_photon-requires-then-ahead-eq1-3-2 c = let there = ltb-false _ _ (sym c.lacks_bits.ensures ∙ c.if-lacks_bits.false) in
    let low = second-low c.args.s.now c.args.at c.msb_field-ahead.result there c.msb_field-ahead.ensures c.args.k c.args.place
    (halves_of c.args.own.now) c.requires
    c.if-ahead-eq1.false c.if-ahead-eq1-2.false c.if-ahead-eq1-3.true c.position-then-ahead-eq1-3.result c.position-then-ahead-eq1-3.ensures
    (halves_of c.add_photon-then-ahead-eq1-3.new.counts) c.add_photon-then-ahead-eq1-3.ensures c.position-then-ahead-eq1-3-2.result
    c.position-then-ahead-eq1-3-2.ensures in record {
      i_in_bounds = omega (arith, low, c.requires.room, length-halves c.args.own.now, c.add_photon-then-ahead-eq1-3.auto.counts);
      i_bound = second-room c.args.s.now c.args.at c.msb_field-ahead.result there c.msb_field-ahead.ensures c.args.k c.args.place
          (halves_of c.args.own.now) c.requires
          c.if-ahead-eq1.false c.if-ahead-eq1-2.false c.if-ahead-eq1-3.true c.position-then-ahead-eq1-3.result c.position-then-ahead-eq1-3.ensures
          (halves_of c.add_photon-then-ahead-eq1-3.new.counts) c.add_photon-then-ahead-eq1-3.ensures
          c.position-then-ahead-eq1-3-2.result c.position-then-ahead-eq1-3-2.ensures;
    }

pub returns-then-ahead-eq1-3 : goal.returns-then-ahead-eq1-3
returns-then-ahead-eq1-3 c = let there = ltb-false _ _ (sym c.lacks_bits.ensures ∙ c.if-lacks_bits.false) in
    ahead-two c.args.s.now c.args.at c.msb_field-ahead.result there c.msb_field-ahead.ensures c.args.k c.args.place
    (halves_of c.args.own.now) c.requires
    c.if-ahead-eq1.false c.if-ahead-eq1-2.false c.if-ahead-eq1-3.true c.position-then-ahead-eq1-3.result c.position-then-ahead-eq1-3.ensures
    (halves_of c.add_photon-then-ahead-eq1-3.new.counts) c.add_photon-then-ahead-eq1-3.ensures c.position-then-ahead-eq1-3-2.result
    c.position-then-ahead-eq1-3-2.ensures
    (halves_of c.add_photon-then-ahead-eq1-3-2.new.counts) c.add_photon-then-ahead-eq1-3-2.ensures

pub returns : goal.returns
returns c = let there = ltb-false _ _ (sym c.lacks_bits.ensures ∙ c.if-lacks_bits.false) in
    ahead-each c.args.s.now c.args.at c.msb_field-ahead.result there c.msb_field-ahead.ensures c.args.k c.args.place
    (halves_of c.args.own.now) c.requires
    c.if-ahead-eq1.false c.if-ahead-eq1-2.false c.if-ahead-eq1-3.false (halves_of c.each_pixel.new.own)
    (as_stepped c.each_pixel.result)
    c.each_pixel.ensures
