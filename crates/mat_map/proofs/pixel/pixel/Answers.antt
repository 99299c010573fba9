-- `pixel::pixel`: the fields of the bits ahead, where they are there. Assumes nothing.
use native.Mathlib.Omega.{arith}
use mathlib.Core.Path.{refl, sym, ◌∙◌}
use borrow.Author.Tests.{ltb-false}
use Rattle.mat_map.specs.Step.Ahead.{pixel-ahead-two, pixel-ahead-four, pixel-ahead-wide, pixel-ahead-bad}
use Rattle.mat_map.proofs.pixel.pixel.Goals as goal

pub msb_field-ahead-requires : goal.msb_field-ahead-requires
msb_field-ahead-requires c = record { n_bound = omega arith; n_bound_2 = ltb-false _ _ (sym c.lacks_bits.ensures ∙ c.if-lacks_bits.false) }

pub returns-then-two-lt3 : goal.returns-then-two-lt3
returns-then-two-lt3 c = let there = ltb-false _ _ (sym c.lacks_bits.ensures ∙ c.if-lacks_bits.false) in
    pixel-ahead-two c.args.s.now c.args.at c.msb_field-ahead.result there c.msb_field-ahead.ensures c.if-two-lt3.true

pub returns-then-four-lt15 : goal.returns-then-four-lt15
returns-then-four-lt15 c = let there = ltb-false _ _ (sym c.lacks_bits.ensures ∙ c.if-lacks_bits.false) in
    pixel-ahead-four c.args.s.now c.args.at c.msb_field-ahead.result there c.msb_field-ahead.ensures
    c.if-two-lt3.false c.if-four-lt15.true

pub returns-then-wide-gt17 : goal.returns-then-wide-gt17
returns-then-wide-gt17 c = let there = ltb-false _ _ (sym c.lacks_bits.ensures ∙ c.if-lacks_bits.false) in
    pixel-ahead-wide c.args.s.now c.args.at c.msb_field-ahead.result there c.msb_field-ahead.ensures
    c.if-two-lt3.false c.if-four-lt15.false c.if-wide-gt17.true

pub returns : goal.returns
returns c = let there = ltb-false _ _ (sym c.lacks_bits.ensures ∙ c.if-lacks_bits.false) in
    pixel-ahead-bad c.args.s.now c.args.at c.msb_field-ahead.result there c.msb_field-ahead.ensures
    c.if-two-lt3.false c.if-four-lt15.false c.if-wide-gt17.false _
    refl
