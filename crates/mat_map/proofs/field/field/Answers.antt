-- `field::field`: 19 where the bits end, or a field. Assumes nothing.
use Rattle.std.proofs.Common.{refl, sym, ◌∙◌, ltb-false}
use Rattle.mat_map.specs.Step.Laws.{field-short, field-got}
use Rattle.mat_map.proofs.field.field.Goals as goal

pub returns-then-lacks_bits : goal.returns-then-lacks_bits
returns-then-lacks_bits c =
    field-short c.args.s.now c.args.at c.args.n c.requires.n_nonzero _ (sym c.if-lacks_bits.true ∙ c.lacks_bits.ensures) refl

pub msb_field-value-requires : goal.msb_field-value-requires
msb_field-value-requires c =
    record { n_bound = c.requires.n_bound; n_bound_2 = ltb-false _ _ (sym c.lacks_bits.ensures ∙ c.if-lacks_bits.false) }

pub returns : goal.returns
returns c =
    let there = ltb-false _ _ (sym c.lacks_bits.ensures ∙ c.if-lacks_bits.false) in
    field-got c.args.s.now c.args.at c.args.n c.msb_field-value.result there c.msb_field-value.ensures
