-- `delta_reader::element::Elements::with_width` meets its contract: so many bytes by those of an element. Assumes nothing.
use Rattle.delta_reader.specs.Offset.Laws.{elements-count, bytes-some, width_of}
use Rattle.delta_reader.proofs.element.Elements.with_width.Goals as goal

pub nonzero_div-whole-2 : goal.nonzero_div-whole-2
nonzero_div-whole-2 c = bytes-some (width_of c.args.bits c.requires)

pub invariant_of-result : goal.invariant_of-result
invariant_of-result c =
    record { width = c.requires; counted = elements-count c.args.bytes.now (width_of c.args.bits c.requires) }
