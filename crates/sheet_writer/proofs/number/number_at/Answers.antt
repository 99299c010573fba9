-- `sheet_writer::number::number_at` meets its contract: the word is read, and then its value taken. Assumes nothing.
use mathlib.Core.Path.{◌∙◌}
use Rattle.sheet_writer.proofs.number.Laws.{same-i32, given-at}
use Rattle.sheet_writer.proofs.number.number_at.Goals as goal

pub returns : goal.returns
returns c = same-i32 c.signed_of.result c.signed_of.type_inv
    ∙ c.signed_of.ensures
    ∙ given-at c.args.content.now c.args.i c.read_u32.result c.requires
    c.read_u32.ensures
