-- `delta_reader::put::put_element` meets its contract. Assumes nothing.
use Rattle.delta_reader.specs.Puts.Laws.{puts_one}
use Rattle.delta_reader.proofs.put.put_element.Goals as goal

pub returns : goal.returns
returns c = puts_one c.args.row.now c.args.marks.now c.args.at c.args.v c.args.mark c.requires.at_in_bounds_2 c.put_u32.ensures
