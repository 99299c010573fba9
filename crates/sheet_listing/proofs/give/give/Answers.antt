-- `sheet_listing::give::give`: the line fits, or not. Assumes nothing.
use Rattle.sheet_listing.specs.Listed.Laws.{given-not, given-put}
use Rattle.sheet_listing.proofs.give.give.Goals as goal

pub returns-then-out-line : goal.returns-then-out-line
returns-then-out-line c = given-not c.args.line.now c.args.out.now c.if-out-line.true

pub returns : goal.returns
returns c = given-put c.args.line.now c.args.out.now c.if-out-line.false c.put_bytes.ensures
