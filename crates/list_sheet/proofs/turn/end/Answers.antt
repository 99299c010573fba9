-- `list_sheet::turn::end` meets its contract: the last line stands at the front of the memory. Assumes nothing.
use Rattle.sheet_listing.specs.Line.{last_line}
use Rattle.sheet_listing.specs.Listed.Given.{given-count, given-line, given-within}
use Rattle.list_sheet.proofs.turn.end.Goals as goal

pub returns : goal.returns
returns c =
    let last = last_line c.args.number c.args.bit c.args.at.index c.args.at.rows in
    let given = c.list_end-given.ensures.given in
    let most = c.list_end-given.ensures.most in
    record {
      turn = rw (given-count last c.args.line.now c.requires given most);
      within = given-within last c.args.line.now c.requires given most;
      line = given-line last c.args.line.now c.requires given most;
    }
