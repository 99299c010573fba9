-- `sheet_to_pgm::reason::check_shape` meets its contract. Assumes nothing.
use Rattle.sheet_to_pgm.specs.Written.Laws.{reason-none, found-padded}
use Rattle.sheet_to_pgm.proofs.reason.check_shape.Goals as goal

pub say_reason-requires : goal.say_reason-requires
say_reason-requires c = reason-none c.requires c.args.pads c.if-shape-eq0.true

pub returns-in-Some : goal.returns-in-Some
returns-in-Some c = found-padded c.requires c.if-shape-eq0.false c.args.pads _ c.in-Some.is
