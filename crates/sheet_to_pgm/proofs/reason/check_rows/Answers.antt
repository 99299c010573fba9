-- `sheet_to_pgm::reason::check_rows` meets its contract. Assumes nothing.
use Rattle.sheet_to_pgm.specs.Written.Laws.{found-whole, fault-missing, fault-unequal}
use Rattle.sheet_to_pgm.proofs.reason.check_rows.Goals as goal

pub say_missing-requires : goal.say_missing-requires
say_missing-requires c = fault-missing c.requires.shape_found c.requires.fact _ (rw c.in-Missing.is at c.in-Some.is)

pub say_unequal-requires : goal.say_unequal-requires
say_unequal-requires c = fault-unequal c.requires.shape_found c.requires.fact _ _ _ (rw c.in-Unequal.is at c.in-Some.is)

pub returns-in_default : goal.returns-in_default
returns-in_default c = found-whole c.requires.shape_found c.requires.fact c.in_default.is
