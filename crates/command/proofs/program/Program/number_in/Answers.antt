-- `command::program::Program::number_in`: what was read is at most `most`. Assumes nothing.
use Rattle.text.specs.Number.Laws.{number_in-most}
use Rattle.command.proofs.program.Program.number_in.Goals as goal

pub returns-else-is_none : goal.returns-else-is_none
returns-else-is_none c = rw c.read_decimal-read.ensures (number_in-most c.args.most c.args.word.now)
