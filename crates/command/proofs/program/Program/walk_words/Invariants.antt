-- `command::program::Program::walk_words` is safe and ends: the measure is the arguments that are left. Assumes nothing.
use Prim.Native.Nat.{◌-◌, ◌<◌}
use Rattle.command.proofs.program.Program.walk_words.Given as goal

abbrev pub invariant-loop-at : goal.invariant-loop-at
invariant-loop-at l = l.at.count < l.at.next

abbrev pub decreases-loop-at : goal.decreases-loop-at
decreases-loop-at l = l.arguments - l.at.next
