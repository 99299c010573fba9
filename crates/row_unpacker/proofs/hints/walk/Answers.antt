use native.Mathlib.Omega.{arith}
use Rattle.row_unpacker.proofs.search.Laws.{words-most}
use Rattle.row_unpacker.proofs.hints.walk.Goals as goal

pub bounds-hints-i : goal.bounds-hints-i
bounds-hints-i c = omega (arith, words-most c.args.table.now c.requires)
