use native.Mathlib.Omega.{arith}
use borrow.Author.Rules.{rules}
use Rattle.row_unpacker.proofs.search.Laws.{words-most}
use Rattle.row_unpacker.proofs.hints.fill.Goals as goal

pub overflow_cast-i : goal.overflow_cast-i
overflow_cast-i c = record { fits = omega (arith, words-most c.args.table.now c.requires) }

pub overflow_cast-i-else-len-le12 : goal.overflow_cast-i-else-len-le12
overflow_cast-i-else-len-le12 c = record { fits = omega (arith, words-most c.args.table.now c.requires) }

pub link-requires : goal.link-requires
link-requires c = record { len_bound = search rules; i_bound = omega (arith, words-most c.args.table.now c.requires) }
