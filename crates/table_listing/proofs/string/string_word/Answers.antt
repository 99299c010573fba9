-- `table_listing::string::string_word`: inside the table and past it. Assumes nothing.
use Prim.Native.Nat.{◌+◌}
use Rattle.table_listing.proofs.string.Laws.{word_none}
use Rattle.table_listing.proofs.string.string_word.Goals as goal

pub returns : goal.returns
returns c = word_none c.args.table.now (3 + c.args.place) c.if-i-table.false
