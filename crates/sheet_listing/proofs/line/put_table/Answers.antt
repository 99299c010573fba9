-- `sheet_listing::line::put_table`: the header is there, and the check answers M. Assumes nothing.
use native.Mathlib.Omega.{arith}
use Rattle.sheet_listing.specs.Line.Laws.{header-there, checked-most}
use borrow.Author.Rules.{rules}
use Rattle.sheet_listing.proofs.line.put_table.Goals as goal

pub word_at-id-requires : goal.word_at-id-requires
word_at-id-requires c = omega (arith, header-there c.args.table.now c.requires.table_value)

pub low_limit-low-requires : goal.low_limit-low-requires
low_limit-low-requires c = header-there c.args.table.now c.requires.table_value

pub table_size-size-requires : goal.table_size-size-requires
table_size-size-requires c = header-there c.args.table.now c.requires.table_value

pub returns : goal.returns
returns c = let worst = checked-most c.args.table.now c.requires.table_value in
    record { put = rw (c.check-checked.ensures, worst, c.word_at-id.ensures, c.low_limit-low.ensures, c.table_size-size.ensures) at c.put_table_line.ensures.put; most = search rules }
