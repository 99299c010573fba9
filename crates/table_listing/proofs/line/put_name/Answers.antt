-- `table_listing::line::put_name`: by the place. Assumes nothing.
use native.Mathlib.Omega.{arith}
use mir.Syntax.{w32}
use mir.Facts.{to_z-of_z}
use Rattle.bitstream.specs.Bits.{words_of}
use Rattle.table_listing.proofs.line.Laws.{name-raw, name-pixel, name-bias, name-entry}
use Rattle.table_listing.proofs.line.put_name.Goals as goal

pub returns-in-0-clause-put : goal.returns-in-0-clause-put
returns-in-0-clause-put c = rw (name-raw (words_of c.args.table.now) c.args.place c.in-0.is) at c.put_bytes.ensures

pub returns-in-1-clause-put : goal.returns-in-1-clause-put
returns-in-1-clause-put c = rw (name-pixel (words_of c.args.table.now) c.args.place c.in-1.is) at c.put_bytes-in-1.ensures

pub returns-in-2-clause-put : goal.returns-in-2-clause-put
returns-in-2-clause-put c = rw (name-bias (words_of c.args.table.now) c.args.place c.in-2.is) at c.put_bytes-in-2.ensures

pub returns-in_default-clause-put : goal.returns-in_default-clause-put
returns-in_default-clause-put c =
    let is = name-entry (words_of c.args.table.now) c.args.place (omega arith) in
    rw (to_z-of_z {w = w32} (record { sfits = c.difference_of.type_inv }), c.difference_of.ensures, is) at c.put_integer.ensures.put
