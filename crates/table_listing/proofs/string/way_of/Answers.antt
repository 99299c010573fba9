-- `table_listing::string::way_of` meets its contract: the string ends, or goes on by its bit. Assumes nothing.
use Rattle.std.proofs.Common.{ap, sym, ◌∙◌, ◌+◌, ◌≡◌, arith}
use Rattle.bitstream.specs.Bits.{words_of}
use Rattle.table_listing.proofs.string.Laws.{way-word-ended, way-word-on}
use Rattle.table_listing.proofs.string.way_of.Goals as goal

pub returns-then-w-d : goal.returns-then-w-d
returns-then-w-d c = way-word-ended (words_of c.args.table.now) c.args.place c.args.d c.string_word-w.result c.string_word-w.ensures
    c.if-w-d.true

pub returns-then-bit_of-eq0 : goal.returns-then-bit_of-eq0
returns-then-bit_of-eq0 c = ap (1 +◌) (sym c.if-bit_of-eq0.true ∙ c.bit_of.ensures)
    ∙ way-word-on (words_of c.args.table.now) c.args.place c.args.d c.string_word-w.result c.string_word-w.ensures
    c.if-w-d.false

pub returns-else-bit_of-eq0 : goal.returns-else-bit_of-eq0
returns-else-bit_of-eq0 c = let one : 1 ≡ c.bit_of.result = omega (arith, c.bit_of.ensures, c.if-bit_of-eq0.false) in
    ap (1 +◌) (one ∙ c.bit_of.ensures)
    ∙ way-word-on (words_of c.args.table.now) c.args.place c.args.d c.string_word-w.result c.string_word-w.ensures
    c.if-w-d.false
