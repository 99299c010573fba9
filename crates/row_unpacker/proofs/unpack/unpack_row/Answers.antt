-- `unpack::unpack_row`: 10 where a stray bit is set, else the row is copied; a refused reading keeps the memory. Assumes nothing.
use native.Mathlib.Omega.{arith}
use mathlib.Core.Path.{sym, ap, ◌∙◌}
use Rattle.answer.specs.Refusal.{refusal_number}
use Rattle.row_unpacker.specs.Item.{numbered}
use Rattle.bitstream.specs.Bits.{words_of, stream}
use Rattle.row_format.specs.Reading.{read_items}
use Rattle.row_unpacker.proofs.unpack.Laws.{answers, row-stray, row-used, row_done_lem, row-refused, row-place}
use Rattle.row_unpacker.proofs.unpack.unpack_row.Goals as goal

pub overflow_cast-bits : goal.overflow_cast-bits
overflow_cast-bits c = let used = row-used (stream c.args.words.now) c.args.n c.args.pixels.now c.read_row.new.row
    c.read_row.result c.in-Ok.used c.in-Ok.is (words_of c.args.table.now) c.read_row.ensures in
    record { fits = omega (arith, used, c.requires.n_bound) }

pub returns-then-stray_bit : goal.returns-then-stray_bit
returns-then-stray_bit c = answers c.args.pixels.now c.refused.ensures ∙ row-stray (stream c.args.words.now) c.args.n c.args.pixels.now c.read_row.new.row
    c.read_row.result c.in-Ok.used c.in-Ok.is
    (read_items (words_of c.args.table.now) c.args.n (stream c.args.words.now)) c.read_row.ensures
    (sym c.if-stray_bit.true ∙ c.stray_bit.ensures)

pub overflow_cast-fault : goal.overflow_cast-fault
overflow_cast-fault c = let place = row-place (stream c.args.words.now) c.args.n c.args.pixels.now c.read_row.new.row
    c.read_row.result (refusal_number c.in-Err.fault.refusal) c.in-Err.fault.place (ap numbered c.in-Err.is)
    (words_of c.args.table.now) c.read_row.ensures in
    record { fits = omega (arith, place, c.requires.n_bound) }

pub returns-else-stray_bit : goal.returns-else-stray_bit
returns-else-stray_bit c = row_done_lem (stream c.args.words.now) c.args.n c.args.pixels.now c.read_row.new.row
    c.read_row.result c.in-Ok.used c.in-Ok.is (words_of c.args.table.now) c.read_row.ensures
    (sym c.if-stray_bit.false ∙ c.stray_bit.ensures) c.copy.new.to c.copy.ensures

pub returns-in-Err : goal.returns-in-Err
returns-in-Err c = answers c.args.pixels.now c.refused-in-Err.ensures ∙ row-refused (stream c.args.words.now) c.args.n c.args.pixels.now c.read_row.new.row
    c.read_row.result (refusal_number c.in-Err.fault.refusal) c.in-Err.fault.place (ap numbered c.in-Err.is)
    (words_of c.args.table.now) c.read_row.ensures
