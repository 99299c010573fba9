-- `unpack::unpack`: the refusals before the first item, and then the row's own outcome. Assumes nothing.
use native.Mathlib.Omega.{arith}
use mathlib.Core.Path.{sym, ap, ◌∙◌}
use Rattle.answer.specs.Refusal.{result_number}
use Rattle.answer.specs.Refusal.Laws.{refusal_not_done}
use Rattle.row_unpacker.proofs.unpack.Laws.{answers, unpacked-refused, readable, room-enough, unpacked-row}
use Rattle.row_unpacker.proofs.unpack.unpack.Goals as goal

pub unpack_row-requires : goal.unpack_row-requires
unpack_row-requires c = let asked =
    readable c.args.table.now c.args.words.now c.args.n c.args.pixels.now c.judge.ensures (ap result_number c.in-Ok.is) in
    record {
      table_value = asked.table;
      n_bound = asked.few;
      n_in_bounds = room-enough c.args.table.now c.args.words.now c.args.n c.args.pixels.now c.judge.ensures (ap result_number c.in-Ok.is);
    }

pub returns-in-Ok : goal.returns-in-Ok
returns-in-Ok c =
    unpacked-row c.args.table.now c.args.words.now c.args.n c.args.pixels.now c.judge.ensures (ap result_number c.in-Ok.is) _
    c.unpack_row.ensures

pub returns-in-Err : goal.returns-in-Err
returns-in-Err c =
    answers c.args.pixels.now c.refused.ensures
    ∙ unpacked-refused c.args.table.now c.args.words.now c.args.n c.args.pixels.now
    (ap result_number (sym c.in-Err.is) ∙ c.judge.ensures) (λ z. omega (arith, refusal_not_done c.in-Err.refusal))
