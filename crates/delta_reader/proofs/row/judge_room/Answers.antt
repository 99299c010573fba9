-- `delta_reader::row::judge_room` meets its contract. Assumes nothing.
use Rattle.std.proofs.Common.{◌/◌}
use lib.Dec.{ltb}
use Rattle.answer.specs.Outcome.{refuse_if}
use Rattle.delta_reader.proofs.row.Laws.{room-values, room-marks, room-both}
use Rattle.delta_reader.proofs.row.judge_room.Goals as goal

pub returns-then-row_len-n : goal.returns-then-row_len-n
returns-then-row_len-n c = room-values (c.args.row_len / 4) c.args.n (refuse_if (ltb c.args.marks_len c.args.n) 5) c.if-row_len-n.true

pub returns-then-marks_len-n : goal.returns-then-marks_len-n
returns-then-marks_len-n c = room-marks (c.args.row_len / 4) c.args.marks_len c.args.n c.if-row_len-n.false c.if-marks_len-n.true

pub returns : goal.returns
returns c = room-both (c.args.row_len / 4) c.args.marks_len c.args.n c.if-row_len-n.false c.if-marks_len-n.false
