-- `delta_reader::row::row_read` meets its contract. Assumes nothing.
use Rattle.std.proofs.Common.{sym, refl}
use Rattle.std.proofs.lemmas.Result.{err_from_is_err_and}
use Rattle.answer.specs.Outcome.Laws.{given-first, given-next}
use Rattle.delta_format.specs.Calls.{Arrays}
use Rattle.delta_reader.proofs.row.Laws.{refusal_some, first-is, row_room, room-again, arrays-are, walked-at, refused-first, refused-walk, done-walk}
use Rattle.delta_reader.proofs.row.row_read.Goals as goal

pub returns-in_err-data : goal.returns-in_err-data
returns-in_err-data c = let arrays : Arrays = record {
  data_bits = c.args.data_bits;
  data_bytes = c.args.«data».now;
  value_bits = c.args.value_bits;
  value_bytes = c.args.value.now;
  repeat_bytes = c.args.repeat.now;
} in
    let e = err_from_is_err_and c.from_residual.result c.from_residual.ensures.1 in
    let some = refusal_some c.in_err-data.field-0.0 in
    rw (e.1, e.2)
    (refused-first c.args.n arrays c.args.first c.args.row.now c.args.marks.now
    (first-is c.args.n arrays c.args.row.now c.args.marks.now (given-first _ _ c.in_err-data.ensures.number some)) some)

pub returns-in_err-value : goal.returns-in_err-value
returns-in_err-value c = let arrays : Arrays = record {
  data_bits = c.args.data_bits;
  data_bytes = c.args.«data».now;
  value_bits = c.args.value_bits;
  value_bytes = c.args.value.now;
  repeat_bytes = c.args.repeat.now;
} in
    let e = err_from_is_err_and c.from_residual-in_err-value.result c.from_residual-in_err-value.ensures.1 in
    let some = refusal_some c.in_err-value.field-0.0 in
    rw (e.1, e.2)
    (refused-first c.args.n arrays c.args.first c.args.row.now c.args.marks.now
    (first-is c.args.n arrays c.args.row.now c.args.marks.now (given-next (sym c.in_ok-data.ensures.number) (given-first _ _ c.in_err-value.ensures.number some))) some)

pub returns-in_err-judge_room : goal.returns-in_err-judge_room
returns-in_err-judge_room c = let arrays : Arrays = record {
  data_bits = c.args.data_bits;
  data_bytes = c.args.«data».now;
  value_bits = c.args.value_bits;
  value_bytes = c.args.value.now;
  repeat_bytes = c.args.repeat.now;
} in
    let e = err_from_is_err_and c.from_residual-in_err-judge_room.result c.from_residual-in_err-judge_room.ensures.1 in
    let some = refusal_some c.in_err-judge_room.field-0.0 in
    rw (e.1, e.2)
    (refused-first c.args.n arrays c.args.first c.args.row.now c.args.marks.now
    (first-is c.args.n arrays c.args.row.now c.args.marks.now (given-next (sym c.in_ok-data.ensures.number) (given-next (sym c.in_ok-value.ensures.number) c.in_err-judge_room.ensures))) some)

pub walk-requires : goal.walk-requires
walk-requires c = let arrays : Arrays = record {
  data_bits = c.args.data_bits;
  data_bytes = c.args.«data».now;
  value_bits = c.args.value_bits;
  value_bytes = c.args.value.now;
  repeat_bytes = c.args.repeat.now;
} in
    let none = sym (first-is c.args.n arrays c.args.row.now c.args.marks.now
    (given-next (sym c.in_ok-data.ensures.number) (given-next (sym c.in_ok-value.ensures.number) c.in_ok-judge_room.ensures))) in
    row_room c.args.n arrays c.args.row.now c.args.marks.now none

pub returns-in_err-walk : goal.returns-in_err-walk
returns-in_err-walk c = let arrays : Arrays = record {
  data_bits = c.args.data_bits;
  data_bytes = c.args.«data».now;
  value_bits = c.args.value_bits;
  value_bytes = c.args.value.now;
  repeat_bytes = c.args.repeat.now;
} in
    let none = sym (first-is c.args.n arrays c.args.row.now c.args.marks.now
    (given-next (sym c.in_ok-data.ensures.number) (given-next (sym c.in_ok-value.ensures.number) c.in_ok-judge_room.ensures))) in
    let same = arrays-are c.args.repeat.now c.in_ok-data.ensures.bits c.in_ok-data.ensures.bytes c.in_ok-value.ensures.bits c.in_ok-value.ensures.bytes in
    let e = err_from_is_err_and c.from_residual-in_err-walk.result c.from_residual-in_err-walk.ensures.1 in
    rw (e.1, e.2)
    (refused-walk c.args.n arrays c.args.first c.args.row.now c.args.marks.now none (refusal_some c.in_err-walk.field-0.0)
    (walked-at c.args.first same c.in_err-walk.ensures))

pub walk-requires-2 : goal.walk-requires-2
walk-requires-2 c = let arrays : Arrays = record {
  data_bits = c.args.data_bits;
  data_bytes = c.args.«data».now;
  value_bits = c.args.value_bits;
  value_bytes = c.args.value.now;
  repeat_bytes = c.args.repeat.now;
} in
    let none = sym (first-is c.args.n arrays c.args.row.now c.args.marks.now
    (given-next (sym c.in_ok-data.ensures.number) (given-next (sym c.in_ok-value.ensures.number) c.in_ok-judge_room.ensures))) in
    room-again (row_room c.args.n arrays c.args.row.now c.args.marks.now none) (record { row = c.walk.auto.row; marks = c.walk.auto.marks })

pub returns : goal.returns
returns c = let arrays : Arrays = record {
  data_bits = c.args.data_bits;
  data_bytes = c.args.«data».now;
  value_bits = c.args.value_bits;
  value_bytes = c.args.value.now;
  repeat_bytes = c.args.repeat.now;
} in
    let none = sym (first-is c.args.n arrays c.args.row.now c.args.marks.now
    (given-next (sym c.in_ok-data.ensures.number) (given-next (sym c.in_ok-value.ensures.number) c.in_ok-judge_room.ensures))) in
    let same = arrays-are c.args.repeat.now c.in_ok-data.ensures.bits c.in_ok-data.ensures.bytes c.in_ok-value.ensures.bits c.in_ok-value.ensures.bytes in
    done-walk c.args.n arrays c.args.first c.args.row.now c.args.marks.now none refl
    (walked-at c.args.first same c.in_ok-walk.ensures)
    (walked-at c.args.first same c.walk-2.ensures)
