-- `table_shelf::put::put_lowest` meets its contract. Assumes nothing.
use Rattle.std.proofs.Common.{sym, arith, ltb-true}
use Rattle.std.proofs.lemmas.Result.{err_from_is_err_and}
use Rattle.shelf_format.proofs.Calls.Laws.{refusal_some}
use Rattle.table_shelf.proofs.put.Laws.{put-before, long, party, table, put_full, put-done}
use Rattle.table_shelf.proofs.put.put_lowest.Goals as goal

pub returns-in_err-judge_put : goal.returns-in_err-judge_put
returns-in_err-judge_put c =
    let e = err_from_is_err_and c.from_residual.result c.from_residual.ensures.1 in
    rw (e.1, e.2)
    (put-before c.args.shelf.now c.args.party c.args.table.now (c.in_err-judge_put.ensures) (refusal_some c.in_err-judge_put.field-0.0))

pub first_free-requires-clause-party_value : goal.first_free-requires-clause-party_value
first_free-requires-clause-party_value c = party c.args.shelf.now c.args.party c.args.table.now (sym (c.in_ok-judge_put.ensures))

pub returns-in_default : goal.returns-in_default
returns-in_default c = put_full c.args.shelf.now c.args.party c.args.table.now (sym (c.in_ok-judge_put.ensures)) (c.in_default.ensures)

pub overflow_mul-place : goal.overflow_mul-place
overflow_mul-place c = omega (arith, ltb-true c.args.party 2 (party c.args.shelf.now c.args.party c.args.table.now (sym (c.in_ok-judge_put.ensures))))

pub overflow_add-place : goal.overflow_add-place
overflow_add-place c = omega (arith, ltb-true c.args.party 2 (party c.args.shelf.now c.args.party c.args.table.now (sym (c.in_ok-judge_put.ensures))))

pub overflow_add-place-2 : goal.overflow_add-place-2
overflow_add-place-2 c = omega (
  arith,
  ltb-true c.args.party 2 (party c.args.shelf.now c.args.party c.args.table.now (sym (c.in_ok-judge_put.ensures))),
  (c.in-Some.ensures).0,
)

pub fill_place-requires-clause-place_in_bounds : goal.fill_place-requires-clause-place_in_bounds
fill_place-requires-clause-place_in_bounds c =
    let none = sym (c.in_ok-judge_put.ensures) in
    omega (
      arith,
      long c.args.shelf.now c.args.party c.args.table.now none,
      ltb-true c.args.party 2 (party c.args.shelf.now c.args.party c.args.table.now none),
      (c.in-Some.ensures).0,
    )

pub fill_place-requires-clause-table_len_bound : goal.fill_place-requires-clause-table_len_bound
fill_place-requires-clause-table_len_bound c = table c.args.shelf.now c.args.party c.args.table.now (sym (c.in_ok-judge_put.ensures))

pub returns : goal.returns
returns c = put-done c.args.shelf.now c.args.party c.args.table.now (sym (c.in_ok-judge_put.ensures)) (c.in-Some.ensures).1
    (c.in-Some.ensures).0 c.fill_place.ensures
