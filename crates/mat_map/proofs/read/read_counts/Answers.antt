-- `read::read_counts`: a refusal keeps the memory, and else the map is copied. Assumes nothing.
use Rattle.std.proofs.Common.{arith, refl, sym}
use Rattle.std.specs.Prelude.{Ok, Err}
use Rattle.std.proofs.lemmas.Result.{err_from_is_err_and}
use Rattle.answer.specs.Outcome.Laws.{given-first, unequal_number-none, unequal_number-given}
use Rattle.answer.specs.Refusal.{refusal_number}
use Rattle.answer.specs.Refusal.Laws.{refusal_not_done}
use Rattle.mat_map.specs.Step.{as_stepped}
use Rattle.mat_map.specs.Step.Map.{dark-map, map-refused, map-done}
use Rattle.mat_map.proofs.Laws.{not_done}
use Rattle.mat_map.proofs.read.read_counts.Goals as goal

pub groups-requires-clause-dark : goal.groups-requires-clause-dark
groups-requires-clause-dark c = dark-map 32768 refl

pub returns-in_err-all : goal.returns-in_err-all
returns-in_err-all c =
    let p = err_from_is_err_and c.from_residual.result c.from_residual.ensures.1 in
    rw (p.1, p.2)
    (map-refused c.args.k c.args.total c.args.bytes.now c.args.counts.now _ c.groups.new.own (as_stepped (Err c.in_err-all.field-0.0))
    c.in_err-all.ensures (refusal_number c.in_err-all.field-0.0) (given-first _ _ refl (not_done c.in_err-all.field-0.0))
    (refusal_not_done c.in_err-all.field-0.0) _ refl)

pub returns-then-all-total : goal.returns-then-all-total
returns-then-all-total c =
    map-refused c.args.k c.args.total c.args.bytes.now c.args.counts.now _ c.groups.new.own (as_stepped (Ok c.in_ok-all.all))
    c.in_ok-all.ensures 21 (sym (unequal_number-given c.in_ok-all.all.value c.args.total 21 c.if-all-total.true)) (omega arith) _ refl

pub returns : goal.returns
returns c =
    map-done c.args.k c.args.total c.args.bytes.now c.args.counts.now _ c.groups.new.own (as_stepped (Ok c.in_ok-all.all))
    c.in_ok-all.ensures 0 (sym (unequal_number-none c.in_ok-all.all.value c.args.total 21 c.if-all-total.false))
    refl (dark-map 32768 refl) c.copy_counts.new.counts c.copy_counts.ensures
