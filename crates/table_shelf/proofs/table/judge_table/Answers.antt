-- `table_shelf::table::judge_table` meets its contract: the number of packing no pixels is the table's. Assumes nothing.
use Rattle.std.proofs.Common.{◌≡◌, ◌≤◌, refl, sym, ap, ◌∙◌, arith}
use Rattle.row_format.specs.Table.{table_number}
use Rattle.row_format.proofs.Calls.Laws.{packed-nothing}
use Rattle.row_format.proofs.Theorems.Numbers.{table_number-in}
use Rattle.table_shelf.proofs.table.judge_table.Goals as goal

pub returns-in-0 : goal.returns-in-0
returns-in-0 c = sym c.in-0.is ∙ ap (λ o. o.answer.number) c.pack.ensures ∙ packed-nothing _ _ _ refl

pub returns-in-1 : goal.returns-in-1
returns-in-1 c = sym c.in-1.is ∙ ap (λ o. o.answer.number) c.pack.ensures ∙ packed-nothing _ _ _ refl

pub returns-in-2 : goal.returns-in-2
returns-in-2 c = sym c.in-2.is ∙ ap (λ o. o.answer.number) c.pack.ensures ∙ packed-nothing _ _ _ refl

pub returns-in_default : goal.returns-in_default
returns-in_default c =
    let is : c.pack.result.number ≡ table_number c.args.table.now = ap (λ o. o.answer.number) c.pack.ensures ∙ packed-nothing _ _ _ refl in
    let most : table_number c.args.table.now ≤ 3 =
    table_number-in (λ n. n ≤ 3) c.args.table.now (omega arith) (omega arith) (omega arith) (omega arith) in
    omega (arith, is, most)
