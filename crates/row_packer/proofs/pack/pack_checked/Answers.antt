-- `row_packer::pack::pack_checked` meets its contract: the refusals 1, 2 and 3. Assumes nothing.
use borrow.Author.Rules.{rules}
use native.Mathlib.Omega.{arith}
use Prim.Native.Nat.{ℕ}
use mathlib.Core.Path.{◌≡◌, refl, ap, ◌∙◌}
use Rattle.std.specs.Prelude.{Result, Err}
use Rattle.answer.specs.Outcome.{outcome}
use Rattle.answer.specs.Refusal.{as_answer}
use Rattle.answer.specs.Refusal.Laws.{refusal_not_done}
use Rattle.row_packer.proofs.Laws.{checked_zero, checked-count, packed-table}
use Rattle.row_packer.proofs.pack.pack_checked.Goals as goal

pub returns-in_err-most : goal.returns-in_err-most
returns-in_err-most c = let refusal = c.in_err-most.field-0.0 in
    let is : c.from_residual.result ≡ Err refusal = search rules in
    ap (λ (r : Result ℕ _). outcome (as_answer r) c.args.words.now) is
    ∙ packed-table c.args.table.now c.args.pixels.now c.args.words.now c.in_err-most.ensures (λ z. omega (arith, refusal_not_done refusal))

pub pack_row-requires : goal.pack_row-requires
pack_row-requires c = record {
  table_value = checked_zero c.args.table.now c.in_ok-most.ensures refl;
  most_value = checked-count c.args.table.now c.in_ok-most.ensures refl;
}
