-- `row_packer::pack::pack_row` meets its contract: the refusals 11, 4 and 5, and the row written. Assumes nothing.
use borrow.Author.Rules.{rules}
use native.Mathlib.Omega.{arith}
use mathlib.Core.Path.{◌≡◌, sym, ap, ◌∙◌}
use Prim.Native.Nat.{ℕ}
use mathlib.Core.List.{List}
use Rattle.std.proofs.Common.{Bor}
use Rattle.std.specs.Prelude.{Result, Err}
use Rattle.answer.specs.Outcome.{outcome}
use Rattle.answer.specs.Refusal.{as_answer}
use Rattle.answer.specs.Refusal.Laws.{refusal_not_done}
use Rattle.row_packer.proofs.Laws.{packed-judged, packed-full, packed_all, packed-same}
use Rattle.row_packer.proofs.pack.pack_row.Goals as goal

now : {a b : Bor (List ℕ)} → a ≡ b → a.now ≡ b.now
now e = ap (λ (x : Bor (List ℕ)). x.now) e

pub returns-in_err-row : goal.returns-in_err-row
returns-in_err-row c = let refusal = c.in_err-row.field-0.0 in
    let is : c.from_residual.result ≡ Err refusal = search rules in
    ap (λ (r : Result ℕ _). outcome (as_answer r) c.args.words.now) is
    ∙ packed-judged c.args.table.now c.args.pixels.now c.args.words.now c.requires.table_value c.in_err-row.ensures.number
    (λ z. omega (arith, refusal_not_done refusal))

pub returns-then-too_short : goal.returns-then-too_short
returns-then-too_short c = packed-same _ (now c.of-table.ensures) (now c.in_ok-row.ensures.pixels)
    (packed-full c.of-table.result.bytes.now c.in_ok-row.row.pixels.now c.args.words.now c.of-table.result.accepted c.in_ok-row.row.few
    c.in_ok-row.row.low (sym c.if-too_short.true ∙ c.too_short.ensures))

pub returns : goal.returns
returns c = packed-same _ (now c.of-table.ensures) (now c.in_ok-row.ensures.pixels)
    (packed_all c.of-table.result.bytes.now c.in_ok-row.row.pixels.now c.args.words.now c.of-table.result.accepted c.in_ok-row.row.few
    c.in_ok-row.row.low (sym c.if-too_short.false ∙ c.too_short.ensures) c.write.ensures)
