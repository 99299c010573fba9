-- `unpack::judge`: the table's number, 11, 5, or none. Assumes nothing.
use borrow.Author.Rules.{rules}
use native.Mathlib.Omega.{arith}
use mathlib.Core.Path.{◌≡◌, ap, ◌∙◌}
use Rattle.std.specs.Prelude.{Err}
use Rattle.answer.specs.Refusal.{result_number}
use Rattle.answer.specs.Refusal.Laws.{refusal_not_done}
use Rattle.row_format.proofs.Calls.Laws.{answer-number}
use Rattle.row_unpacker.proofs.unpack.Laws.{accepted, judged-table, judged-many, judged-full, judged-none}
use Rattle.row_unpacker.proofs.unpack.judge.Goals as goal

pub returns-in_err-max_item_bits : goal.returns-in_err-max_item_bits
returns-in_err-max_item_bits c = let refusal = c.in_err-max_item_bits.field-0.0 in
    let is : c.from_residual.result ≡ Err refusal = search rules in
    ap result_number is
    ∙ judged-table c.args.table.now c.args.n c.args.room (answer-number c.args.table.now c.in_err-max_item_bits.ensures)
    (λ z. omega (arith, refusal_not_done refusal))

pub returns-then-n-gt-MAX_PIXELS : goal.returns-then-n-gt-MAX_PIXELS
returns-then-n-gt-MAX_PIXELS c =
    judged-many c.args.table.now c.args.n c.args.room (accepted c.args.table.now c.in_ok-max_item_bits.ensures) c.if-n-gt-MAX_PIXELS.true

pub returns-then-room-n : goal.returns-then-room-n
returns-then-room-n c =
    judged-full c.args.table.now c.args.n c.args.room (accepted c.args.table.now c.in_ok-max_item_bits.ensures) c.if-n-gt-MAX_PIXELS.false
    c.if-room-n.true

pub returns : goal.returns
returns c =
    judged-none c.args.table.now c.args.n c.args.room (accepted c.args.table.now c.in_ok-max_item_bits.ensures) c.if-n-gt-MAX_PIXELS.false
    c.if-room-n.false
