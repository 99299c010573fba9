-- `row_packer::room::room_words` meets its contract: the refusals 1, 2, 3 and 11, and n times M in words. Assumes nothing.
use borrow.Author.Rules.{rules}
use native.Mathlib.Omega.{arith}
use mathlib.Core.Path.{◌≡◌, refl, ap, ◌∙◌}
use Rattle.std.specs.Prelude.{Err}
use Rattle.answer.specs.Refusal.{as_answer}
use Rattle.answer.specs.Refusal.Laws.{refusal_not_done}
use Rattle.row_packer.proofs.Laws.{checked_zero, checked-count, room-table, room-many, room_most, room-done}
use Rattle.row_packer.proofs.room.room_words.Goals as goal

pub returns-in_err-most : goal.returns-in_err-most
returns-in_err-most c = let refusal = c.in_err-most.field-0.0 in
    let is : c.from_residual.result ≡ Err refusal = search rules in
    ap as_answer is ∙ room-table c.args.table.now c.args.n c.in_err-most.ensures (λ z. omega (arith, refusal_not_done refusal))

pub returns-then-n-gt-MAX_PIXELS : goal.returns-then-n-gt-MAX_PIXELS
returns-then-n-gt-MAX_PIXELS c =
    room-many c.args.table.now c.args.n (checked_zero c.args.table.now c.in_ok-most.ensures refl) c.if-n-gt-MAX_PIXELS.true

pub overflow_mul-result : goal.overflow_mul-result
overflow_mul-result c =
    let most = room_most c.args.table.now c.args.n (checked_zero c.args.table.now c.in_ok-most.ensures refl) c.if-n-gt-MAX_PIXELS.false
    (checked-count c.args.table.now c.in_ok-most.ensures refl) in
    record { fits = omega (arith, most) }

pub overflow_add-result : goal.overflow_add-result
overflow_add-result c =
    let most = room_most c.args.table.now c.args.n (checked_zero c.args.table.now c.in_ok-most.ensures refl) c.if-n-gt-MAX_PIXELS.false
    (checked-count c.args.table.now c.in_ok-most.ensures refl) in
    record { fits = omega (arith, most) }

pub returns : goal.returns
returns c =
    room-done c.args.table.now c.args.n (checked_zero c.args.table.now c.in_ok-most.ensures refl) c.if-n-gt-MAX_PIXELS.false
    (checked-count c.args.table.now c.in_ok-most.ensures refl)
