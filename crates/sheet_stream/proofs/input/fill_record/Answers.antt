-- `sheet_stream::input::fill_record` meets its contract: what comes is what is held of a record. Assumes nothing.
use Rattle.std.proofs.Common.{ℕ, ◌≤◌, ◌≡◌, List, ◌++◌, take, drop, arith, length-take}
use Rattle.std.proofs.lemmas.Result.{err_from_is_err_and}
use Rattle.sheet_format.specs.Stream.{held_of}
use Rattle.sheet_format.proofs.Stream.Held.{held-short}
use Rattle.sheet_stream.proofs.input.fill_record.Goals as goal

-- the front of some memory, where it is short
held-front : (k : ℕ) (m : List ℕ) → k ≤ 4 → take k m ≡ held_of (take k m)
held-front k m h = held-short (take k m) (rw (length-take k m) (omega arith))

pub returns-in_err-front-clause-held_unread : goal.returns-in_err-front-clause-held_unread
returns-in_err-front-clause-held_unread c =
    let few : c.in_err-front.field-0.0.count ≤ 4 = omega (arith, c.in_err-front.ensures.err, length-take 4 c.args.bytes.now) in
    let p = err_from_is_err_and c.from_residual.result c.from_residual.ensures.1 in
    rw (p.1, p.2) (held-front c.in_err-front.field-0.0.count (c.fill.new.bytes ++ drop 4 c.args.bytes.now) few)

pub returns-then-front-lt4-clause-held : goal.returns-then-front-lt4-clause-held
returns-then-front-lt4-clause-held c = held-front c.in_ok-front.front (c.fill.new.bytes ++ drop 4 c.args.bytes.now) (omega arith)
