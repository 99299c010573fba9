use Prim.Native.Nat.{ℕ, ◌<◌, ◌+◌, ◌/◌}
use native.Mathlib.Omega.{arith}
use mathlib.Core.Path.{◌≡◌, ◌∙◌, ap}
use mathlib.Core.List.{List}
use lib.ListN.{length, get_or}
use lib.IntN.{ℤ, pos}
use lib.Signed.{mag}
use mir.Syntax.{w32}
use mir.Val.{to_z, of_z}
use Rattle.adaptive.specs.Number.{signed_type, shortest}
use Rattle.sheet_format.specs.Kind.ContourLine.{given_numbers}
use Rattle.sheet_writer.proofs.number.Laws.{same-i32, length-given}
use Rattle.sheet_writer.proofs.numbers.Laws.{NumbersReached, reached-none, reached-more, reached-most, reached-all}
use Rattle.sheet_writer.proofs.numbers.line_bytes.Goals as goal

pub loop-i-init : goal.loop-i-init
loop-i-init c = reached-none (given_numbers c.args.content.now)

-- a number's bytes are counted as it is held
counted : (x : List ℕ) (bytes i n : ℕ) (v : ℤ) → NumbersReached (given_numbers x) bytes i → i < length x / 4
    → mag v < 2147483648 → v ≡ get_or (given_numbers x) i (pos 0) → n ≡ length (shortest signed_type (to_z w32 (of_z w32 v)))
    → NumbersReached (given_numbers x) (bytes + n) (i + 1)
counted x bytes i n v r h small is size =
    reached-more (given_numbers x) i (omega (arith, length-given x)) bytes r n
    (size ∙ ap (λ z. length (shortest signed_type z)) (same-i32 v small ∙ is))

pub loop-i-preserved : goal.loop-i-preserved
loop-i-preserved c =
    counted c.args.content.now c.loop-i.bytes c.loop-i.i c.number_bytes-bytes.result c.number_at-value.result c.loop-i.invariant
    c.loop-i-test.true c.number_at-value.type_inv c.number_at-value.ensures c.number_bytes-bytes.ensures

pub overflow_add-bytes : goal.overflow_add-bytes
overflow_add-bytes c =
    let more =
    counted c.args.content.now c.loop-i.bytes c.loop-i.i c.number_bytes-bytes.result c.number_at-value.result c.loop-i.invariant
    c.loop-i-test.true c.number_at-value.type_inv c.number_at-value.ensures c.number_bytes-bytes.ensures in
    omega (arith, reached-most (given_numbers c.args.content.now) _ _ more)

pub returns : goal.returns
returns c = reached-all (given_numbers c.args.content.now) c.loop-i.bytes c.loop-i.i c.loop-i.invariant
    (omega (arith, length-given c.args.content.now))
