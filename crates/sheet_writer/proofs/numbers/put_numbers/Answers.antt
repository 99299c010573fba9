use Prim.Native.Nat.{ℕ, ◌+◌, ◌≤◌, ◌<◌, ◌/◌}
use native.Mathlib.Omega.{arith}
use mathlib.Core.Path.{◌≡◌}
use mathlib.Core.List.{List}
use lib.ListN.{length, get_or}
use lib.IntN.{ℤ, pos}
use lib.Signed.{mag}
use mir.Syntax.{w32}
use mir.Val.{to_z, of_z}
use borrow.Author.Rules.{rules}
use Rattle.bitstream.specs.Memory.Part.{part_from, with_part}
use Rattle.answer.specs.declared.Answer.{Answer}
use Rattle.answer.specs.Outcome.{outcome}
use Rattle.adaptive.specs.Calls.{signed_written}
use Rattle.sheet_format.specs.Line.{line_bytes}
use Rattle.sheet_writer.proofs.numbers.PutNumbersTurn.{PuttingNumbers, putting-none, putting-room, putting-more, putting-all}
use Rattle.sheet_format.specs.Kind.ContourLine.{given_numbers}
use Rattle.sheet_writer.proofs.number.Laws.{length-given, wrote-number}
use Rattle.sheet_writer.proofs.numbers.put_numbers.Goals as goal

pub loop-i-init : goal.loop-i-init
loop-i-init c = putting-none (given_numbers c.args.content.now) c.args.out.now

-- a number is put as it is held
put-next : (x m o : List ℕ) (at i : ℕ) (v : ℤ) (r : Answer) (y : List ℕ) → PuttingNumbers (given_numbers x) m o at i
    → length (line_bytes (given_numbers x)) ≤ length m → i < length x / 4
    → mag v < 2147483648 → v ≡ get_or (given_numbers x) i (pos 0)
    → outcome r y ≡ signed_written (to_z w32 (of_z w32 v)) (part_from at o)
    → length (with_part at o y) ≡ length o
    → PuttingNumbers (given_numbers x) m (with_part at o y) (at + r.count) (i + 1)
put-next x m o at i v r y p room h small is put same =
    let vs = given_numbers x in
    let more : i < length vs = omega (arith, length-given x) in
    let wrote = wrote-number v (part_from at o) y r small put (rw is (putting-room vs m o at i p room more)) in
    putting-more vs m o at i p room more y r (rw is at wrote) same

pub loop-i-preserved : goal.loop-i-preserved
loop-i-preserved c =
    put-next c.args.content.now c.args.out.now c.loop-i.out c.loop-i.at c.loop-i.i c.number_at-value.result c.write_signed-put.result
    c.write_signed-put.new.out c.loop-i.invariant c.requires c.loop-i-test.true c.number_at-value.type_inv c.number_at-value.ensures
    c.write_signed-put.ensures (search rules)

pub returns : goal.returns
returns c = putting-all (given_numbers c.args.content.now) c.args.out.now c.loop-i.out c.loop-i.at c.loop-i.i
    c.loop-i.invariant (omega (arith, length-given c.args.content.now))
