-- `sheet_reader::read_record` meets its contract: the room asked for is what is lent. Assumes nothing.
use Prim.Native.Nat.{ℕ}
use native.Mathlib.Omega.{arith}
use mathlib.Core.Path.{◌≡◌}
use mathlib.Core.List.{List}
use lib.ListN.{length}
use Rattle.answer.specs.Outcome.{outcome}
use Rattle.sheet_format.specs.declared.RecordRead.{RecordRead}
use Rattle.sheet_format.specs.Context.{Context}
use Rattle.sheet_format.specs.Reading.{record_read}
use Rattle.sheet_reader.specs.Leaves.{RecordLeaves}
use Rattle.sheet_reader.proofs.read_record.Goals as goal

answer-read : {c : Context} {r m : List ℕ} {x : RecordRead} {m' : List ℕ} → RecordLeaves (length m) c r m x m'
    → outcome x m' ≡ record_read c r m
unfolding record_read
answer-read l = l.leaves.memory (omega arith)

pub returns : goal.returns
returns c = rw c.read_answer.ensures (answer-read c.read.ensures)
