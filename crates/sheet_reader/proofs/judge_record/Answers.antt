-- `sheet_reader::judge_record` meets its contract: the room of the longest content is never too small. Assumes nothing.
use native.Mathlib.Omega.{arith}
use mathlib.Core.Path.{◌≡◌, ◌∙◌}
use mathlib.Core.List.{List}
use Prim.Native.Nat.{ℕ}
use Rattle.sheet_format.specs.declared.RecordRead.{RecordRead}
use Rattle.sheet_format.specs.Context.{Context}
use Rattle.sheet_format.specs.Reading.{record_judged}
use Rattle.sheet_format.proofs.Theorems.Room.{record_number-enough}
use Rattle.sheet_reader.specs.Leaves.{RecordLeaves}
use Rattle.sheet_reader.proofs.judge_record.Goals as goal

answer-judged : {c : Context} {r m : List ℕ} {x : RecordRead} {m' : List ℕ} → RecordLeaves 16384 c r m x m' → x ≡ record_judged c r
unfolding record_judged
answer-judged {c} {r} l = l.leaves.answer ∙ rw (record_number-enough 16384 (omega arith) c r)

pub returns : goal.returns
returns c = c.read_answer.ensures ∙ answer-judged c.read.ensures
