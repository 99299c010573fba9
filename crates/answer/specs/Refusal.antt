-- The refusals by name, and the numbers that C is told: document 01, "Numbers that a call returns", and the tickets. What a call
-- gives in Rattle is a Result; its number is 0 where it is done. Definitions only; their laws are in Refusal/Laws.antt. Assumes
-- nothing.
use Rattle.std.specs.Prelude.{ℕ, Result, Ok, Err}
use Rattle.answer.specs.declared.Answer.{Answer}
use Rattle.answer.specs.declared.LongAnswer.{LongAnswer}
use Rattle.answer.specs.declared.refusal.Refusal.{Refusal}
use Rattle.answer.specs.declared.refusal.Refusal.TheVariants.{
  TableSize,
  TableString,
  TablePrefix,
  Pixel,
  Room,
  WordsEnd,
  NoString,
  StepOutside,
  RawHeight,
  UnusedBit,
  TooMany,
  BytesEnd,
  NumberRange,
  Record,
  Kind,
  Place,
  FitsHeader,
  ImageEnd,
  MapEnd,
  MapPixel,
  MapTotal,
  ShelfFull,
  NoTable,
  NotItsPlace,
  DeltaPlace,
  DeltaCount,
  DeltaStart,
  DeltaSum,
}
use Rattle.answer.specs.Outcome.{answer_of, refusal}
pub mod Laws

abbrev pub refusal_number : Refusal → ℕ
refusal_number TableSize = 1
refusal_number TableString = 2
refusal_number TablePrefix = 3
refusal_number Pixel = 4
refusal_number Room = 5
refusal_number WordsEnd = 6
refusal_number NoString = 7
refusal_number StepOutside = 8
refusal_number RawHeight = 9
refusal_number UnusedBit = 10
refusal_number TooMany = 11
refusal_number BytesEnd = 12
refusal_number NumberRange = 13
refusal_number Record = 14
refusal_number Kind = 15
refusal_number Place = 16
refusal_number FitsHeader = 17
refusal_number ImageEnd = 18
refusal_number MapEnd = 19
refusal_number MapPixel = 20
refusal_number MapTotal = 21
refusal_number ShelfFull = 22
refusal_number NoTable = 23
refusal_number NotItsPlace = 24
refusal_number DeltaPlace = 25
refusal_number DeltaCount = 26
refusal_number DeltaStart = 27
refusal_number DeltaSum = 28

-- 0 for done, whatever is given
abbrev pub result_number : {A : Type 0} → Result A Refusal → ℕ
result_number (Ok given) = 0
result_number (Err e) = refusal_number e

-- a count that is given, as C has it; 0 for every refusal
abbrev pub as_answer : Result ℕ Refusal → Answer
as_answer (Ok count) = answer_of 0 count
as_answer (Err e) = refusal (refusal_number e)

abbrev pub as_long_answer : Result ℕ Refusal → LongAnswer
as_long_answer (Ok count) = record { number = 0; count = count }
as_long_answer (Err e) = record { number = refusal_number e; count = 0 }
