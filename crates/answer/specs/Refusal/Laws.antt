-- What holds of every refusal. Assumes nothing.
use Rattle.std.specs.Prelude.{◌≡◌, refl, Result, Ok, Err, ◌<◌}
use Rattle.std.proofs.Common.{arith}
use Rattle.answer.specs.declared.refusal.Refusal.{Refusal}
use Rattle.answer.specs.declared.refusal.Refusal.TheVariants.{
  TableSize,
  TableString,
  TablePrefix,
  Pixel,
  Room,
  WordsEnd,
  NoString,
  StepOutside,
  RawHeight,
  UnusedBit,
  TooMany,
  BytesEnd,
  NumberRange,
  Record,
  Kind,
  Place,
  FitsHeader,
  ImageEnd,
  MapEnd,
  MapPixel,
  MapTotal,
  ShelfFull,
  NoTable,
  NotItsPlace,
  DeltaPlace,
  DeltaCount,
  DeltaStart,
  DeltaSum,
}
use Rattle.answer.specs.Refusal.{refusal_number, result_number}

-- a refusal's number is not 0
pub refusal_not_done : (e : Refusal) → 0 < refusal_number e
refusal_not_done TableSize = omega arith
refusal_not_done TableString = omega arith
refusal_not_done TablePrefix = omega arith
refusal_not_done Pixel = omega arith
refusal_not_done Room = omega arith
refusal_not_done WordsEnd = omega arith
refusal_not_done NoString = omega arith
refusal_not_done StepOutside = omega arith
refusal_not_done RawHeight = omega arith
refusal_not_done UnusedBit = omega arith
refusal_not_done TooMany = omega arith
refusal_not_done BytesEnd = omega arith
refusal_not_done NumberRange = omega arith
refusal_not_done Record = omega arith
refusal_not_done Kind = omega arith
refusal_not_done Place = omega arith
refusal_not_done FitsHeader = omega arith
refusal_not_done ImageEnd = omega arith
refusal_not_done MapEnd = omega arith
refusal_not_done MapPixel = omega arith
refusal_not_done MapTotal = omega arith
refusal_not_done ShelfFull = omega arith
refusal_not_done NoTable = omega arith
refusal_not_done NotItsPlace = omega arith
refusal_not_done DeltaPlace = omega arith
refusal_not_done DeltaCount = omega arith
refusal_not_done DeltaStart = omega arith
refusal_not_done DeltaSum = omega arith

-- what has the number 0 is done
pub done_given : {A : Type 0} (r : Result A Refusal) → result_number r ≡ 0 → (given : A) × (r ≡ Ok given)
done_given (Ok given) e = (given, refl)
done_given (Err e) n = absurd (omega (arith, refusal_not_done e))
