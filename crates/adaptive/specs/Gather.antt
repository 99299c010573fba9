-- What the inner functions of reading answer. Definitions only. Assumes nothing.
use Rattle.std.specs.Prelude.{ℕ, ◌^◌, Bool, true, false, length, ℤ, pos, negsuc}
use Rattle.adaptive.specs.declared.gather.Data.{Data}
use Rattle.adaptive.specs.Number.{NumberFront, whole, fault, NumberReading, accepted, rejected, data_of}

abbrev pub gathered_of : NumberFront → NumberReading Data
gathered_of (whole bs) = accepted (record { raw = data_of bs; span = 128 ^ length bs }) (length bs)
gathered_of (fault e) = rejected e

abbrev pub with_sign : Bool → ℕ → ℤ
with_sign true m = negsuc m
with_sign false m = pos m
