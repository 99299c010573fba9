-- `pgm_reader::put::put_samples`: the samples of the first i heights are put. Assumes nothing.
use Rattle.std.proofs.Common.{◌≡◌, ◌+◌, ◌*◌, length, take}
use Rattle.bitstream.specs.Bits.{halves_of}
use Rattle.text.specs.Put.{Put}
use Rattle.pgm_format.specs.Samples.{samples_of}
use Rattle.pgm_reader.proofs.put.put_samples.Given as goal

abbrev pub invariant-loop-i : goal.invariant-loop-i
invariant-loop-i l = (length l.out ≡ length l.initial.out)
    × Put l.initial.out l.at (samples_of (take l.i (halves_of l.pixels))) (l.at + 2 * l.i) l.out
