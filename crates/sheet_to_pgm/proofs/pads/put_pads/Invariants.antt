-- `sheet_to_pgm::pads::put_pads`: before each turn i samples are put. Assumes nothing.
use Rattle.std.proofs.Common.{◌+◌, ◌*◌, replicate}
use Rattle.text.specs.Put.{Put}
use Rattle.pgm_format.specs.Samples.{samples_of}
use Rattle.sheet_to_pgm.proofs.pads.put_pads.Given as goal

abbrev pub invariant-loop-i : goal.invariant-loop-i
invariant-loop-i l = Put l.initial.out l.at (samples_of (replicate l.i l.height)) (l.at + 2 * l.i) l.out
