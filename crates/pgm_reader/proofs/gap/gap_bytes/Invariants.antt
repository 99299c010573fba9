-- `pgm_reader::gap::gap_bytes`: the bytes before i are separators. Assumes nothing.
use Rattle.std.proofs.Common.{◌≡◌, ◌+◌, false, drop}
use Rattle.pgm_format.specs.Header.{gap_from}
use Rattle.pgm_reader.proofs.gap.gap_bytes.Given as goal

abbrev pub invariant-loop-i : goal.invariant-loop-i
invariant-loop-i l = gap_from false l.s ≡ l.i + gap_from l.comment (drop l.i l.s)
