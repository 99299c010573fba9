-- `map_text::spaced::put_spaced`: before each turn i counts are put. Assumes nothing.
use Rattle.std.proofs.Common.{◌≡◌, ◌+◌, ◌*◌, ◌≤◌, length, take, drop}
use Rattle.bitstream.specs.Bits.{halves_of}
use Rattle.text.specs.Put.{Put}
use Rattle.map_text.specs.MapText.{spaced}
use Rattle.map_text.proofs.spaced.put_spaced.Given as goal

abbrev pub invariant-loop-i : goal.invariant-loop-i
invariant-loop-i l = (length l.out ≡ length l.initial.out) × (l.next ≤ l.at + 6 * l.i)
    × Put l.initial.out l.at (spaced (take l.i (drop l.first (halves_of l.counts)))) l.next l.out
