-- `map_text::map::put_map`: before each turn the rows before `row` are put. Assumes nothing.
use Rattle.std.proofs.Common.{◌≡◌, ◌*◌, ◌≤◌, length}
use Rattle.bitstream.specs.Bits.{halves_of}
use Rattle.text.specs.Put.{Put}
use Rattle.map_text.specs.MapText.{rows_text}
use Rattle.map_text.proofs.map.put_map.Given as goal

abbrev pub invariant-loop-row : goal.invariant-loop-row
invariant-loop-row l = (length l.out ≡ length l.initial.out) × (l.next ≤ 768 * l.row)
    × Put l.initial.out 0 (rows_text l.row (halves_of l.counts)) l.next l.out
