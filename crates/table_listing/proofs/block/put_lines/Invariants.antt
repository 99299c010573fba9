-- `table_listing::block::put_lines`: before each turn the lines of the places taken stand in the memory. Assumes nothing.
use Rattle.std.proofs.Common.{◌≡◌, map}
use Rattle.bitstream.specs.Bits.{words_of}
use Rattle.table_listing.specs.Line.{line}
use Rattle.table_listing.proofs.block.Laws.{Filling}
use Rattle.table_listing.proofs.block.put_lines.Given as goal

abbrev pub invariant-loop-place : goal.invariant-loop-place
invariant-loop-place l =
    record {
      count : l.lines ≡ l.place-index;
      filling : Filling (map (line (words_of l.table)) l.places) l.initial.out l.place-index l.bytes l.out;
    }
