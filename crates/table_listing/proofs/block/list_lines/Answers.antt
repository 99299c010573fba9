-- `table_listing::block::list_lines`: the lines of the places from one on. Assumes nothing.
use Rattle.std.proofs.Common.{ap, ◌∙◌, length, List, ℕ}
use Rattle.bitstream.specs.Bits.{words_of}
use Rattle.table_listing.specs.Listing.{next_number, block_of}
use Rattle.table_listing.proofs.block.Laws.{lines-rest}
use Rattle.table_listing.proofs.block.list_lines.Goals as goal

pub returns : goal.returns
returns c =
    c.put_lines.ensures
    ∙ ap (λ (ls : List (List ℕ)). block_of (next_number ls (length c.args.out.now)) ls c.args.out.now)
    (lines-rest (words_of c.args.table.now) c.args.list.now c.args.first c.min.ensures)
