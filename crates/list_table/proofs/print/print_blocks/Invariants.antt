-- `list_table::print::print_blocks`: before each turn the lines before `first`, of so many bytes, are printed, and those from
-- it on are still to be; the measure is how many those are. Assumes nothing.
use Rattle.std.proofs.Common.{◌≡◌, ◌-◌, ◌≤◌, length, take}
use Rattle.table_listing.specs.Listing.{lines, joined}
use Rattle.list_table.proofs.print.print_blocks.Given as goal

abbrev pub invariant-loop-listed : goal.invariant-loop-listed
invariant-loop-listed l = record {
  printed : l.printed ≡ length (joined (take l.first (lines l.table)));
  within : l.first ≤ length (lines l.table);
}

abbrev pub decreases-loop-listed : goal.decreases-loop-listed
decreases-loop-listed l = length (lines l.table) - l.first
