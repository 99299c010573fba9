-- `map_text::counts::take_block`: before each turn the bytes before b are taken. Assumes nothing.
use Rattle.std.proofs.Common.{ℕ, ◌≡◌, List, ◌++◌, length, take}
use Rattle.map_text.specs.Scan.{scan_after, counts_from}
use Rattle.map_text.specs.Held.{Held}
use Rattle.map_text.proofs.counts.take_block.Given as goal

abbrev pub invariant-loop-b : goal.invariant-loop-b
invariant-loop-b l = (length l.counts ≡ length l.initial.counts)
    × (l.at.scan ≡ scan_after l.initial.at.scan (take l.b-index l.block))
    × ((xs : List ℕ) → Held xs l.initial.at.count l.initial.counts
    → Held (xs ++ counts_from l.initial.at.scan (take l.b-index l.block)) l.at.count l.counts)
