-- The laws of words whose codewords lie on one branch of the code tree. Assumes nothing.
use Rattle.std.specs.Prelude.{ℕ, ◌/◌, ◌%◌, ◌<◌, ◌≡◌, List, [], map, get_or}
use Rattle.std.proofs.Math.ListN.{get_or-map}
use Rattle.bitstream.specs.Bits.{digits}
use Rattle.bitstream.specs.Bits.Laws.{get_d-digits}
use Rattle.row_format.specs.Table.{codeword}
use Rattle.prefix_free.specs.Branch.{bit_at}

pub get_d-codeword : (w k : ℕ) → k < w % 32 → get_or (codeword w) k 0 ≡ bit_at k w
unfolding codeword
get_d-codeword w k h = get_d-digits (w % 32) (w / 32) k h

pub get_d-codewords : (l : List ℕ) (k : ℕ) → get_or (map codeword l) k [] ≡ codeword (get_or l k 0)
unfolding codeword digits
get_d-codewords l k = get_or-map codeword l k 0
