-- The laws of what the writer of bits, the most significant first, holds. Assumes nothing.
use Rattle.std.specs.Prelude.{ℕ, ◌*◌, ◌≤◌, ◌≡◌, List, length, take}
use Rattle.std.proofs.Common.{arith, ap, ◌∙◌, length-take-le}
use Rattle.bitstream.specs.Msb.{msb_bits_of}
use Rattle.bitstream.specs.Msb.Laws.{length-msb_bits_of}

-- ---- the stored words
pub length-stored : (out : List ℕ) (words : ℕ) → 4 * words ≤ length out → length (msb_bits_of (take (4 * words) out)) ≡ 32 * words
length-stored out words h = length-msb_bits_of (take (4 * words) out) ∙ ap (8 *◌) (length-take-le (4 * words) out h) ∙ (omega arith)
