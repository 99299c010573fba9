-- Document 01, "The plain table": its 518 words by their rule, and its bytes. Assumes nothing.
use Rattle.std.specs.Prelude.{ℕ, zero, suc, ◌+◌, ◌*◌, List, [], ◌∷◌}
use Rattle.bitstream.specs.Bits.{flat, bytes_of}
pub mod Laws

-- "entry i is 64 x i + 10": n entries from entry i on
unfoldable pub plain_entries : ℕ → ℕ → List ℕ
plain_entries i zero = []
plain_entries i (suc n) = (64 * i + 10) ∷ plain_entries (suc i) n

-- "Id 1, lowLimit 3837, tableSize 512, raw word 34, bad-pixel word 99, bad-bias word 227"
unfoldable pub plain_table : List ℕ
plain_table = 1 ∷ 3837 ∷ 512 ∷ 34 ∷ 99 ∷ 227 ∷ plain_entries 0 512

-- "In a file each word is little-endian"
unfoldable pub plain_bytes : List ℕ
plain_bytes = bytes_of 2072 (flat 32 plain_table)
