-- Document 01, "Pairs on each side of the line": the cases that it marks P, those of rows worked out again for document 02's
-- ticket 5 ("Work out the cases of 01 again"), and the unsigned numbers beside them, as one list with one claim over the list.
-- Rows are under the plain table. Assumes nothing.
use Rattle.std.specs.Prelude.{ℕ, ◌*◌, ◌≡◌, refl, List, [], ◌∷◌, length, ℤ, pos, negsuc}
use Rattle.bitstream.specs.Bits.{digits, num_of, cut, words_for}
use Rattle.row_format.specs.Table.{codeword, codewords, codeword_at, longest, max_item_bits}
use Rattle.row_format.specs.Row.{by_difference, item_for, items_for, bits, row_bits}
use Rattle.row_format.specs.Plain.{plain_entries, plain_table}
use Rattle.adaptive.specs.Number as number
use Rattle.adaptive.specs.Number.{read_as, accepted, shortest}
use Rattle.worked_cases.specs.Each.{Each, ◌also◌}

pub data Case : Type 0 where
  packs : List ℕ → List ℕ → ℕ → Case  -- pixels, the words they are packed to, and the bits
  takes : List ℕ → ℕ → Case  -- pixels and the bits they take
  worst : List ℕ → ℕ → ℕ → Case  -- the same, with the words, where each pixel takes M bits
  signed_as : ℤ → List ℕ → Case  -- a value and its bytes
  unsigned_as : ℕ → List ℕ → Case

abbrev pub CaseHolds : Case → Type 0
CaseHolds (packs ps ws n) = (length (row_bits plain_table ps) ≡ n) × (cut 32 (words_for n) (row_bits plain_table ps) ≡ ws)
CaseHolds (takes ps n) = length (row_bits plain_table ps) ≡ n
CaseHolds (worst ps n w) = (length (row_bits plain_table ps) ≡ n) × (words_for n ≡ w) × (n ≡ length ps * max_item_bits plain_table)
CaseHolds (signed_as v b) = (shortest number.signed_type v ≡ b) × (read_as number.signed_type b ≡ accepted v (length b))
CaseHolds (unsigned_as v b) = (shortest number.unsigned_type v ≡ b) × (read_as number.unsigned_type b ≡ accepted v (length b))

abbrev pub cases : List Case
cases =
    packs [] [] 0
    ∷ packs (0 ∷ []) (1 ∷ []) 14
    ∷ packs (204 ∷ 4095 ∷ []) (49969 ∷ []) 17
    ∷ packs (766 ∷ []) (3065 ∷ []) 14
    ∷ packs (766 ∷ 766 ∷ []) (8391673 ∷ []) 24
    ∷ packs (0 ∷ 766 ∷ 0 ∷ []) (50216961 ∷ 32 ∷ []) 38
    ∷ takes (255 ∷ []) 14
    ∷ takes (256 ∷ []) 14
    -- the line between 255 and 256 is now a second height's
    ∷ takes (0 ∷ 255 ∷ []) 24
    ∷ takes (0 ∷ 256 ∷ []) 28
    ∷ worst (4093 ∷ 0 ∷ 0 ∷ []) 42 2
    ∷ signed_as (pos 63) (0x3F ∷ [])
    ∷ signed_as (pos 64) (0x80 ∷ 0x40 ∷ [])
    ∷ signed_as (negsuc 63) (0x40 ∷ [])
    ∷ signed_as (negsuc 64) (0xFF ∷ 0x3F ∷ [])
    ∷ signed_as (negsuc 0) (0x7F ∷ [])
    ∷ signed_as (pos 2147483647) (0x87 ∷ 0xFF ∷ 0xFF ∷ 0xFF ∷ 0x7F ∷ [])
    ∷ signed_as (negsuc 2147483647) (0xF8 ∷ 0x80 ∷ 0x80 ∷ 0x80 ∷ 0x00 ∷ [])
    ∷ unsigned_as 127 (0x7F ∷ [])
    ∷ unsigned_as 128 (0x81 ∷ 0x00 ∷ [])
    ∷ unsigned_as 16384 (0x81 ∷ 0x80 ∷ 0x00 ∷ [])
    ∷ []

pub cases-hold : Each CaseHolds cases
unfolding digits num_of cut codeword codewords codeword_at longest max_item_bits by_difference item_for items_for bits row_bits
    plain_entries plain_table read_as shortest number.front number.data_of number.signed_value number.continued number.data_bytes
    number.later_bytes
cases-hold =
    (refl, refl)
    also (refl, refl)
    also (refl, refl)
    also (refl, refl)
    also (refl, refl)
    also (refl, refl)
    also refl
    also refl
    also refl
    also refl
    also (refl, refl, refl)
    also (refl, refl)
    also (refl, refl)
    also (refl, refl)
    also (refl, refl)
    also (refl, refl)
    also (refl, refl)
    also (refl, refl)
    also (refl, refl)
    also (refl, refl)
    also (refl, refl)
    also tt
