-- One group, written by computation: document 001's lines, and the ends of each form of a pixel. Assumes nothing.
use Rattle.std.specs.Prelude.{ℕ, ◌≡◌, refl, List, [], ◌∷◌, ◌++◌, map, replicate}
use Rattle.bitstream.specs.Msb.{msb_digits, msb_num, msb_bytes_of}
use Rattle.map_format.specs.Reading.{sum}
use Rattle.map_format.specs.Writing.{pixel_bits, pixels_bits, positions, positions_bits, group_bits, groups_bits}

-- a group's counts, and its bits
pub record WrittenCase : Type 0 where
  pub counts : List ℕ
  pub bits : List ℕ

infix 4 ◌written◌
abbrev pub ◌written◌ : List ℕ → List ℕ → WrittenCase
xs written b = record { counts = xs; bits = b }

-- ---- groups of 4 pixels
abbrev pub four_written : List WrittenCase
four_written =
    ((0 ∷ 0 ∷ 0 ∷ 0 ∷ []) written msb_digits 1 0b1)
    ∷ ((1 ∷ 0 ∷ 0 ∷ 0 ∷ []) written msb_digits 4 0b01_00)
    ∷ ((0 ∷ 1 ∷ 0 ∷ 0 ∷ []) written msb_digits 4 0b01_01)
    ∷ ((0 ∷ 0 ∷ 1 ∷ 0 ∷ []) written msb_digits 4 0b01_10)
    ∷ ((0 ∷ 0 ∷ 0 ∷ 1 ∷ []) written msb_digits 4 0b01_11)
    -- "the lower position first"; two in one pixel
    ∷ ((0 ∷ 1 ∷ 0 ∷ 1 ∷ []) written msb_digits 7 0b001_01_11)
    ∷ ((1 ∷ 1 ∷ 0 ∷ 0 ∷ []) written msb_digits 7 0b001_00_01)
    ∷ ((0 ∷ 0 ∷ 2 ∷ 0 ∷ []) written msb_digits 7 0b001_10_10)
    -- three and more
    ∷ ((0 ∷ 1 ∷ 1 ∷ 1 ∷ []) written msb_digits 11 0b000_00_01_01_01)
    ∷ ((0 ∷ 1 ∷ 2 ∷ 1 ∷ []) written msb_digits 11 0b000_00_01_10_01)
    ∷ ((2 ∷ 1 ∷ 0 ∷ 0 ∷ []) written msb_digits 11 0b000_10_01_00_00)
    -- the ends of the forms
    ∷ ((3 ∷ 0 ∷ 0 ∷ 0 ∷ []) written msb_digits 15 0b000_110000_00_00_00)
    ∷ ((0 ∷ 17 ∷ 0 ∷ 0 ∷ []) written msb_digits 15 0b000_00_111110_00_00)
    ∷ ((0 ∷ 0 ∷ 18 ∷ 0 ∷ []) written msb_digits 31 0b000_00_00_111111_0000000000010010_00)
    ∷ ((0 ∷ 0 ∷ 0 ∷ 65535 ∷ []) written msb_digits 31 0b000_00_00_00_111111_1111111111111111)
    ∷ []

pub four-written-right : map (λ (c : WrittenCase). group_bits 2 c.counts) four_written ≡ map (λ (c : WrittenCase). c.bits) four_written
unfolding msb_digits sum pixel_bits pixels_bits positions positions_bits group_bits
four-written-right = refl

-- ---- groups of 16 pixels
abbrev pub sixteen_written : List WrittenCase
sixteen_written =
    (replicate 16 0 written msb_digits 1 0b1)
    ∷ ((replicate 9 0 ++ (1 ∷ replicate 6 0)) written msb_digits 6 0b01_1001)
    ∷ ((1 ∷ (replicate 14 0 ++ (1 ∷ []))) written msb_digits 11 0b001_0000_1111)
    ∷ ((replicate 7 0 ++ (2 ∷ replicate 8 0)) written msb_digits 11 0b001_0111_0111)
    ∷ ((replicate 14 0 ++ (1 ∷ 2 ∷ [])) written (msb_digits 3 0b000 ++ (msb_digits 28 0 ++ msb_digits 4 0b01_10)))
    ∷ ((0 ∷ 18 ∷ replicate 14 0) written (msb_digits 3 0b000 ++ (msb_digits 24 0b00_111111_0000000000010010 ++ msb_digits 28 0)))
    ∷ []

pub sixteen-written-right : map (λ (c : WrittenCase). group_bits 4 c.counts) sixteen_written
    ≡ map (λ (c : WrittenCase). c.bits) sixteen_written
unfolding msb_digits sum pixel_bits pixels_bits positions positions_bits group_bits
sixteen-written-right = refl

-- ---- three groups of 4 in bytes: 1, then 0101, then 0010011, and four spare bits, which are 0
pub bytes-right : msb_bytes_of 2 (groups_bits 2 3 (0 ∷ 0 ∷ 0 ∷ 0 ∷ 0 ∷ 1 ∷ 0 ∷ 0 ∷ 1 ∷ 0 ∷ 0 ∷ 1 ∷ []))
    ≡ 0b1_0101_001 ∷ 0b00_11_0000 ∷ []
unfolding msb_digits msb_num msb_bytes_of sum pixel_bits pixels_bits positions positions_bits group_bits groups_bits
bytes-right = refl
