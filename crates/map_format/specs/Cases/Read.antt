-- One group, read by computation: document 001's lines, the ends of each form of a pixel, and what is refused. Bits are given by how
-- many they are and by their number in binary. Assumes nothing.
use Rattle.std.specs.Prelude.{ℕ, ◌≡◌, refl, List, [], ◌∷◌, ◌++◌, map, replicate}
use Rattle.bitstream.specs.Msb.{msb_digits, msb_num}
use Rattle.map_format.specs.Reading.{Parse, stops, got, read_field, read_pixel, read_pixels, read_code, sum, photon, read_body, read_group}
use Rattle.map_format.specs.Reading.{read_groups}

-- some bits, and what they are read as
pub record ReadCase : Type 0 where
  pub bits : List ℕ
  pub reading : Parse (List ℕ)

infix 4 ◌reads◌
abbrev pub ◌reads◌ : List ℕ → Parse (List ℕ) → ReadCase
b reads x = record { bits = b; reading = x }

-- read to their end
abbrev all : List ℕ → Parse (List ℕ)
all xs = got xs []

-- ---- groups of 4 pixels
abbrev pub four_cases : List ReadCase
four_cases =
    -- "4 consecutive zero-valued pixels"; what follows is left
    (msb_digits 1 0b1 reads all (0 ∷ 0 ∷ 0 ∷ 0 ∷ []))
    ∷ (msb_digits 4 0b1_011 reads got (0 ∷ 0 ∷ 0 ∷ 0 ∷ []) (0 ∷ 1 ∷ 1 ∷ []))
    -- "01nn represents 4 pixels containing just one photon in position nn"
    ∷ (msb_digits 4 0b01_00 reads all (1 ∷ 0 ∷ 0 ∷ 0 ∷ []))
    ∷ (msb_digits 4 0b01_01 reads all (0 ∷ 1 ∷ 0 ∷ 0 ∷ []))
    ∷ (msb_digits 4 0b01_10 reads all (0 ∷ 0 ∷ 1 ∷ 0 ∷ []))
    ∷ (msb_digits 4 0b01_11 reads all (0 ∷ 0 ∷ 0 ∷ 1 ∷ []))
    -- "001nnmm represents 4 pixels containing two photons in positions nn and mm", in either order, and "(nn=mm)"
    ∷ (msb_digits 7 0b001_01_11 reads all (0 ∷ 1 ∷ 0 ∷ 1 ∷ []))
    ∷ (msb_digits 7 0b001_11_01 reads all (0 ∷ 1 ∷ 0 ∷ 1 ∷ []))
    ∷ (msb_digits 7 0b001_00_00 reads all (2 ∷ 0 ∷ 0 ∷ 0 ∷ []))
    ∷ (msb_digits 7 0b001_10_10 reads all (0 ∷ 0 ∷ 2 ∷ 0 ∷ []))
    -- "000aabbccdd represents 4 pixels containing at least three photons altogether", "most commonly 11 bits"
    ∷ (msb_digits 11 0b000_00_01_10_01 reads all (0 ∷ 1 ∷ 2 ∷ 1 ∷ []))
    ∷ (msb_digits 11 0b000_10_10_10_10 reads all (2 ∷ 2 ∷ 2 ∷ 2 ∷ []))
    ∷ (msb_digits 11 0b000_00_00_01_10 reads all (0 ∷ 0 ∷ 1 ∷ 2 ∷ []))
    -- the ends of the forms: 2 and 3, 17 and 18, 65535
    ∷ (msb_digits 11 0b000_10_01_00_00 reads all (2 ∷ 1 ∷ 0 ∷ 0 ∷ []))
    ∷ (msb_digits 15 0b000_110000_00_00_00 reads all (3 ∷ 0 ∷ 0 ∷ 0 ∷ []))
    ∷ (msb_digits 15 0b000_00_111110_00_00 reads all (0 ∷ 17 ∷ 0 ∷ 0 ∷ []))
    ∷ (msb_digits 31 0b000_00_00_111111_0000000000010010_00 reads all (0 ∷ 0 ∷ 18 ∷ 0 ∷ []))
    ∷ (msb_digits 31 0b000_00_00_00_111111_1111111111111111 reads all (0 ∷ 0 ∷ 0 ∷ 65535 ∷ []))
    ∷ []

abbrev pub four_refused : List ReadCase
four_refused =
    -- 17, 3 and 0 in sixteen bits; as soon as they are there: whatever is left to be read, and nothing
    (msb_digits 31 0b000_111111_0000000000010001_00_00_00 reads stops 20)
    ∷ (msb_digits 25 0b000_111111_0000000000010001 reads stops 20)
    ∷ (msb_digits 27 0b000_10_111111_0000000000000011 reads stops 20)
    ∷ (msb_digits 31 0b000_10_10_10_111111_0000000000000000 reads stops 20)
    -- and with one of the sixteen bits less
    ∷ (msb_digits 24 0b000_111111_000000000001000 reads stops 19)
    -- fewer than three photons, after the last pixel; and with that pixel cut
    ∷ (msb_digits 11 0b000_00_00_01_01 reads stops 20)
    ∷ (msb_digits 11 0b000_00_00_00_00 reads stops 20)
    ∷ (msb_digits 11 0b000_10_00_00_00 reads stops 20)
    ∷ (msb_digits 10 0b000_00_00_01_0 reads stops 19)
    ∷ (msb_digits 9 0b000_00_00_01 reads stops 19)
    -- bits that end before the code, within it, within a position, before and within a pixel's form
    ∷ ([] reads stops 19)
    ∷ (msb_digits 1 0b0 reads stops 19)
    ∷ (msb_digits 2 0b00 reads stops 19)
    ∷ (msb_digits 2 0b01 reads stops 19)
    ∷ (msb_digits 3 0b01_1 reads stops 19)
    ∷ (msb_digits 5 0b001_11 reads stops 19)
    ∷ (msb_digits 6 0b001_11_1 reads stops 19)
    ∷ (msb_digits 3 0b000 reads stops 19)
    ∷ (msb_digits 8 0b000_11_111 reads stops 19)
    ∷ (msb_digits 9 0b000_111111 reads stops 19)
    ∷ []

pub four-right : map (λ (c : ReadCase). read_group 2 c.bits) four_cases ≡ map (λ (c : ReadCase). c.reading) four_cases
unfolding msb_digits msb_num read_field read_pixel read_pixels read_code sum photon read_body read_group
four-right = refl

pub four-refused-right : map (λ (c : ReadCase). read_group 2 c.bits) four_refused ≡ map (λ (c : ReadCase). c.reading) four_refused
unfolding msb_digits msb_num read_field read_pixel read_pixels read_code sum photon read_body read_group
four-refused-right = refl

-- ---- groups of 16 pixels: positions have four bits
abbrev pub sixteen_cases : List ReadCase
sixteen_cases =
    (msb_digits 1 0b1 reads all (replicate 16 0))
    ∷ (msb_digits 6 0b01_0000 reads all (1 ∷ replicate 15 0))
    ∷ (msb_digits 6 0b01_1001 reads all (replicate 9 0 ++ (1 ∷ replicate 6 0)))
    ∷ (msb_digits 6 0b01_1111 reads all (replicate 15 0 ++ (1 ∷ [])))
    ∷ (msb_digits 11 0b001_0000_1111 reads all (1 ∷ (replicate 14 0 ++ (1 ∷ []))))
    ∷ (msb_digits 11 0b001_1111_0000 reads all (1 ∷ (replicate 14 0 ++ (1 ∷ []))))
    ∷ (msb_digits 11 0b001_0111_0111 reads all (replicate 7 0 ++ (2 ∷ replicate 8 0)))
    -- 000 and pixels, of two bits but for one
    ∷ ((msb_digits 3 0b000 ++ (msb_digits 28 0 ++ msb_digits 4 0b01_10)) reads all (replicate 14 0 ++ (1 ∷ 2 ∷ [])))
    ∷ ((msb_digits 3 0b000 ++ (msb_digits 24 0b00_111111_0000000000010010 ++ msb_digits 28 0)) reads all (0 ∷ 18 ∷ replicate 14 0))
    -- refused
    ∷ (msb_digits 4 0b01_10 reads stops 19)
    ∷ (msb_digits 10 0b001_0000_111 reads stops 19)
    ∷ ((msb_digits 3 0b000 ++ (msb_digits 28 0 ++ msb_digits 4 0b01_01)) reads stops 20)
    ∷ ((msb_digits 3 0b000 ++ (msb_digits 28 0 ++ msb_digits 3 0b01_0)) reads stops 19)
    ∷ (msb_digits 27 0b000_00_111111_0000000000010001 reads stops 20)
    ∷ []

pub sixteen-right : map (λ (c : ReadCase). read_group 4 c.bits) sixteen_cases ≡ map (λ (c : ReadCase). c.reading) sixteen_cases
unfolding msb_digits msb_num read_field read_pixel read_pixels read_code sum photon read_body read_group
sixteen-right = refl

-- ---- two groups of 4: the earliest of what is wrong is told
abbrev pub pair_cases : List ReadCase
pair_cases =
    (msb_digits 5 0b1_01_10 reads all (0 ∷ 0 ∷ 0 ∷ 0 ∷ 0 ∷ 0 ∷ 1 ∷ 0 ∷ []))
    -- a faulty group, then an end; no fault, then an end; and a fault after a group
    ∷ (msb_digits 11 0b000_00_00_01_01 reads stops 20)
    ∷ (msb_digits 11 0b000_01_01_01_01 reads stops 19)
    ∷ (msb_digits 12 0b1_000_00_00_01_01 reads stops 20)
    ∷ []

pub pair-right : map (λ (c : ReadCase). read_groups 2 2 c.bits) pair_cases ≡ map (λ (c : ReadCase). c.reading) pair_cases
unfolding msb_digits msb_num read_field read_pixel read_pixels read_code sum photon read_body read_group read_groups
pair-right = refl
