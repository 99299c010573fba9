-- Source document 001, "Compression Algorithm", as document 02's ticket 3 reads it: what some bits, the most significant of each
-- byte first, are read as. k is the bits of a position: 2 in groups of 4 pixels, 4 in groups of 16. b is the bits that are left.
-- Definitions only; their laws are in Reading/. Assumes nothing.
use Rattle.std.specs.Prelude.{ℕ, zero, suc, ◌+◌, ◌^◌, cond, List, [], ◌∷◌, ◌++◌, length, take, drop, replicate, ltb, eqb}
use Rattle.bitstream.specs.Msb.{msb_num}
pub mod Ample
pub mod Laws
pub mod More

-- what reading comes to: a value and the bits after it, or a number that refuses
pub data Parse (A : Type 0) : Type 0 where
  stops : ℕ → Parse A
  got : A → List ℕ → Parse A

abbrev pub ◌then◌ : {A B : Type 0} → Parse A → (A → List ℕ → Parse B) → Parse B
stops e then f = stops e
got v b then f = f v b

infixl 15 ◌then◌
-- n bits as a number; "19 bits end"
unfoldable pub read_field : ℕ → List ℕ → Parse ℕ
read_field n b = cond (ltb (length b) n) (stops 19) (got (msb_num (take n b)) (drop n b))

-- ---- "the pixels are directly encoded as two-bit integers if they have values 0, 1, or 2. Individual pixels in the range 3 to 17
-- are encoded as (binary) 11 followed by a four-bit string in the range 0 to" 14. "Pixels greater than 17 are encoded as (binary)
-- 111111 followed by the full 16-bit pixel value"; "20 a 16-bit pixel not above 17"
abbrev pub wide_value : ℕ → List ℕ → Parse ℕ
wide_value x b = cond (ltb 17 x) (got x b) (stops 20)

abbrev pub four_bits : ℕ → List ℕ → Parse ℕ
four_bits f b = cond (ltb f 15) (got (3 + f) b) (read_field 16 b then wide_value)

abbrev pub two_bits : ℕ → List ℕ → Parse ℕ
two_bits p b = cond (ltb p 3) (got p b) (read_field 4 b then four_bits)

unfoldable pub read_pixel : List ℕ → Parse ℕ
read_pixel b = read_field 2 b then two_bits

-- n pixels, one after the other
unfoldable pub read_pixels : ℕ → List ℕ → Parse (List ℕ)
read_pixels zero b = got [] b
read_pixels (suc n) b = read_pixel b then λ x r. read_pixels n r then λ xs s. got (x ∷ xs) s

-- ---- "using four Huffman codes: 1, 01, 001, and 000"
pub data Code : Type 0 where
  zeros : Code
  one : Code
  two : Code
  direct : Code

unfoldable pub read_code : List ℕ → Parse Code
read_code b =
    read_field 1 b then λ x r. cond (eqb x 1) (got zeros r)
    (read_field 1 r then λ y s. cond (eqb y 1) (got one s)
    (read_field 1 s then λ z t. cond (eqb z 1) (got two t) (got direct t)))

-- ---- groups
unfoldable pub sum : List ℕ → ℕ
sum [] = 0
sum (x ∷ xs) = x + sum xs

-- one photon more in position p
unfoldable pub photon : ℕ → List ℕ → List ℕ
photon p [] = []
photon zero (x ∷ xs) = suc x ∷ xs
photon (suc p) (x ∷ xs) = x ∷ photon p xs

-- a group without photons
abbrev pub dark : ℕ → List ℕ
dark k = replicate (2 ^ k) 0

-- "a code 000 group of fewer than three, judged after its last pixel"
abbrev pub three_or_more : List ℕ → List ℕ → Parse (List ℕ)
three_or_more xs b = cond (ltb (sum xs) 3) (stops 20) (got xs b)

unfoldable pub read_body : ℕ → Code → List ℕ → Parse (List ℕ)
-- "4 consecutive zero-valued pixels; the zeroes are not actually present in the file"
read_body k zeros b = got (dark k) b
-- "just one photon in position nn within the group"
read_body k one b = read_field k b then λ n r. got (photon n (dark k)) r
-- "two photons in positions nn and mm within the group", "the case of two photons in the same pixel" included
read_body k two b = read_field k b then λ n r. read_field k r then λ m s. got (photon m (photon n (dark k))) s
-- "at least three photons altogether"
read_body k direct b = read_pixels (2 ^ k) b then three_or_more

unfoldable pub read_group : ℕ → List ℕ → Parse (List ℕ)
read_group k b = read_code b then read_body k

-- n groups, one after the other
unfoldable pub read_groups : ℕ → ℕ → List ℕ → Parse (List ℕ)
read_groups k zero b = got [] b
read_groups k (suc n) b = read_group k b then λ xs r. read_groups k n r then λ ys s. got (xs ++ ys) s
