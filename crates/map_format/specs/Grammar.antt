-- Source document 001's bit strings, as document 02's ticket 3 reads them: which bits stand for a pixel, for a group, and for groups
-- one after the other, and which of them are refused 20. It is not how they are read: no bit is taken one after the other here, and
-- nothing is searched. k is the bits of a position: 2 in groups of 4 pixels, 4 in groups of 16. Definitions only; their laws are in
-- Grammar/. Assumes nothing.
use Rattle.std.specs.Prelude.{ℕ, suc, ◌+◌, ◌^◌, ◌≤◌, ◌<◌, ◌≡◌, List, [], ◌∷◌, ◌++◌}
use Rattle.bitstream.specs.Msb.{msb_digits}
use Rattle.map_format.specs.Reading.{sum, photon, dark}
pub mod Counts

-- ---- pixels
-- "111111 followed by the full 16-bit pixel value"
abbrev pub sixteen_bits : ℕ → List ℕ
sixteen_bits x = 1 ∷ 1 ∷ 1 ∷ 1 ∷ 1 ∷ 1 ∷ msb_digits 16 x

-- the bits p stand for the pixel x
pub data PixelCode : ℕ → List ℕ → Type 0 where
  -- "directly encoded as two-bit integers if they have values 0, 1, or 2"
  small : (x : ℕ) → x < 3 → PixelCode x (msb_digits 2 x)
  -- "3 to 17 are encoded as (binary) 11 followed by a four-bit string in the range 0 to" 14
  middle : (f : ℕ) → f < 15 → PixelCode (3 + f) (1 ∷ 1 ∷ msb_digits 4 f)
  -- "Pixels greater than 17"
  wide : (x : ℕ) → 17 < x → x < 65536 → PixelCode x (sixteen_bits x)

-- the bits p stand for n pixels xs, one after the other
pub data PixelsCode : ℕ → List ℕ → List ℕ → Type 0 where
  no-pixel : PixelsCode 0 [] []
  pixel : {n x : ℕ} {xs p q : List ℕ} → PixelCode x p → PixelsCode n xs q → PixelsCode (suc n) (x ∷ xs) (p ++ q)

-- ---- groups: the bits p stand for a group of 2 ^ k pixels xs
pub data GroupCode (k : ℕ) : List ℕ → List ℕ → Type 0 where
  -- "4 consecutive zero-valued pixels"
  no-photon : GroupCode k (dark k) (1 ∷ [])
  -- "01nn represents 4 pixels containing just one photon in position nn"
  one-photon : (n : ℕ) → n < 2 ^ k → GroupCode k (photon n (dark k)) (0 ∷ 1 ∷ msb_digits k n)
  -- "001nnmm represents 4 pixels containing two photons in positions nn and mm", in any order and also in one position
  two-photons : (n m : ℕ) → n < 2 ^ k → m < 2 ^ k
      → GroupCode k (photon m (photon n (dark k))) (0 ∷ 0 ∷ 1 ∷ (msb_digits k n ++ msb_digits k m))
  -- "000aabbccdd represents 4 pixels containing at least three photons altogether"
  three-or-more : (xs p : List ℕ) → PixelsCode (2 ^ k) xs p → 3 ≤ sum xs → GroupCode k xs (0 ∷ 0 ∷ 0 ∷ p)

-- the bits p stand for n groups, whose pixels one after the other are xs
pub data GroupsCode (k : ℕ) : ℕ → List ℕ → List ℕ → Type 0 where
  no-group : GroupsCode k 0 [] []
  group : {n : ℕ} {xs ys p q : List ℕ} → GroupCode k xs p → GroupsCode k n ys q → GroupsCode k (suc n) (xs ++ ys) (p ++ q)

-- the bits b begin with those of n groups xs, and r are the bits after them
pub record Begins (k n : ℕ) (xs b r : List ℕ) : Type 0 where
  pub front : List ℕ
  pub codes : GroupsCode k n xs front
  pub bits : b ≡ front ++ r

-- ---- what is refused 20
-- "a 16-bit pixel not above 17" after the pixels before it, fewer than n; whatever follows its bits
pub record LowPixel (n : ℕ) (b : List ℕ) : Type 0 where
  pub pixels : ℕ
  pub fewer : pixels < n
  pub counts : List ℕ
  pub before : List ℕ
  pub codes : PixelsCode pixels counts before
  pub value : ℕ
  pub low : value ≤ 17
  pub after : List ℕ
  pub bits : b ≡ before ++ (sixteen_bits value ++ after)

-- n pixels of "fewer than three" photons, "judged after its last pixel"; whatever follows their bits
pub record FewPhotons (n : ℕ) (b : List ℕ) : Type 0 where
  pub counts : List ℕ
  pub before : List ℕ
  pub codes : PixelsCode n counts before
  pub few : sum counts < 3
  pub after : List ℕ
  pub bits : b ≡ before ++ after

-- both can stand in "a code 000 group" alone
pub data GroupFault (k : ℕ) : List ℕ → Type 0 where
  low-pixel : (b : List ℕ) → LowPixel (2 ^ k) b → GroupFault k (0 ∷ 0 ∷ 0 ∷ b)
  few-photons : (b : List ℕ) → FewPhotons (2 ^ k) b → GroupFault k (0 ∷ 0 ∷ 0 ∷ b)

-- the bits after a fault
abbrev pub fault_after : {k : ℕ} {b : List ℕ} → GroupFault k b → List ℕ
fault_after (low-pixel b f) = f.after
fault_after (few-photons b f) = f.after

-- the bits b begin with those of some groups, fewer than n, and then comes a faulty one: so the fault is the earliest, and its bits
-- are all there
pub record Fault20 (k n : ℕ) (b : List ℕ) : Type 0 where
  pub groups : ℕ
  pub fewer : groups < n
  pub counts : List ℕ
  pub before : List ℕ
  pub codes : GroupsCode k groups counts before
  pub rest : List ℕ
  pub bits : b ≡ before ++ rest
  pub faulty : GroupFault k rest

-- ---- what is refused 19: neither n groups nor a fault are there. That this is for want of bits alone is a theorem
-- (`read-bytes-enough`)
pub record Unfinished (k n : ℕ) (b : List ℕ) : Type 0 where
  pub no-groups : (xs r : List ℕ) → Begins k n xs b r → ⊥
  pub no-fault : Fault20 k n b → ⊥
