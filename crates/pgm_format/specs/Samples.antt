-- The samples of a binary PGM whose largest value is 4095: two bytes each, the higher first, a line of them for each row. What they are
-- read as is a scan's `big_endian` (fits_format). Definitions only; their laws are in Samples/. Assumes nothing.
use Rattle.std.specs.Prelude.{ℕ, zero, suc, ◌*◌, ◌/◌, ◌%◌, List, [], ◌∷◌, ◌++◌, length, drop}
use Rattle.fits_format.specs.Image.{big_endian}
use Rattle.pgm_format.specs.Header.{pgm_front}
pub mod Laws

-- ---- as they are written
unfoldable pub samples_of : List ℕ → List ℕ
samples_of [] = []
samples_of (h ∷ hs) = h / 256 ∷ h % 256 ∷ samples_of hs

-- lines one after another
unfoldable pub lines_bytes : List (List ℕ) → List ℕ
lines_bytes [] = []
lines_bytes (l ∷ ls) = samples_of l ++ lines_bytes ls

-- a whole picture of lines of w heights
unfoldable pub pgm_bytes : ℕ → List (List ℕ) → List ℕ
pgm_bytes w ls = pgm_front w (length ls) ++ lines_bytes ls

-- ---- as they are read: n lines of w samples
unfoldable pub lines_in : ℕ → ℕ → List ℕ → List (List ℕ)
lines_in w zero s = []
lines_in w (suc n) s = big_endian w s ∷ lines_in w n (drop (2 * w) s)
