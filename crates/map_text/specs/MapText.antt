-- The text of a map: 128 lines of 128 counts in decimal, one blank between two, and the line that says how reading or writing it
-- ended, each with its newline. Definitions only; their laws are in MapText/Laws.antt. Assumes nothing.
use Rattle.std.specs.Prelude.{ℕ, zero, suc, List, [], ◌∷◌, ◌++◌, take, drop}
use Rattle.text.specs.Text.{ascii, decimal, field, fields}
use Rattle.text.specs.Lines.{newline, refused_line}
pub mod Laws
pub mod Cases

-- counts with a blank before each
unfoldable pub spaced : List ℕ → List ℕ
spaced [] = []
spaced (x ∷ xs) = field (ascii " ") x ++ spaced xs

-- a row: its counts, a blank between two of them
unfoldable pub row_text : List ℕ → List ℕ
row_text [] = newline
row_text (x ∷ xs) = decimal x ++ spaced xs ++ newline

-- n rows of 128 counts
unfoldable pub rows_text : ℕ → List ℕ → List ℕ
rows_text zero xs = []
rows_text (suc n) xs = row_text (take 128 xs) ++ rows_text n (drop 128 xs)

unfoldable pub map_text : List ℕ → List ℕ
map_text xs = rows_text 128 xs

-- `done bits B`
abbrev pub done_bits_line : ℕ → List ℕ
done_bits_line bits = field (ascii "done bits ") bits ++ newline

-- `done bytes N photons T`
abbrev pub done_bytes_line : ℕ → ℕ → List ℕ
done_bytes_line bytes photons = fields (ascii "done bytes ") bytes (ascii " photons ") photons ++ newline

-- what reading a map comes to, by the number that refuses it, or else the bits that were used and the counts
unfoldable pub listing_text : ℕ → ℕ → List ℕ → List ℕ
listing_text zero bits xs = map_text xs ++ done_bits_line bits
listing_text (suc e) bits xs = refused_line (suc e)
