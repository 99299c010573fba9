-- What a text comes to: a map's bytes or a refusal, and the line that says so; and what a program knows of it that holds the counts
-- and a part of the text at a time. g is a group size. Definitions only; their laws are in Made/. Assumes nothing.
use Rattle.std.specs.Prelude.{ℕ, zero, suc, ◌≡◌, not, List, [], ◌++◌, length, eqb}
use Rattle.answer.specs.Outcome.{◌or_else◌, refuse_if, unless}
use Rattle.bitstream.specs.Bits.{halves_of}
use Rattle.row_format.specs.Row.{pixel_bytes}
use Rattle.text.specs.Lines.{refused_line}
use Rattle.map_format.specs.Reading.{sum}
use Rattle.map_format.specs.Calls.{position_bits, size_number, map_bytes}
use Rattle.map_text.specs.declared.counts.Taken.{Taken}
use Rattle.map_text.specs.declared.scan.Scan.{Scan}
use Rattle.map_text.specs.declared.scan.Scan.TheVariants.{Line}
use Rattle.map_text.specs.MapText.{done_bytes_line}
use Rattle.map_text.specs.Scan.{scan_after, counts_from, Text, no_text, counts, text_counts}
use Rattle.map_text.specs.Held.{kept, Held}
pub mod Laws
pub mod Theorems

-- ---- what a text comes to: none, a number that refuses the map, or the map's bytes and its photons
pub data Making : Type 0 where
  not_text : Making
  refused_map : ℕ → Making
  a_map : List ℕ → ℕ → Making

-- "14 another group size or, in writing, other than 16384 counts"
abbrev pub map_number : ℕ → List ℕ → ℕ
map_number g xs = size_number g or_else refuse_if (not (eqb (length xs) 16384)) 14

abbrev pub map_of : ℕ → Text → Making
map_of g no_text = not_text
map_of g (counts xs) = unless (map_number g xs) refused_map (a_map (map_bytes (position_bits g) xs) (sum xs))

unfoldable pub making : ℕ → List ℕ → Making
making g s = map_of g (text_counts s)

-- ---- the verdict
-- by the number, the bytes and the photons
unfoldable pub making_text : ℕ → ℕ → ℕ → List ℕ
making_text zero bytes photons = done_bytes_line bytes photons
making_text (suc e) bytes photons = refused_line (suc e)

-- of a conversion; there is none of what is no text
abbrev pub making_line : Making → List ℕ
making_line not_text = []
making_line (refused_map e) = refused_line e
making_line (a_map b photons) = done_bytes_line (length b) photons

-- ---- what is known while a text is taken
-- it had come to t, with its counts in the memory m; with the bytes b it has come to t', with them in m'
pub record BlockTaken (t : Taken) (m b : List ℕ) (t' : Taken) (m' : List ℕ) : Type 0 where
  pub scan : t'.scan ≡ scan_after t.scan b
  pub held : (xs : List ℕ) → Held xs t.count m → Held (xs ++ counts_from t.scan b) t'.count m'

-- for some text it has come to this
pub record TextUnderway (t : Taken) (m : List ℕ) : Type 0 where
  pub text : List ℕ
  pub scan : t.scan ≡ scan_after Line text
  pub held : Held (counts_from Line text) t.count m

-- some text has come to this and is none of counts
pub record NotText (scan : Scan) : Type 0 where
  pub text : List ℕ
  pub ended : scan ≡ scan_after Line text
  pub none : text_counts text ≡ no_text

-- held is the bytes of the counts of some text, as many as are kept
pub record CountsOf (held : List ℕ) : Type 0 where
  pub text : List ℕ
  pub xs : List ℕ
  pub counted : text_counts text ≡ counts xs
  pub bytes : held ≡ pixel_bytes (kept xs)

-- ---- what is written with that: the text, whose counts are held, comes to c
pub record Makes (g : ℕ) (held : List ℕ) (c : Making) : Type 0 where
  pub of : CountsOf held
  pub comes : making g of.text ≡ c

-- b is the map
pub record MapOf (g : ℕ) (held b : List ℕ) : Type 0 where
  pub photons : ℕ
  pub converted : Makes g held (a_map b photons)

-- with such a number, or so many bytes, and the photons of the counts that are held
abbrev pub end_of : ℕ → List ℕ → ℕ → Making
end_of zero b photons = a_map b photons
end_of (suc e) b photons = refused_map (suc e)

pub record MakingEnded (g : ℕ) (held : List ℕ) (number bytes : ℕ) : Type 0 where
  pub map : List ℕ
  pub size : bytes ≡ length map
  pub converted : Makes g held (end_of number map (sum (halves_of held)))

-- l is the verdict
pub record VerdictOf (g : ℕ) (held l : List ℕ) : Type 0 where
  pub making : Making
  pub converted : Makes g held making
  pub line : l ≡ making_line making
