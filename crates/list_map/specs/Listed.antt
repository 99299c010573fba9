-- What the map lister prints of a map of group size g, whose bytes are s, and of a total. Definitions only; their laws are in
-- Listed/. Assumes nothing.
use Rattle.std.specs.Prelude.{ℕ, ◌-◌, ◌*◌, List, ◌++◌, length}
use Rattle.answer.specs.Outcome.{unless}
use Rattle.bitstream.specs.Msb.{msb_bits_of}
use Rattle.text.specs.Lines.{refused_line}
use Rattle.map_format.specs.Reading.{Parse, stops, got}
use Rattle.map_format.specs.Calls.{position_bits, size_number, read_map}
use Rattle.map_text.specs.MapText.{map_text, done_bits_line}
pub mod Laws
pub mod Theorems

-- of what reading n bits comes to: the counts and the bits used, or the number that refuses the map
abbrev pub reading_text : ℕ → Parse (List ℕ) → List ℕ
reading_text n (stops e) = refused_line e
reading_text n (got xs b) = map_text xs ++ done_bits_line (n - length b)

unfoldable pub map_listing : ℕ → List ℕ → ℕ → List ℕ
map_listing g s total = unless (size_number g) refused_line (reading_text (8 * length s) (read_map (position_bits g) total (msb_bits_of s)))
