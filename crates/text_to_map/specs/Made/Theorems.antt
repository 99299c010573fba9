-- The text of a map comes to that map, alone and with a line behind it that begins with `done`, as list_map prints it. Assumes nothing.
use Rattle.std.specs.Prelude.{ℕ, ◌≡◌, List, ◌++◌, length}
use Rattle.answer.specs.Outcome.Laws.{unequal_number-none}
use Rattle.bitstream.specs.Bits.{Below}
use Rattle.text.specs.Text.{ascii}
use Rattle.map_format.specs.Reading.{sum}
use Rattle.map_format.specs.Calls.{position_bits, size_number, map_bytes}
use Rattle.map_text.specs.MapText.{map_text}
use Rattle.map_text.specs.Scan.{counts, text_counts}
use Rattle.map_text.specs.Theorems.{text-back, text-back-done}
use Rattle.text_to_map.specs.Made.{a_map, making}

module _ (g : ℕ) (xs : List ℕ) (group : size_number g ≡ 0) (size : length xs ≡ 16384) (low : Below 65536 xs) where
  comes-to : (text : List ℕ) → text_counts text ≡ counts xs → making g text ≡ a_map (map_bytes (position_bits g) xs) (sum xs)
  unfolding making
  comes-to text is = rw (is, group, unequal_number-none (length xs) 16384 14 size)

  pub text-converted : making g (map_text xs) ≡ a_map (map_bytes (position_bits g) xs) (sum xs)
  text-converted = comes-to (map_text xs) (text-back xs size low)

  pub listing-converted : (rest : List ℕ)
      → making g (map_text xs ++ (ascii "done" ++ rest)) ≡ a_map (map_bytes (position_bits g) xs) (sum xs)
  listing-converted rest = comes-to (map_text xs ++ (ascii "done" ++ rest)) (text-back-done xs rest size low)
