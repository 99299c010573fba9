-- The text of a row, of any length, and of a map give their counts back, a map's also with a line behind it that begins with
-- `done`. Assumes nothing.
use Rattle.std.specs.Prelude.{ℕ, ◌≡◌, List, ◌++◌, length}
use Rattle.bitstream.specs.Bits.{Below}
use Rattle.text.specs.Text.{ascii}
use Rattle.map_text.specs.MapText.{row_text, map_text, listing_text}
use Rattle.map_text.specs.Scan.{counts, text_counts}
pub mod Back
use Back.{row_back, map_back, done-back, listing-back}

pub row-text-back : (xs : List ℕ) → Below 65536 xs → text_counts (row_text xs) ≡ counts xs
row-text-back = row_back

-- for 16384 counts below 65536
pub text-back : (xs : List ℕ) → length xs ≡ 16384 → Below 65536 xs → text_counts (map_text xs) ≡ counts xs
text-back = map_back

pub text-back-done : (xs rest : List ℕ) → length xs ≡ 16384 → Below 65536 xs
    → text_counts (map_text xs ++ (ascii "done" ++ rest)) ≡ counts xs
text-back-done = done-back

-- what list_map prints of a map that is read, so that text_to_map takes it
pub listing-text-back : (xs : List ℕ) (bits : ℕ) → length xs ≡ 16384 → Below 65536 xs → text_counts (listing_text 0 bits xs) ≡ counts xs
listing-text-back = listing-back
