-- Document 01: what the table check, packing, unpacking and the room question answer, as functions of all their inputs,
-- the memory lent for writing included. Tables, words and pixels are bytes. Assumes nothing.
use Rattle.std.specs.Prelude.{ℕ, ◌*◌, ◌/◌, ◌≤◌, ◌≡◌, false, List, length, ltb}
use Rattle.bitstream.specs.Bits.{words_of, halves_of, words_for}
use Rattle.row_format.specs.Lists.{any}
use Rattle.row_format.specs.Table.{table_number, max_item_bits}
use Rattle.row_format.specs.Row.{fresh, row_bits, row_bytes, pixels_of, pixel_bytes, too_many, too_high, Item}
use Rattle.row_format.specs.Reading.{Run, done, stop, bits_of_run, row_reading, Reads}
use Rattle.row_format.specs.Place.{place_shown}
use Rattle.row_format.specs.declared.RowUnpacked.{RowUnpacked}
use Rattle.answer.specs.declared.Answer.{Answer}
use Rattle.answer.specs.Outcome.{Outcome, outcome, writes, answer_of, refusal, refused, wrote, ◌or_else◌, unless, lent, room_number}

-- ---- the table check: the number and, where accepted, M
unfoldable pub checked : List ℕ → Answer
checked tb = unless (table_number tb) refusal (answer_of 0 (max_item_bits (words_of tb)))

-- ---- packing, "1, 2, 3, 11, 4, 5": the bits that the row takes, and its words
unfoldable pub pack_number : List ℕ → List ℕ → ℕ → ℕ
pack_number tb ps room_words =
    table_number tb or_else too_many (length ps) or_else too_high ps
    or_else room_number (lent room_words) (words_for (length (row_bits (words_of tb) ps)))

-- what the refusals before the one for room ask of a table and a row
pub record Packable (tb ps : List ℕ) : Type 0 where
  pub table : table_number tb ≡ 0
  pub few : length ps ≤ 4096
  pub pixels : any (ltb 4095) ps ≡ false

abbrev pub packed_row : List ℕ → List ℕ → List ℕ → Outcome Answer
packed_row t ps m = wrote (length (row_bits t ps)) (row_bytes t ps) m

unfoldable pub packed : List ℕ → List ℕ → List ℕ → Outcome Answer
packed tb pb m =
    unless (pack_number tb (halves_of pb) (length m / 4)) (λ e. refused e m) (packed_row (words_of tb) (halves_of pb) m)

-- ---- unpacking: what reading the row comes to
-- refused where reading stopped at a place. Document 02, ticket 2, amends "Every refusal returns 0 for all counts and values":
-- 6 to 10 return the place, "and zero elsewhere"
abbrev pub row_refusal : ℕ → ℕ → RowUnpacked
row_refusal at e = record { number = e; count = 0; at = place_shown e at }

abbrev pub row_refused : ℕ → ℕ → List ℕ → Outcome RowUnpacked
row_refused at e m = outcome (row_refusal at e) m

-- done: the bits used, and the pixels' bytes
abbrev pub row_wrote : ℕ → List ℕ → List ℕ → Outcome RowUnpacked
row_wrote u b m = writes (record { number = 0; count = u; at = 0 }) b m

abbrev pub row_outcome : List ℕ → Run → Outcome RowUnpacked
row_outcome m (done is u) = row_wrote u (pixel_bytes (pixels_of fresh is)) m
row_outcome m (stop e at u) = row_refused at e m

unfoldable pub unpacked : List ℕ → List ℕ → ℕ → List ℕ → Outcome RowUnpacked
unpacked tb wb n m = row_outcome m (row_reading (lent (length m)) tb n wb)

-- an unpacking that is done: the items and bits of its reading, and what it left
pub record Accepts (tb wb : List ℕ) (n : ℕ) (m : List ℕ) : Type 0 where
  pub items : List Item
  pub used : ℕ
  pub reads : Reads (lent (length m)) tb n wb items used
  pub left : unpacked tb wb n m ≡ row_wrote used (pixel_bytes (pixels_of fresh items)) m

-- the bits that it uses, done or refused
unfoldable pub bits_used : List ℕ → List ℕ → ℕ → List ℕ → ℕ
bits_used tb wb n m = bits_of_run (row_reading (lent (length m)) tb n wb)

-- ---- the room question: "n x M / 32, rounded up, with M as in the mission. It refuses 1, 2, 3 and 11"
unfoldable pub room : List ℕ → ℕ → Answer
room tb n = unless (table_number tb or_else too_many n) refusal (answer_of 0 (words_for (n * max_item_bits (words_of tb))))
