-- The items of a row read one after the other, with their pixels' bytes in memory. Definitions only. Assumes nothing.
use Rattle.std.specs.Prelude.{ℕ, ◌*◌, ◌≡◌, List, take, Result, Ok, Err}
use Rattle.answer.specs.Outcome.{Outcome}
use Rattle.bitstream.specs.Bits.{flat, bytes_of, words_of, stream}
use Rattle.row_format.specs.Row.{State, pixels_of}
use Rattle.row_format.specs.Reading.{Run, done, stop, read_items, without_stray}
use Rattle.row_format.specs.declared.RowUnpacked.{RowUnpacked}
use Rattle.row_format.specs.Calls.{row_outcome}
use Rattle.row_unpacker.specs.declared.item.Fault.{Fault}
use Rattle.row_unpacker.specs.Item.{stopped, numbered}

-- n items under the table's bytes, from the first bit of the words on
abbrev pub items_read : List ℕ → List ℕ → ℕ → Run
items_read tb wb n = read_items (words_of tb) n (stream wb)

-- and what they leave in the lent memory, refused 10 at a stray bit
abbrev pub row_left : List ℕ → List ℕ → ℕ → List ℕ → Outcome RowUnpacked
row_left tb wb n m = row_outcome m (without_stray (stream wb) (items_read tb wb n))

-- what a reading has come to: the pixels' bytes and the bits used; or the number and the place of the faulty item
pub data RowReached : Type 0 where
  whole : List ℕ → ℕ → RowReached
  halted : ℕ → ℕ → RowReached

-- of a run of n items from a state on
abbrev pub row_reached : ℕ → State → Run → RowReached
row_reached n s (done is u) = whole (bytes_of (2 * n) (flat 16 (pixels_of s is))) u
row_reached n s (stop e at u) = halted e at

-- the code's answer, and the memory of n pixels
abbrev pub RowIs : ℕ → List ℕ → Result ℕ Fault → RowReached → Type 0
RowIs n out x (whole b u) = (x ≡ Ok u) × (take (2 * n) out ≡ b)
RowIs n out x (halted e at) = numbered x ≡ Err (stopped e at)
