-- One item read at a place of a row's words. Definitions only. Assumes nothing.
use Rattle.std.specs.Prelude.{ℕ, ◌+◌, ◌≡◌, cond, List, drop, Result, Ok, Err}
use Rattle.answer.specs.Refusal.{refusal_number}
use Rattle.bitstream.specs.Bits.{words_of, stream}
use Rattle.row_format.specs.Table.{entry_difference}
use Rattle.row_format.specs.Row.{State, pixel_of, difference}
use Rattle.row_format.specs.Reading.{Reading, item, fault, found, raw_height, inside, taken, read_item}
use Rattle.row_item.specs.declared.Progress.{Progress}
use Rattle.row_item.specs.Coded.{coded, row_state}
use Rattle.row_unpacker.specs.declared.item.Got.{Got}
use Rattle.row_unpacker.specs.declared.item.Fault.{Fault}

-- the number of a refusal, and the place of the faulty item
pub data Stopped : Type 0 where
  stopped : ℕ → ℕ → Stopped

-- what the code answers, its refusal as document 01's number
abbrev pub numbered : {A : Type 0} → Result A Fault → Result A Stopped
numbered (Ok given) = Ok given
numbered (Err f) = Err (stopped (refusal_number f.refusal) f.place)

-- a reading at a place as the code answers it. The bits that a refused item uses are no part of the answer
abbrev pub answered : State → ℕ → Reading → Result Got Stopped
answered s at (item i u) = Ok (record { pixel = pixel_of s i; item = coded i; next = at + u })
answered s at (fault e u) = Err (stopped e at)

-- the item at a place: of whatever bytes of a table tb and of words wb
unfoldable pub item_at : List ℕ → List ℕ → ℕ → Progress → Result Got Stopped
item_at tb wb at p = answered (row_state p) at (read_item (words_of tb) (row_state p) (drop at (stream wb)))

-- ---- its parts, over a table's words t and the rest r at the place
-- the item of the codeword at place j of the table
unfoldable pub found_at : List ℕ → State → List ℕ → ℕ → ℕ → Result Got Stopped
found_at t s r at j = answered s at (taken t s r (found j))

-- the item of entry i, whose codeword has n bits
unfoldable pub entry_at : List ℕ → State → ℕ → ℕ → ℕ → Result Got Stopped
entry_at t s at i n = answered s at (cond (inside s (entry_difference t i)) (item (difference (entry_difference t i)) n) (fault 8 n))

-- the item of an escape codeword of n bits: the state has no part in it
pub record HeightAt (r : List ℕ) (at n : ℕ) (x : Result Got Stopped) : Type 0 where
  pub is : (s : State) → x ≡ answered s at (raw_height n r)
