-- The second pass: how far the sheet is read, and what is known of its rows by that, however it goes on. Definitions only; their laws
-- are in Ahead/. Assumes nothing.
use Rattle.std.specs.Prelude.{ℕ, ◌+◌, ◌-◌, ◌*◌, ◌≤◌, ◌<◌, ◌≡◌, Bool, true, false, cond, List, ◌++◌, take, ltb}
use Rattle.bitstream.specs.Bits.{halves_of}
use Rattle.sheet_format.specs.Kind.{Payload, a_table, a_row, a_line, no_payload}
use Rattle.sheet_format.specs.Sheet.{StoredRow, stored_rows, sheet_read, absent, present, heights_of}
use Rattle.sheet_format.specs.Stream.{held_of, Carried, ended, next_of, Carries}
use Rattle.sheet_stream.specs.Progress.{carried_by}
use Rattle.sheet_stream.specs.Progress.Laws.{progress_first}
use Rattle.draw_sheet.specs.declared.advance.Ahead.{Ahead}
pub mod Laws

abbrev pub rows_in : List ℕ → List StoredRow
rows_in s = stored_rows (sheet_read s).records

-- the bytes of a row's n heights; what holds no row has none
abbrev pub height_bytes : Payload → ℕ → ℕ
height_bytes a_table n = 0
height_bytes a_row n = 2 * n
height_bytes a_line n = 0
height_bytes no_payload n = 0

-- nothing is read yet
abbrev pub none_read : Ahead
none_read = record { ended = false; held = 0; count = 0; at = progress_first }

-- the least row number that may come next
abbrev pub least_in : Ahead → ℕ
least_in a = a.at.state.least_row

-- whether row n is known
abbrev pub is_known : Ahead → ℕ → Bool
is_known a n = cond a.ended true (ltb n (least_in a))

-- ---- s may be the sheet, of which the bytes t were read as records and then, where it has ended, e
pub record BeginsSheet (t s : List ℕ) : Type 0 where
  pub rest : List ℕ
  pub is : s ≡ t ++ rest

abbrev pub MayBe : Bool → List ℕ → List ℕ → List ℕ → Type 0
MayBe false t e s = BeginsSheet t s
MayBe true t e s = s ≡ t ++ e

-- with the bytes e, which are what is held of a record, or none, the sheet is over
pub record SheetOver (p : Carried) (e : List ℕ) : Type 0 where
  pub held : e ≡ held_of e
  pub number : ℕ
  pub place : ℕ
  pub ends : next_of p e ≡ ended number place

-- the bytes that are held are the last of t, behind those before them, or, where the sheet has ended, e
abbrev pub HeldLast : Bool → List ℕ → List ℕ → List ℕ → List ℕ → Type 0
HeldLast false before held t e = before ++ held ≡ t
HeldLast true before held t e = (before ≡ t) × (held ≡ e)

-- row n could still come after some bytes that were taken before, accepted records to their end; behind them the bytes that are
-- held were read, of one record or none
pub record HeldBy (held : List ℕ) (n : ℕ) (end : Bool) (t e : List ℕ) : Type 0 where
  pub before : List ℕ
  pub carried : Carried
  pub carries : Carries before carried
  pub whole : held ≡ held_of held
  pub later : carried.state.least_row ≤ n
  pub last : HeldLast end before held t e

-- ---- what is known of the rows from n on: of the last row that was read, whose heights stand in `content`, and of the numbers
-- before it; the record that was read last stands in `bytes`
pub record ReadTo (a : Ahead) (bytes table content : List ℕ) (n : ℕ) : Type 0 where
  pub taken : List ℕ
  pub last : List ℕ
  pub carries : Carries taken (carried_by a.at table)
  pub over : a.ended ≡ true → SheetOver (carried_by a.at table) last
  pub row : n < least_in a → (rest : List ℕ)
      → heights_of (least_in a - 1) (rows_in (taken ++ rest)) ≡ present (halves_of (take a.count content))
  pub between : (m : ℕ) → n ≤ m → m + 1 < least_in a → (rest : List ℕ) → heights_of m (rows_in (taken ++ rest)) ≡ absent
  pub known : is_known a n ≡ true → HeldBy (take a.held bytes) n a.ended taken last

-- from w on the sheet was read on, or later rows are asked for: what may be the sheet now might be before
pub record Onward {a : Ahead} {bytes table content : List ℕ} {n : ℕ} (w : ReadTo a bytes table content n) (a' : Ahead)
    (bytes' table' content' : List ℕ) (n' : ℕ) : Type 0 where
  pub now : ReadTo a' bytes' table' content' n'
  pub narrows : (s : List ℕ) → MayBe a'.ended now.taken now.last s → MayBe a.ended w.taken w.last s
