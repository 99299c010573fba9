-- The listing by turns, as a program makes it that holds one record at a time (sheet_format, Stream.antt): it prints the line of
-- the record that comes next, or the last line. Definitions only; that such turns print the listing is in Turns/Laws.antt.
-- Assumes nothing.
use Rattle.std.specs.Prelude.{ℕ, zero, suc, ◌≡◌, Bool, true, false, cond, List, [], ◌++◌, drop}
use Rattle.sheet_format.specs.Record.{record_span}
use Rattle.sheet_format.specs.Sheet.{sheet_read}
use Rattle.sheet_format.specs.Stream.{held_of, Carried, Next, ended, more, next_of, Carries}
use Rattle.sheet_listing.specs.Line.{record_line, last_line}
use Rattle.sheet_listing.specs.Listing.{last_of}
pub mod Laws
pub mod Taken

-- what a turn comes to: the line that it prints, whether that is the last one, and what is carried on
pub record Turned : Type 0 where
  pub line : List ℕ
  pub last : Bool
  pub next : Carried

-- the last turn, by its number and the bit where its row's reading stopped
abbrev pub last_turn : Carried → ℕ → ℕ → Turned
last_turn p at e = record { line = last_line e at p.index p.rows; last = true; next = p }

-- by what comes next
abbrev pub turn_for : Carried → Next → Turned
turn_for p (ended e at) = last_turn p at e
turn_for p (more x q) = record { line = record_line x; last = false; next = q }

-- with the bytes that are held
abbrev pub turn_of : Carried → List ℕ → Turned
turn_of p b = turn_for p (next_of p b)

-- the text from a place on. A turn that is not the last takes at least one byte, so that n bounds the turns
unfoldable pub turns : ℕ → Carried → List ℕ → List ℕ
turns zero p r = []
turns (suc n) p r =
    let t : Turned = turn_of p (held_of r) in
    cond t.last t.line (t.line ++ turns n t.next (drop (record_span r) r))

-- ---- the lister on its way
-- l is the line of the next turn, with these bytes held, for some that were taken before
pub record NextLine (bytes l : List ℕ) : Type 0 where
  pub taken : List ℕ
  pub carried : Carried
  pub carries : Carries taken carried
  pub held : bytes ≡ held_of bytes
  pub line : l ≡ (turn_of carried bytes).line

-- l is so, and is the last line of the listing of all these bytes
pub record EndLine (bytes l : List ℕ) : Type 0 where
  pub next : NextLine bytes l
  pub last : l ≡ last_of (sheet_read (next.taken ++ bytes))
