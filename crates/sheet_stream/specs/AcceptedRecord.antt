-- What a program knows of the record that it read last, apart from the step that read it. Definitions only; their laws are in
-- AcceptedRecord/Laws.antt. Assumes nothing.
use Rattle.std.specs.Prelude.{ℕ, ◌*◌, ◌≤◌, ◌<◌, ◌≡◌, List, length, take}
use Rattle.bitstream.specs.Bits.{halves_of, Below}
use Rattle.sheet_format.specs.declared.RecordRead.{RecordRead}
use Rattle.sheet_format.specs.Reading.{record_judged}
use Rattle.sheet_format.specs.Sheet.{StoredRow, record_here}
use Rattle.sheet_format.specs.Stream.{held_of, Carried, context_by, Carries}
use Rattle.sheet_stream.specs.Step.{record_by}
pub mod Laws

-- for some bytes that were taken before, the record whose bytes are held is the sheet's next, and is accepted; a is its answer, and
-- its content is at the front of `content`
pub record AcceptedRecord (held : List ℕ) (a : RecordRead) (content : List ℕ) : Type 0 where
  pub taken : List ℕ
  pub carried : Carried
  pub carries : Carries taken carried
  pub whole : held ≡ held_of held
  pub accepted : (record_judged (context_by carried) held).number ≡ 0
  pub is : record_by a held content ≡ record_here (context_by carried) held

-- the row that an answer and the bytes of a content say
abbrev pub row_answered : RecordRead → List ℕ → StoredRow
row_answered a content = record { number = a.row; heights = halves_of (take (2 * a.count) content) }

-- what is known of it where it is a row
pub record AcceptedRow (a : RecordRead) (content : List ℕ) : Type 0 where
  pub number : a.row < 65536
  pub few : a.count ≤ 4096
  pub there : 2 * a.count ≤ length content
  pub low : Below 4096 (row_answered a content).heights
