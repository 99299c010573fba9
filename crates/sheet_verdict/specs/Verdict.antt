-- What is known where a sheet ends, by the step that saw it. `held` is the bytes that this step read. Definitions only; their laws,
-- by which the last line of the sheet's listing is known (sheet_listing, `EndLine`), are in Verdict/Laws.antt. Assumes nothing.
use Rattle.std.specs.Prelude.{ℕ, ◌≡◌, List}
use Rattle.sheet_format.specs.Stream.{held_of, Carried, ended, next_of, Carries}
use Rattle.sheet_stream.specs.declared.step.SheetStep.{SheetStep}
pub mod Laws

-- for some bytes that were taken before, accepted records to their end, the sheet ends with those that are held, as the step says
pub record SheetEnds (held : List ℕ) (s : SheetStep) : Type 0 where
  pub taken : List ℕ
  pub carried : Carried
  pub carries : Carries taken carried
  pub whole : held ≡ held_of held
  pub ends : next_of carried held ≡ ended s.read.number s.read.at
  pub index : carried.index ≡ s.next.index
  pub rows : carried.rows ≡ s.next.rows
