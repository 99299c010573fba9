-- What a call that lists a table's strings answers. Definitions only. Assumes nothing.
use Rattle.std.specs.Prelude.{ℕ, Result, Ok, Err}
use Rattle.answer.specs.declared.refusal.Refusal.{Refusal}
use Rattle.answer.specs.Refusal.{refusal_number}
use Rattle.table_listing.specs.declared.Listed.{Listed}

-- a number of document 01's table, 0 for done; how many lines a call put, and how many bytes they take. A refusal has 0 for both
pub record ListedLines : Type 0 where
  pub number : ℕ
  pub lines : ℕ
  pub bytes : ℕ

-- what a call gave, with its number
abbrev pub as_listed : Result Listed Refusal → ListedLines
as_listed (Ok l) = record { number = 0; lines = l.lines; bytes = l.bytes }
as_listed (Err e) = record { number = refusal_number e; lines = 0; bytes = 0 }
