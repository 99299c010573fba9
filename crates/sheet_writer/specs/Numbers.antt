-- A line's numbers, one after another. Definitions only. Assumes nothing.
use Rattle.std.specs.Prelude.{ℕ, List, ◌++◌, length, drop}
use Rattle.sheet_format.specs.Line.{line_bytes}
use Rattle.sheet_format.specs.Kind.ContourLine.{given_numbers}

-- the memory m with the numbers of a content x at its front
abbrev pub numbers_written : List ℕ → List ℕ → List ℕ
numbers_written x m = line_bytes (given_numbers x) ++ drop (length (line_bytes (given_numbers x))) m
