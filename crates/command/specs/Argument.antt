-- What an argument of a command line is, by its bytes, while options may still come. Definitions only; their laws are in
-- Argument/Laws.antt. Assumes nothing.
use Rattle.std.specs.Prelude.{ℕ, ◌+◌, ◌-◌, cond, List, get_or, eqb, ltb}
use Rattle.text.specs.Text.{ascii}
use Rattle.text.specs.Same.{same_bytes}
use Rattle.command.specs.declared.argument.Argument.{Argument}
use Rattle.command.specs.declared.argument.Argument.TheVariants.{Help, Version, End, Input, Unknown, Name}
pub mod Laws

-- how many of so many arguments are files, where `--` stands at a place: all but the program's own name and the `--`
abbrev pub file_count : ℕ → ℕ → ℕ
file_count arguments end = cond (ltb end arguments) (arguments - 2) (arguments - 1)

-- the place of word k, from 0 on, of those that are no options: the program's own name stands at 0, and `--` is passed over
unfoldable pub word_place : ℕ → ℕ → ℕ
word_place end k = cond (ltb (k + 1) end) (k + 1) (k + 2)

-- `-` alone is standard input; any other word that begins with it, byte 45, but for the options, is unknown; the
-- rest name files
unfoldable pub dashed_of : List ℕ → Argument
dashed_of s = cond (same_bytes s (ascii "-")) Input (cond (eqb (get_or s 0 0) 45) Unknown Name)

unfoldable pub argument_of : List ℕ → Argument
argument_of s =
    cond (same_bytes s (ascii "--help")) Help
    (cond (same_bytes s (ascii "--version")) Version
    (cond (same_bytes s (ascii "--")) End (dashed_of s)))
