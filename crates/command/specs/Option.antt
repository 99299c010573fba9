-- Options with values, by a usage text such as `-o OUT --range LOW HIGH`: a word that begins with `-` is an option, and the words
-- behind it that do not are its values. Definitions only; their laws are in Option/Laws.antt. Assumes nothing.
use Rattle.std.specs.Prelude.{ℕ, ◌+◌, cond, List, [], ◌∷◌, get_or, eqb, Option, Some, None}
use Rattle.text.specs.Same.{same_bytes}
use Rattle.command.specs.Argument.{argument_of}
use Rattle.command.specs.declared.argument.Argument.{Argument}
use Rattle.command.specs.declared.argument.Argument.TheVariants as argument
use Rattle.command.specs.declared.option.Role.{Role}
use Rattle.command.specs.declared.option.Role.TheVariants.{Help, Version, End, Plain, Unknown, Takes}
pub mod Laws

-- a byte in front of the first of some words
abbrev pub in_front : ℕ → List (List ℕ) → List (List ℕ)
in_front b [] = (b ∷ []) ∷ []
in_front b (w ∷ ws) = (b ∷ w) ∷ ws

-- the words of a text, which single blanks, byte 32, part
unfoldable pub usage_words : List ℕ → List (List ℕ)
usage_words [] = [] ∷ []
usage_words (b ∷ s) = cond (eqb b 32) ([] ∷ usage_words s) (in_front b (usage_words s))

-- how many words there are in front of the next option; 45 is `-`
unfoldable pub values_in : List (List ℕ) → ℕ
values_in [] = 0
values_in (w ∷ ws) = cond (eqb (get_or w 0 0) 45) 0 (values_in ws + 1)

-- the values of an option, where it is one
unfoldable pub option_in : List (List ℕ) → List ℕ → Option ℕ
option_in [] s = None
option_in (w ∷ ws) s = cond (same_bytes w s) (Some (values_in ws)) (option_in ws s)

-- what a word of a command line is, while options may still come
abbrev pub takes_of : Option ℕ → Role
takes_of None = Unknown
takes_of (Some k) = Takes k

abbrev pub role_by : Argument → Option ℕ → Role
role_by argument.Help v = Help
role_by argument.Version v = Version
role_by argument.End v = End
role_by argument.Input v = Plain
role_by argument.Name v = Plain
role_by argument.Unknown v = takes_of v

abbrev pub role_of : List ℕ → List ℕ → Role
role_of usage s = role_by (argument_of s) (option_in (usage_words usage) s)
