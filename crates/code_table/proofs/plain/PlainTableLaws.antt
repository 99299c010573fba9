-- Lending the plain table out, and refusing to. Assumes nothing.
use Prim.Native.Nat.{ℕ, ◌*◌, ◌≤◌, ◌<◌}
use mathlib.Core.Path.{◌≡◌}
use mathlib.Core.List.{List, ◌++◌}
use lib.ListN.{length, drop}
use borrow.Author.Tests.{le-ltb, lt-ltb}
use Rattle.answer.specs.Outcome.{answer_of, outcome}
use Rattle.row_format.specs.Plain.{plain_table, plain_bytes}
use Rattle.code_table.specs.Plain.{word_bytes, plain_lent}
use Rattle.code_table.specs.Plain.Laws.{length-plain_table, length-plain_bytes}

pub plain-refused : (m : List ℕ) → length m < 2072 → outcome (answer_of 5 0) m ≡ plain_lent m
unfolding plain_lent
plain-refused m h = rw (lt-ltb (length m) 2072 h)

plain-word_bytes : word_bytes plain_table ≡ plain_bytes
unfolding word_bytes plain_bytes
plain-word_bytes = rw length-plain_table

pub plain-lent : (m m' : List ℕ) → 2072 ≤ length m → m' ≡ word_bytes plain_table ++ drop (4 * length plain_table) m
    → outcome (answer_of 0 2072) m' ≡ plain_lent m
unfolding plain_lent
plain-lent m m' h e =
    rw (le-ltb (length m) 2072 h, e, plain-word_bytes, length-plain_table, length-plain_bytes)
