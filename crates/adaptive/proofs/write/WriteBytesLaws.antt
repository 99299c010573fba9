-- The ways out of write_bytes. Assumes nothing.
use Prim.Native.Nat.{ℕ, ◌≤◌, ◌<◌}
use mathlib.Core.Path.{◌≡◌, sym}
use mathlib.Core.List.{List, ◌++◌}
use lib.ListN.{length, drop}
use borrow.Author.Tests.{lt-ltb}
use Rattle.answer.specs.Outcome.{outcome, answer_of, refused}
use Rattle.adaptive.specs.Calls.{written}
use Rattle.adaptive.specs.Calls.Laws.{written-done}

-- too little room
pub written-refused : (b m : List ℕ) → length m < length b → written b m ≡ refused 5 m
unfolding written
written-refused b m h = rw (lt-ltb (length m) (length b) h)

-- the bytes are written, and counted
pub done-written : (b m m' : List ℕ) (c : ℕ) → length b ≤ length m → c ≡ length b → m' ≡ b ++ drop (length b) m
    → outcome (answer_of 0 c) m' ≡ written b m
done-written b m m' c h ec em = rw (ec, em) (sym (written-done b m h))
