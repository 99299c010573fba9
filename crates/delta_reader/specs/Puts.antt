-- Elements of a row in the lent memory. Definitions only; their laws are in Puts/. Assumes nothing.
use Rattle.std.specs.Prelude.{ℕ, ◌+◌, ◌*◌, ◌≤◌, ◌<◌, ◌≡◌, Bool, true, false, List, map, length, take, replicate, ℤ}
use Rattle.bitstream.specs.Memory.{overwritten}
use Rattle.delta_format.specs.Row.{Element, good}
use Rattle.delta_format.specs.Calls.{value_of, mark_of, values_bytes}
use Rattle.delta_reader.specs.Offset.{offset_value}
pub mod Laws

-- v, in offset binary, and the mark stand for the element e
pub record StandsFor (v mark : ℕ) (e : Element) : Type 0 where
  pub keeps : value_of e ≡ offset_value v
  pub marked : mark_of e ≡ mark
  pub small : v < 4294967296

-- both memories have room for n elements from element `at` on
pub record RoomFor (x y : List ℕ) (at n : ℕ) : Type 0 where
  pub row : 4 * (at + n) ≤ length x
  pub marks : at + n ≤ length y

-- the elements es stand from element `at` on, and all else is as it was
pub record PutsElements (x y : List ℕ) (at : ℕ) (es : List Element) (x' y' : List ℕ) : Type 0 where
  pub row : x' ≡ overwritten x (4 * at) (values_bytes es)
  pub marks : y' ≡ overwritten y at (map mark_of es)

-- the same of n elements that are all one, whichever it is that v and the mark stand for
pub record PutsAlike (v mark : ℕ) (x y : List ℕ) (at n : ℕ) (x' y' : List ℕ) : Type 0 where
  pub puts : (e : Element) → StandsFor v mark e → PutsElements x y at (replicate n e) x' y'

-- neither has changed
pub record Unchanged (x y x' y' : List ℕ) : Type 0 where
  pub row : x' ≡ x
  pub marks : y' ≡ y

-- the same where they are to be written; else nothing is
pub record PutsIf (write : Bool) (x y : List ℕ) (at : ℕ) (es : List Element) (x' y' : List ℕ) : Type 0 where
  pub written : write ≡ true → PutsElements x y at es x' y'
  pub kept : write ≡ false → Unchanged x y x' y'

-- while elements are put: both memories are as long as they were
pub record AsLong (x y x' y' : List ℕ) : Type 0 where
  pub row : length x' ≡ length x
  pub marks : length y' ≡ length y

-- i of n elements that are all one
pub record PuttingAlike (v mark : ℕ) (x y : List ℕ) (at n i : ℕ) (x' y' : List ℕ) : Type 0 where
  pub most : i ≤ n
  pub long : AsLong x y x' y'
  pub alike : PutsAlike v mark x y at i x' y'

-- i of n values vs
pub record PuttingValues (x y : List ℕ) (at : ℕ) (vs : List ℤ) (n i : ℕ) (x' y' : List ℕ) : Type 0 where
  pub most : i ≤ n
  pub long : AsLong x y x' y'
  pub puts : PutsElements x y at (map good (take i vs)) x' y'
