-- Differences of a row, one after the other. Definitions only; their laws are in Stretch/. Assumes nothing.
use Rattle.std.specs.Prelude.{ℕ, ◌≤◌, ◌<◌, ◌≡◌, Bool, List, length, get_or, ℤ, pos, ◌-ℤ◌, Result, IfOk, IfErr}
use Rattle.answer.specs.declared.refusal.Refusal.{Refusal}
use Rattle.answer.specs.Refusal.{refusal_number}
use Rattle.delta_format.specs.Numbers.{max_of}
use Rattle.delta_format.specs.Row.{RowReading}
use Rattle.delta_reader.specs.declared.stretch.Stretch.{Stretch}
use Rattle.delta_reader.specs.Puts.{RoomFor, AsLong}
use Rattle.delta_reader.specs.Walk.{Walking, Walked}
pub mod Laws

-- from one place of a walk to another, whatever the row is and whatever is left of its values and counts
pub record WalksOn (write : Bool) (n w : ℕ) (ds : List ℤ) (at previous left : ℕ) (x y : List ℕ) (at' previous' left' : ℕ) (x' y' : List ℕ)
    : Type 0 where
  pub on : (row : RowReading) (vs rs : List ℤ) (from counts : ℕ) (x₀ y₀ : List ℕ) → RoomFor x₀ y₀ 0 n
      → Walking write n row (max_of w) ds vs rs x₀ y₀ at from counts previous left x y
      → Walking write n row (max_of w) ds vs rs x₀ y₀ at' from counts previous' left' x' y'

-- the same to the walk's end
pub record WalksOut (write : Bool) (n w : ℕ) (ds : List ℤ) (at previous left : ℕ) (x y x' y' : List ℕ) (number : ℕ) : Type 0 where
  pub out : (row : RowReading) (vs rs : List ℤ) (from counts : ℕ) (x₀ y₀ : List ℕ) → RoomFor x₀ y₀ 0 n
      → Walking write n row (max_of w) ds vs rs x₀ y₀ at from counts previous left x y → Walked write n row x₀ y₀ x' y' number

-- the element at a place is there, and no flag: it is five or more less than MAX
pub record Ordinary (w : ℕ) (ds : List ℤ) (at : ℕ) : Type 0 where
  pub inside : at < length ds
  pub down : ℕ
  pub is : max_of w -ℤ get_or ds at (pos 0) ≡ pos down
  pub far : 5 ≤ down

-- while they are read: so far, and as long as nothing was read the place is the first
pub record Stretching (write : Bool) (n w : ℕ) (ds : List ℤ) (s : Stretch) (x y : List ℕ) (at previous left : ℕ) (x' y' : List ℕ) :
    Type 0 where
  pub walks : WalksOn write n w ds s.at.0 s.previous s.left x y at previous left x' y'
  pub long : AsLong x y x' y'
  pub small : previous < 4294967296
  pub fewer : left ≤ s.left
  pub moved : left ≡ s.left → at ≡ s.at.0

-- the answer r from the place s
pub record Stretched (write : Bool) (n w : ℕ) (ds : List ℤ) (s : Stretch) (x y x' y' : List ℕ)
    (r : Result Stretch Refusal) : Type 0 where
  pub goes : IfOk r (λ g. WalksOn write n w ds s.at.0 s.previous s.left x y g.at.0 g.previous g.left x' y')
  pub stops : IfErr r (λ e. WalksOut write n w ds s.at.0 s.previous s.left x y x' y' (refusal_number e))
  -- an ordinary element at the place is read
  pub less : IfOk r (λ g. 0 < s.left → Ordinary w ds s.at.0 → g.left < s.left)
  pub long : AsLong x y x' y'
