-- A row's walk over DATA. max is MAX; ds, vs and rs are all elements of the arrays, x and y the memories. Definitions only; their laws
-- are in Walk/. Assumes nothing.
use Rattle.std.specs.Prelude.{ℕ, ◌+◌, ◌<◌, ◌≡◌, Bool, true, false, cond, List, length, drop, eqb, ℤ}
use Rattle.delta_format.specs.Row.{Element, Previous, none, value, RowReading, stops, reads, joined_to, row_from}
use Rattle.delta_format.specs.declared.FirstData.{FirstData}
use Rattle.delta_format.specs.declared.FirstValue.{FirstValue}
use Rattle.delta_format.specs.declared.FirstRepeat.{FirstRepeat}
use Rattle.delta_format.specs.Calls.{delta_row_at}
use Rattle.delta_reader.specs.Offset.{offset_value}
use Rattle.delta_reader.specs.Puts.{PutsElements, Unchanged, PutsIf, AsLong}
pub mod Laws

-- what the next difference is taken from: nothing before the row's first element
abbrev pub previous_at : ℕ → ℕ → ℕ → Previous
previous_at n left v = cond (eqb left n) none (value (offset_value v))

-- the row that begins at three places
abbrev pub delta_row_of : ℕ → ℕ → List ℕ → ℕ → List ℕ → List ℕ → FirstData → FirstValue → FirstRepeat → RowReading
delta_row_of n w s v t u at from counts =
    delta_row_at n (record { data_bits = w; data_bytes = s; value_bits = v; value_bytes = t; repeat_bytes = u })
    (record { «data» = at; value = from; repeat = counts })

-- before the element of DATA at `at`: left of n elements are wanted
pub record Walking (write : Bool) (n : ℕ) (row : RowReading) (max : ℤ) (ds vs rs : List ℤ) (x y : List ℕ) (at from counts previous left : ℕ)
    (x' y' : List ℕ) : Type 0 where
  pub elements : List Element
  pub counted : length elements + left ≡ n
  pub rest : row ≡ joined_to elements (row_from max (previous_at n left previous) left (drop at ds) (drop from vs) (drop counts rs))
  pub small : previous < 4294967296
  pub puts : PutsIf write x y 0 elements x' y'
  pub long : AsLong x y x' y'

-- a row that is done
pub record WholeRow (n : ℕ) (row : RowReading) (es : List Element) : Type 0 where
  pub data_left : List ℤ
  pub values_left : List ℤ
  pub counts_left : List ℤ
  pub reading : row ≡ reads es data_left values_left counts_left
  pub count : length es ≡ n

pub record WalkedAll (write : Bool) (n : ℕ) (row : RowReading) (x y x' y' : List ℕ) : Type 0 where
  pub elements : List Element
  pub whole : WholeRow n row elements
  pub written : write ≡ true → PutsElements x y 0 elements x' y'

-- the walk's answer r
pub record Walked (write : Bool) (n : ℕ) (row : RowReading) (x y x' y' : List ℕ) (r : ℕ) : Type 0 where
  pub stopped : (r ≡ 0 → ⊥) → row ≡ stops r
  pub done : r ≡ 0 → WalkedAll write n row x y x' y'
  pub kept : write ≡ false → Unchanged x y x' y'
