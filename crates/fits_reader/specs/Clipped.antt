-- What the code keeps of an integer: its value up to a number, for a scan's axes 4097, and 0 where there is none or it is below 1.
-- Definitions only; their laws are in Clipped/Laws.antt. Assumes nothing.
use Rattle.std.specs.Prelude.{ℕ, ◌+◌, ◌-◌, ◌*◌, ◌<◌, min, ◌≡◌, cond, List, [], ◌∷◌, length, get_or, pos, negsuc}
use Rattle.text.specs.Number.{is_digit}
use Rattle.fits_format.specs.Card.{FieldValue, no_integer, is_integer}
pub mod Laws

abbrev pub clipped : FieldValue → ℕ
clipped no_integer = 0
clipped (is_integer (pos k)) = min k 4097
clipped (is_integer (negsuc k)) = 0

-- what is kept, up to `most`, of the number of some bytes with no sign, where v stands for the digits before; 0 where one of them is
-- no digit
unfoldable pub digits_clipped : ℕ → ℕ → List ℕ → ℕ
digits_clipped most v [] = min v most
digits_clipped most v (b ∷ bs) = cond (is_digit b) (digits_clipped most (v * 10 + (b - 48)) bs) 0

-- some bytes of which the first is no blank
pub record NotBlank (s : List ℕ) : Type 0 where
  pub some : 0 < length s
  pub first : get_or s 0 0 ≡ 32 → ⊥
