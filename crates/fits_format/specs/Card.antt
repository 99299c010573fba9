-- The FITS standard on cards ("keyword records"): eighty bytes of ASCII each, in columns counted from 1. "Bytes 1 through 8"
-- are the keyword, left-justified and filled with blanks; "= " in bytes 9 and 10 is the value indicator; the value follows.
-- Columns 31 to 80 are not looked at. Definitions only. Assumes nothing.
use Rattle.std.specs.Prelude.{ℕ, ◌+◌, ◌-◌, ◌*◌, Bool, cond, not, ◌&&◌, List, [], ◌∷◌, take, drop, eqb, ℤ, pos, neg_ℤ}
use Rattle.row_format.specs.Lists.{any}
use Rattle.text.specs.Text.{ascii}
use Rattle.text.specs.Number.{is_digit}
use Rattle.text.specs.Same.{same_bytes}

-- ---- the parts of a card
abbrev pub columns : ℕ → ℕ → List ℕ → List ℕ
columns first last c = take (last + 1 - first) (drop (first - 1) c)

-- a card has a keyword; k is the eight bytes of one, with its blanks
unfoldable pub has_keyword : List ℕ → List ℕ → Bool
has_keyword k c = same_bytes (columns 1 8 c) k

-- "fixed format": the value is in columns 11 to 30
abbrev pub value_field : List ℕ → List ℕ
value_field c = columns 11 30 c

unfoldable pub has_value : List ℕ → List ℕ → Bool
has_value k c = has_keyword k c && same_bytes (columns 9 10 c) (ascii "= ")

-- ---- "a fixed-format logical": T in column 30, and blanks before it
unfoldable pub is_true : List ℕ → List ℕ → Bool
is_true k c = has_value k c && same_bytes (value_field c) (ascii "                   T")

-- ---- "a fixed-format integer": right-justified in columns 11 to 30, "a `+` or `-` sign, followed by one or more contiguous
-- ASCII digits, with no embedded spaces. The leading `+` sign is optional. Leading zeros are permitted"
pub data FieldValue : Type 0 where
  no_integer : FieldValue
  is_integer : ℤ → FieldValue

-- the number that digits stand for, the highest first, where v stands for those before
unfoldable pub digits_value : ℕ → List ℕ → ℕ
digits_value v [] = v
digits_value v (b ∷ bs) = digits_value (v * 10 + (b - 48)) bs

-- one or more digits and nothing else, with a sign given to their number
unfoldable pub signed_digits : (ℤ → ℤ) → List ℕ → FieldValue
signed_digits sign [] = no_integer
signed_digits sign (b ∷ bs) =
    cond (any (λ (x : ℕ). not (is_digit x)) (b ∷ bs)) no_integer (is_integer (sign (pos (digits_value 0 (b ∷ bs)))))

-- 32 is a blank, 43 `+`, 45 `-`
unfoldable pub fixed_integer : List ℕ → FieldValue
fixed_integer [] = no_integer
fixed_integer (b ∷ bs) =
    cond (eqb b 32) (fixed_integer bs)
    (cond (eqb b 43) (signed_digits (λ (z : ℤ). z) bs)
    (cond (eqb b 45) (signed_digits neg_ℤ bs)
    (signed_digits (λ (z : ℤ). z) (b ∷ bs))))

-- the integer of a card with such a keyword
unfoldable pub integer_of : List ℕ → List ℕ → FieldValue
integer_of k c = cond (has_value k c) (fixed_integer (value_field c)) no_integer
