-- Value fields and cards by computation: integers and logicals of the fixed format, and what is near to one and is none.
-- Assumes nothing.
use Prim.Native.String.{String}
use Rattle.std.specs.Prelude.{◌≡◌, refl, Bool, true, false, List, [], ◌∷◌, map, length, pos, negsuc}
use Rattle.row_format.specs.Lists.{any}
use Rattle.text.specs.Text.{ascii}
use Rattle.text.specs.Same.{same_bytes}
use Rattle.text.specs.Number.{is_digit}
use Rattle.fits_format.specs.Card.{has_keyword, has_value, is_true, FieldValue, no_integer, is_integer, digits_value, signed_digits, fixed_integer, integer_of}

-- ---- value fields
pub record FieldCase : Type 0 where
  pub text : String
  pub value : FieldValue

infix 80 ◌holds◌
abbrev pub ◌holds◌ : String → FieldValue → FieldCase
t holds v = record { text = t; value = v }

abbrev pub field_cases : List FieldCase
field_cases =
    "                  16" holds is_integer (pos 16) ∷
    "                 -32" holds is_integer (negsuc 31) ∷
    "                 +16" holds is_integer (pos 16) ∷
    -- leading zeros
    "                 016" holds is_integer (pos 16) ∷
    "00000000000000000016" holds is_integer (pos 16) ∷
    "-0000000000000000016" holds is_integer (negsuc 15) ∷
    -- more than 64 bits
    "18446744073709551617" holds is_integer (pos 18446744073709551617) ∷
    -- minus zero is zero
    "                  -0" holds is_integer (pos 0) ∷
    "                   0" holds is_integer (pos 0) ∷
    -- a blank after the digits, among them, after the sign
    "16                  " holds no_integer ∷
    "                 16 " holds no_integer ∷
    "                 1 6" holds no_integer ∷
    "                - 16" holds no_integer ∷
    -- no digit, two signs, a sign behind
    "                    " holds no_integer ∷
    "                   +" holds no_integer ∷
    "                   -" holds no_integer ∷
    "                +-16" holds no_integer ∷
    "                 16-" holds no_integer ∷
    -- a number that is no integer, another base, a text, a logical
    "                16.0" holds no_integer ∷
    "                1E+1" holds no_integer ∷
    "                0x10" holds no_integer ∷
    "'16      '          " holds no_integer ∷
    "                   T" holds no_integer ∷ []

-- each has the twenty columns of a value field
pub fields-whole : map (λ (c : FieldCase). length (ascii c.text)) field_cases ≡ map (λ (c : FieldCase). 20) field_cases
fields-whole = refl

pub fields-right : map (λ (c : FieldCase). fixed_integer (ascii c.text)) field_cases
    ≡ map (λ (c : FieldCase). c.value) field_cases
unfolding any is_digit digits_value signed_digits fixed_integer
fields-right = refl

-- ---- cards
pub record LogicalCase : Type 0 where
  pub text : String
  pub value : Bool

infix 80 ◌says◌
abbrev pub ◌says◌ : String → Bool → LogicalCase
t says b = record { text = t; value = b }

-- what SIMPLE's card says
abbrev pub logical_cases : List LogicalCase
logical_cases =
    "SIMPLE  =                    T / of the FITS standard                           " says true ∷
    "SIMPLE  =                    TRUE, since columns 31 to 80 are not looked at     " says true ∷
    -- another letter, T in another column, something before it
    "SIMPLE  =                    F                                                  " says false ∷
    "SIMPLE  =                    t                                                  " says false ∷
    "SIMPLE  =                   T                                                   " says false ∷
    "SIMPLE  = T                                                                     " says false ∷
    "SIMPLE  =                   1T                                                  " says false ∷
    -- the value indicator a column too early, none, the keyword a column too late, in small letters
    "SIMPLE =                     T                                                  " says false ∷
    "SIMPLE                       T                                                  " says false ∷
    " SIMPLE =                    T                                                  " says false ∷
    "simple  =                    T                                                  " says false ∷ []

pub logicals-right : map (λ (c : LogicalCase). is_true (ascii "SIMPLE  ") (ascii c.text)) logical_cases
    ≡ map (λ (c : LogicalCase). c.value) logical_cases
unfolding same_bytes has_keyword has_value is_true
logicals-right = refl

-- what NAXIS1's card holds
abbrev pub integer_cases : List FieldCase
integer_cases =
    "NAXIS1  =                  300 / pixels of a row                                " holds is_integer (pos 300) ∷
    "NAXIS1  =                  3001 past column 30                                  " holds is_integer (pos 300) ∷
    -- another column
    "NAXIS1  = 300 / free format                                                     " holds no_integer ∷
    "NAXIS1  =                 300                                                   " holds no_integer ∷
    -- the value indicator a column too early, none, another keyword
    "NAXIS1 =                   300                                                  " holds no_integer ∷
    "NAXIS1                     300                                                  " holds no_integer ∷
    "NAXIS   =                  300                                                  " holds no_integer ∷
    "NAXIS10 =                  300                                                  " holds no_integer ∷ []

pub integers-right : map (λ (c : FieldCase). integer_of (ascii "NAXIS1  ") (ascii c.text)) integer_cases
    ≡ map (λ (c : FieldCase). c.value) integer_cases
unfolding same_bytes has_keyword has_value any is_digit digits_value signed_digits fixed_integer integer_of
integers-right = refl

-- each has the eighty columns of a card
pub cards-whole : (map (λ (c : LogicalCase). length (ascii c.text)) logical_cases ≡ map (λ (c : LogicalCase). 80) logical_cases)
    × (map (λ (c : FieldCase). length (ascii c.text)) integer_cases ≡ map (λ (c : FieldCase). 80) integer_cases)
cards-whole = (refl, refl)
