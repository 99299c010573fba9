-- docs/FORMAT.md's scan, its header and the changes of it, by computation. Assumes nothing.
use Rattle.std.specs.Prelude.{ℕ, ◌≡◌, refl, List, [], ◌∷◌, ◌++◌, map, take, replicate}
use Prim.Native.String.{String}
use Rattle.row_format.specs.Lists.{any}
use Rattle.text.specs.Text.{ascii}
use Rattle.text.specs.Same.{same_bytes}
use Rattle.text.specs.Number.{is_digit}
use Rattle.fits_format.specs.Card.{has_keyword, has_value, is_true, digits_value, signed_digits, fixed_integer, integer_of}
use Rattle.fits_format.specs.Header.{cards_of, before_end, card_integer, header_clauses, header_number, end_card, image_of}

-- a card by its text up to its last character that is no blank
abbrev pub card_bytes : String → List ℕ
card_bytes t = take 80 (ascii t ++ replicate 80 32)

unfoldable pub file_of : List String → List ℕ
file_of [] = []
file_of (t ∷ ts) = card_bytes t ++ file_of ts

-- cards, and the number that they get as a header
pub record HeaderCase : Type 0 where
  pub cards : List String
  pub number : ℕ

infix 80 ◌gets◌
abbrev pub ◌gets◌ : List String → ℕ → HeaderCase
ts gets e = record { cards = ts; number = e }

abbrev simple : String
simple = "SIMPLE  =                    T / a scan"

abbrev bitpix : String
bitpix = "BITPIX  =                   16"

abbrev naxis : String
naxis = "NAXIS   =                    2"

abbrev width3 : String
width3 = "NAXIS1  =                    3"

abbrev rows2 : String
rows2 = "NAXIS2  =                    2"

-- after the first five cards
abbrev after5 : List String → List String
after5 rest = simple ∷ bitpix ∷ naxis ∷ width3 ∷ rows2 ∷ rest

abbrev end_only : List String
end_only = "INSTRUME= 'foot scanner'" ∷ "END" ∷ []

abbrev pub header_cases : List HeaderCase
header_cases =
    after5 end_only gets 0
    -- SIMPLE
    ∷ ("SIMPLE  =                    F" ∷ bitpix ∷ naxis ∷ width3 ∷ rows2 ∷ end_only) gets 17
    ∷ ("SIMPLE  =                   T" ∷ bitpix ∷ naxis ∷ width3 ∷ rows2 ∷ end_only) gets 17
    -- BITPIX
    ∷ (simple ∷ "BITPIX  =                    8" ∷ naxis ∷ width3 ∷ rows2 ∷ end_only) gets 17
    ∷ (simple ∷ "BITPIX  =                  -32" ∷ naxis ∷ width3 ∷ rows2 ∷ end_only) gets 17
    ∷ (simple ∷ "BITPIX  =                  +16" ∷ naxis ∷ width3 ∷ rows2 ∷ end_only) gets 0
    ∷ (simple ∷ "BITPIX  =                00016" ∷ naxis ∷ width3 ∷ rows2 ∷ end_only) gets 0
    -- NAXIS
    ∷ (simple ∷ bitpix ∷ "NAXIS   =                    3" ∷ width3 ∷ rows2 ∷ end_only) gets 17
    -- the axes: exchanged, no integer, below 1, above 4096
    ∷ (simple ∷ bitpix ∷ naxis ∷ rows2 ∷ width3 ∷ end_only) gets 17
    ∷ (simple ∷ bitpix ∷ naxis ∷ "NAXIS1  =                   3." ∷ rows2 ∷ end_only) gets 17
    ∷ (simple ∷ bitpix ∷ naxis ∷ "NAXIS1  =                  - 3" ∷ rows2 ∷ end_only) gets 17
    ∷ (simple ∷ bitpix ∷ naxis ∷ "NAXIS1  =                    0" ∷ rows2 ∷ end_only) gets 17
    ∷ (simple ∷ bitpix ∷ naxis ∷ "NAXIS1  =                   -0" ∷ rows2 ∷ end_only) gets 17
    ∷ (simple ∷ bitpix ∷ naxis ∷ "NAXIS1  =                   -3" ∷ rows2 ∷ end_only) gets 17
    ∷ (simple ∷ bitpix ∷ naxis ∷ "NAXIS1  =                 4096" ∷ rows2 ∷ end_only) gets 0
    ∷ (simple ∷ bitpix ∷ naxis ∷ "NAXIS1  =                 4097" ∷ rows2 ∷ end_only) gets 11
    ∷ (simple ∷ bitpix ∷ naxis ∷ "NAXIS1  = 18446744073709551617" ∷ rows2 ∷ end_only) gets 11
    ∷ (simple ∷ bitpix ∷ naxis ∷ width3 ∷ "NAXIS2  =                 4097" ∷ end_only) gets 11
    -- 17 comes before 11
    ∷ (simple ∷ bitpix ∷ naxis ∷ "NAXIS1  =                 4097" ∷ "NAXIS2  =                    0" ∷ end_only) gets 17
    -- no value indicator
    ∷ (simple ∷ bitpix ∷ naxis ∷ width3 ∷ "NAXIS2  =2                   2" ∷ end_only) gets 17
    -- scaled: before END, with or without a value; nearly; after END
    ∷ after5 ("BZERO   =                    0" ∷ end_only) gets 17
    ∷ after5 ("BSCALE" ∷ end_only) gets 17
    ∷ after5 ("BSCALED =                    2" ∷ end_only) gets 0
    ∷ after5 ("END" ∷ "BZERO   =                32768" ∷ []) gets 0
    -- END: with a text, with none of its blanks, not in its column, none
    ∷ after5 ("END     here" ∷ []) gets 0
    ∷ after5 ("END here" ∷ []) gets 17
    ∷ after5 (" END" ∷ []) gets 17
    ∷ after5 [] gets 17
    ∷ [] gets 17
    -- END is card 359, the last of ten blocks, and card 360
    ∷ after5 (replicate 354 "" ++ ("END" ∷ [])) gets 0
    ∷ after5 (replicate 355 "" ++ ("END" ∷ [])) gets 17
    ∷ []

pub headers-right : map (λ (c : HeaderCase). header_number (file_of c.cards)) header_cases
    ≡ map (λ (c : HeaderCase). c.number) header_cases
unfolding file_of same_bytes has_keyword has_value is_true any is_digit digits_value signed_digits fixed_integer integer_of
    cards_of before_end card_integer header_clauses header_number
headers-right = refl

-- what the accepted one says of its image, and one whose END is the last card of ten blocks
abbrev scan : List ℕ
scan = file_of (after5 end_only)

pub header-image : ((image_of scan).width ≡ 3) × ((image_of scan).rows ≡ 2) × ((image_of scan).start ≡ 2880)
    × ((image_of (file_of (after5 (replicate 354 "" ++ ("END" ∷ []))))).start ≡ 28800)
unfolding file_of same_bytes has_keyword has_value any is_digit digits_value signed_digits fixed_integer integer_of
    cards_of before_end card_integer end_card
header-image = (refl, refl, refl, refl)

-- cut where END's card ends, and a byte before
pub header-cut : (header_number (take 560 (file_of (after5 end_only))) ≡ 0) × (header_number (take 559 (file_of (after5 end_only))) ≡ 17)
unfolding file_of same_bytes has_keyword has_value is_true any is_digit digits_value signed_digits fixed_integer integer_of
    cards_of before_end card_integer header_clauses header_number
header-cut = (refl, refl)
