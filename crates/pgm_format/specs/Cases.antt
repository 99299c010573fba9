-- Pictures by computation: headers that are accepted and refused, samples, and rows as lines. Assumes nothing.
use Rattle.std.specs.Prelude.{ℕ, ◌≡◌, refl, List, [], ◌∷◌, map}
use Prim.Native.String.{String}
use Rattle.text.specs.Text.{ascii, spelled, decimal}
use Rattle.text.specs.Number.{is_digit}
use Rattle.text.specs.Same.{same_bytes}
use Rattle.sheet_format.specs.Sheet.{StoredRow, heights_of}
use Rattle.sheet_format.specs.Size.{rows_width, rows_height}
use Rattle.fits_format.specs.Card.{digits_value}
use Rattle.fits_format.specs.Image.{number_at, big_endian}
use Rattle.pgm_format.specs.Header.{pgm_front, is_blank, ends_line, separates, comments, gap_from, digit_bytes, field_value, field_bytes}
use Rattle.pgm_format.specs.Header.{PgmRead, fields_number, front_number, no_pgm, front_read, pgm_header}
use Rattle.pgm_format.specs.Samples.{samples_of}
use Rattle.pgm_format.specs.Shape.{row_missing, row_unequal, fault_from, sheet_fault, padded_lines, sheet_lines}
use Rattle.pgm_format.specs.Shape.{no_padding, pad_with, no_heights, at_fault, sheet_pgm}

-- ---- headers
pub front-case : pgm_front 320 240 ≡ ascii "P5\n320 240\n4095\n"
unfolding pgm_front decimal spelled
front-case = refl

-- a header's text, and what it is read as
pub record PgmCase : Type 0 where
  pub text : List ℕ
  pub read : PgmRead

abbrev accepted : String → ℕ → ℕ → ℕ → PgmCase
accepted s w r start = record { text = ascii s; read = record { number = 0; width = w; rows = r; start = start } }

abbrev refused : ℕ → String → PgmCase
refused e s = record { text = ascii s; read = no_pgm e }

abbrev pub pgm_cases : List PgmCase
pgm_cases =
    accepted "P5\n3 2\n4095\n" 3 2 12
    -- blanks and comments; a comment ends a number; of the blanks behind the last number one is the header's
    ∷ accepted "P5 # a 1\n \t003\r#\n2\n4095 " 3 2 24
    ∷ accepted "P5#\n3#\r2 4095\n\n\n" 3 2 14
    ∷ accepted "P5\u{b}3\u{c}2 4095\u{c}" 3 2 12
    -- not P5, no separator, no number, 0, another largest value, no blank
    ∷ refused 17 ""
    ∷ refused 17 "P2 3 2 4095\n"
    ∷ refused 17 "P53 2 4095\n"
    ∷ refused 17 "P5 3\u{8}2 4095\n"
    ∷ refused 17 "P5 3\u{e}2 4095\n"
    ∷ refused 17 "P5 3 x 4095\n"
    ∷ refused 17 "P5 0 2 4095\n"
    ∷ refused 17 "P5 3 0 4095\n"
    ∷ refused 17 "P5 3 2 255\n"
    ∷ refused 17 "P5 3 2 4095"
    ∷ refused 17 "P5 3 2 4095#\n"
    ∷ refused 17 "P5 3 # 2 4095\n"
    ∷ refused 17 "P5 3 2 4294971391\n"
    -- more than a sheet holds, however much more
    ∷ refused 11 "P5 4097 2 4095\n"
    ∷ refused 11 "P5 3 65537 4095\n"
    ∷ refused 11 "P5 4294967299 2 4095\n"
    ∷ refused 11 "P5 3 18446744073709551618 4095\n"
    ∷ []

pub header-cases-right : map (λ (c : PgmCase). pgm_header c.text) pgm_cases ≡ map (λ (c : PgmCase). c.read) pgm_cases
unfolding is_digit digits_value same_bytes is_blank ends_line separates comments gap_from digit_bytes field_value field_bytes fields_number
    front_number front_read pgm_header
header-cases-right = refl

-- ---- samples: 766 and 4095
pub samples-case : samples_of (766 ∷ 4095 ∷ []) ≡ 0x02 ∷ 0xFE ∷ 0x0F ∷ 0xFF ∷ []
unfolding samples_of
samples-case = refl

pub samples-back-case : big_endian 2 (0x02 ∷ 0xFE ∷ 0x0F ∷ 0xFF ∷ []) ≡ 766 ∷ 4095 ∷ []
unfolding big_endian number_at
samples-back-case = refl

-- ---- rows as lines
abbrev row : ℕ → List ℕ → StoredRow
row n hs = record { number = n; heights = hs }

abbrev gapped : List StoredRow
gapped = row 0 (5 ∷ 6 ∷ []) ∷ row 2 (7 ∷ []) ∷ []

pub gapped-fault : sheet_pgm no_padding gapped ≡ at_fault (row_missing 1)
unfolding sheet_pgm sheet_fault fault_from rows_width rows_height heights_of
gapped-fault = refl

pub gapped-lines : sheet_lines 9 gapped ≡ (5 ∷ 6 ∷ []) ∷ (9 ∷ 9 ∷ []) ∷ (7 ∷ 9 ∷ []) ∷ []
unfolding padded_lines rows_width rows_height heights_of
gapped-lines = refl

pub unequal-fault : sheet_pgm no_padding (row 0 (5 ∷ 6 ∷ []) ∷ row 1 (7 ∷ []) ∷ []) ≡ at_fault (row_unequal 1 1 2)
unfolding sheet_pgm sheet_fault fault_from rows_width rows_height heights_of
unequal-fault = refl

pub none-case : sheet_pgm (pad_with 9) (row 3 [] ∷ []) ≡ no_heights
unfolding sheet_pgm rows_width
none-case = refl
