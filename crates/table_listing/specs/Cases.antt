-- Document 01's own table, and tables that are refused. Assumes nothing.
use Rattle.std.specs.Prelude.{ℕ, ◌*◌, ◌≡◌, refl, List, [], ◌∷◌, length}
use Rattle.bitstream.specs.Bits.{bytes_of, digits, num_of, flat, cut, begins}
use Rattle.row_format.specs.Lists.{any}
use Rattle.row_format.specs.Table.{codeword, codewords, codeword_at, wrong_size, wrong_word, wrong_codeword, clash, verdict, table_number}
use Rattle.text.specs.Text.{ascii, spelled, decimal, integer}
use Rattle.table_listing.specs.Order.{way, picked, order, places}
use Rattle.table_listing.specs.Line.{name, line}
use Rattle.table_listing.specs.Listing.{lines_for, lines, joined, table_listing}

abbrev bytes : List ℕ → List ℕ
bytes ws = bytes_of (4 * length ws) (flat 32 ws)

-- "For the words 7, 4093, 1, 34, 99, 227, 1 it prints the four lines `0 0`, `raw 10`, `bad-pixel 110`, `bad-bias 111`"
four-lines : table_listing (bytes (7 ∷ 4093 ∷ 1 ∷ 34 ∷ 99 ∷ 227 ∷ 1 ∷ [])) ≡ ascii "0 0\nraw 10\nbad-pixel 110\nbad-bias 111\n"
unfolding digits num_of flat cut begins any codeword codewords codeword_at wrong_size wrong_word wrong_codeword clash verdict table_number
    spelled decimal integer way picked order places name line lines_for lines joined
four-lines = refl

-- steps with their signs, entries and special strings among each other
six-lines : table_listing (bytes (9 ∷ 4091 ∷ 3 ∷ 227 ∷ 66 ∷ 35 ∷ 99 ∷ 2 ∷ 163 ∷ []))
    ≡ ascii "-1 00\nbad-pixel 01\nbad-bias 100\n0 101\n-2 110\nraw 111\n"
unfolding digits num_of flat cut begins any codeword codewords codeword_at wrong_size wrong_word wrong_codeword clash verdict table_number
    spelled decimal integer way picked order places name line lines_for lines joined
six-lines = refl

-- a word too many, a string of no bits, a string that begins another
refused-one : table_listing (bytes (7 ∷ 4093 ∷ 1 ∷ 34 ∷ 99 ∷ 227 ∷ 1 ∷ 0 ∷ [])) ≡ ascii "refused 1\n"
unfolding digits num_of flat cut begins any codeword codewords codeword_at wrong_size wrong_word wrong_codeword clash verdict table_number
    spelled decimal integer way picked order places name line lines_for lines joined
refused-one = refl

refused-two : table_listing (bytes (7 ∷ 4093 ∷ 1 ∷ 34 ∷ 99 ∷ 227 ∷ 0 ∷ [])) ≡ ascii "refused 2\n"
unfolding digits num_of flat cut begins any codeword codewords codeword_at wrong_size wrong_word wrong_codeword clash verdict table_number
    spelled decimal integer way picked order places name line lines_for lines joined
refused-two = refl

refused-three : table_listing (bytes (7 ∷ 4093 ∷ 1 ∷ 34 ∷ 99 ∷ 227 ∷ 33 ∷ [])) ≡ ascii "refused 3\n"
unfolding digits num_of flat cut begins any codeword codewords codeword_at wrong_size wrong_word wrong_codeword clash verdict table_number
    spelled decimal integer way picked order places name line lines_for lines joined
refused-three = refl
