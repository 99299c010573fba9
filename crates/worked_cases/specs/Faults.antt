-- Worked readings that pin what the theorems leave to the definitions: which number a faulty item gets, and the bits that it
-- uses. The tables have the strings 0 (one step), 10 (raw), 110 (bad pixel) and 1110 (bad bias); 1111 is an unused branch.
-- Assumes nothing.
use Rattle.std.specs.Prelude.{ℕ, ◌≡◌, refl, List, [], ◌∷◌}
use Rattle.bitstream.specs.Bits.{digits, num_of, begins}
use Rattle.row_format.specs.Lists.{any, least}
use Rattle.row_format.specs.Table.{codeword, codewords, codeword_at, verdict, wrong_size, wrong_word, wrong_codeword, clash}
use Rattle.row_format.specs.Row.{difference, bad_pixel, bad_bias, escape}
use Rattle.row_format.specs.Reading.{Run, done, stop, find, unmatched, raw_height, matched, read_item, read_by, read_items}
use Rattle.worked_cases.specs.Each.{Each, ◌also◌}

-- the step 0, and the step -1
abbrev level : List ℕ
level = 7 ∷ 4093 ∷ 1 ∷ 34 ∷ 99 ∷ 228 ∷ 1 ∷ []

abbrev falling : List ℕ
falling = 7 ∷ 4092 ∷ 1 ∷ 34 ∷ 99 ∷ 228 ∷ 1 ∷ []

pub both-accepted : (verdict level ≡ 0) × (verdict falling ≡ 0)
unfolding digits begins any codeword codewords verdict wrong_size wrong_word wrong_codeword clash
both-accepted = (refl, refl)

-- a reading of n items from some bits, under a table
pub data Case : Type 0 where
  reads : List ℕ → ℕ → List ℕ → Run → Case

abbrev pub CaseHolds : Case → Type 0
CaseHolds (reads t n b r) = read_items t n b ≡ r

abbrev pub cases : List Case
cases =
    reads level 4 (0 ∷ 1 ∷ 1 ∷ 0 ∷ 1 ∷ 1 ∷ 1 ∷ 0 ∷ 0 ∷ 1 ∷ []) (done (difference 4093 ∷ bad_pixel ∷ bad_bias ∷ difference 4093 ∷ []) 9)
    -- 6: nothing is left; the rest is a proper beginning of a string; too few bits for the raw height: all bits left
    ∷ reads level 2 (0 ∷ []) (stop 6 1 1)
    ∷ reads level 1 (1 ∷ 1 ∷ 1 ∷ []) (stop 6 0 3)
    ∷ reads level 2 (0 ∷ 1 ∷ 0 ∷ 1 ∷ 1 ∷ []) (stop 6 1 5)
    -- 7: no string begins 1111, and three of its bits begin one: four bits
    ∷ reads level 1 (1 ∷ 1 ∷ 1 ∷ 1 ∷ 0 ∷ 0 ∷ []) (stop 7 0 4)
    -- 8: the step leads from 0 to -1: its item's bits, after a bad pixel's
    ∷ reads falling 2 (1 ∷ 1 ∷ 0 ∷ 0 ∷ 1 ∷ []) (stop 8 3 4)
    -- 9: a raw height of 4094: its item's bits
    ∷ reads level 1 (1 ∷ 0 ∷ 0 ∷ 1 ∷ 1 ∷ 1 ∷ 1 ∷ 1 ∷ 1 ∷ 1 ∷ 1 ∷ 1 ∷ 1 ∷ 1 ∷ 0 ∷ []) (stop 9 0 14)
    -- a raw height of 1
    ∷ reads level 1 (1 ∷ 0 ∷ 1 ∷ 0 ∷ 0 ∷ 0 ∷ 0 ∷ 0 ∷ 0 ∷ 0 ∷ 0 ∷ 0 ∷ 0 ∷ 0 ∷ 0 ∷ []) (done (escape 1 ∷ []) 14)
    ∷ []

pub cases-hold : Each CaseHolds cases
unfolding digits num_of begins any least codeword codewords codeword_at find unmatched raw_height matched read_item read_by read_items
cases-hold = refl also refl also refl also refl also refl also refl also refl also refl also tt
