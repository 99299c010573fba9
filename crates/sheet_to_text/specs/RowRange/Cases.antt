-- Words that say rows, and words that do not. Assumes nothing.
use Rattle.std.specs.Prelude.{◌≡◌, refl, Some, None}
use Rattle.text.specs.Text.{ascii}
use Rattle.text.specs.Number.{is_digit, with_digit, number_with, number_from, number_in}
use Rattle.sheet_to_text.specs.RowRange.{between, before_dash, range_in}

pub range-case : range_in (ascii "20-300") ≡ Some (between 20 300)
unfolding range_in before_dash number_in number_from number_with with_digit is_digit
range-case = refl

-- one row, with zeros in front
pub one-row-case : range_in (ascii "007-7") ≡ Some (between 7 7)
unfolding range_in before_dash number_in number_from number_with with_digit is_digit
one-row-case = refl

pub backward-case : range_in (ascii "3-2") ≡ None
unfolding range_in before_dash number_in number_from number_with with_digit is_digit
backward-case = refl

pub above-case : range_in (ascii "0-65536") ≡ None
unfolding range_in before_dash number_in number_from number_with with_digit is_digit
above-case = refl

pub no-dash-case : range_in (ascii "20") ≡ None
unfolding range_in before_dash number_in number_from number_with with_digit is_digit
no-dash-case = refl

pub two-dashes-case : range_in (ascii "2-3-4") ≡ None
unfolding range_in before_dash number_in number_from number_with with_digit is_digit
two-dashes-case = refl

pub no-first-case : range_in (ascii "-4") ≡ None
unfolding range_in before_dash number_in number_from number_with with_digit is_digit
no-first-case = refl
