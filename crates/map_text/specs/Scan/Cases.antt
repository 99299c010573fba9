-- What some texts are read as. Assumes nothing.
use Rattle.std.specs.Prelude.{◌≡◌, refl, [], ◌∷◌}
use Rattle.text.specs.Text.{ascii}
use Rattle.text.specs.Number.{is_digit, with_digit}
use Rattle.map_text.specs.Scan.{is_gap, is_space, with_byte, with_first, with_letter, stepped, scan_after}
use Rattle.map_text.specs.Scan.{last_counts, counted_by, counts_from, is_text, no_text, counts, text_counts}

-- the last count needs no newline, and zeros may stand in front
pub spaces-case : text_counts (ascii "3 0\t\t017\n\n 65535") ≡ counts (3 ∷ 0 ∷ 17 ∷ 65535 ∷ [])
unfolding text_counts is_text counts_from counted_by last_counts scan_after stepped with_letter with_first with_byte is_space is_gap with_digit is_digit
spaces-case = refl

-- what follows `done` at the start of a line is not looked at
pub done-case : text_counts (ascii "1 2\ndone bits 7\nx") ≡ counts (1 ∷ 2 ∷ [])
unfolding text_counts is_text counts_from counted_by last_counts scan_after stepped with_letter with_first with_byte is_space is_gap with_digit is_digit
done-case = refl

-- elsewhere it is no count
pub not-done-case : text_counts (ascii "1 done\n") ≡ no_text
unfolding text_counts is_text counts_from counted_by last_counts scan_after stepped with_letter with_first with_byte is_space is_gap with_digit is_digit
not-done-case = refl

pub refused-case : text_counts (ascii "refused 19\n") ≡ no_text
unfolding text_counts is_text counts_from counted_by last_counts scan_after stepped with_letter with_first with_byte is_space is_gap with_digit is_digit
refused-case = refl

pub above-case : text_counts (ascii "65536\n") ≡ no_text
unfolding text_counts is_text counts_from counted_by last_counts scan_after stepped with_letter with_first with_byte is_space is_gap with_digit is_digit
above-case = refl

pub none-case : text_counts [] ≡ counts []
unfolding text_counts is_text counts_from last_counts scan_after
none-case = refl
