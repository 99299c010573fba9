-- What unpacking the row of a record's body leaves. Assumes nothing.
use Rattle.std.specs.Prelude.{ℕ, ◌*◌, ◌≤◌, ◌<◌, ◌≡◌, List, length, take, ltb, Result, IfOk, IfErr}
use Rattle.bitstream.specs.Bits.{words_for}
use Rattle.answer.specs.Outcome.{◌or_else◌, refuse_if, Lent, nothing, lent}
use Rattle.row_format.specs.Place.{place_shown}
use Rattle.row_format.specs.Row.{pixel_bytes}
use Rattle.row_format.specs.Reading.{Run, run_number, run_place, bits_of_run, pixels_of_run, row_reading}
use Rattle.sheet_format.specs.Kind.Row.{pixel_count, row_content}
use Rattle.sheet_reader.specs.declared.answers.Refused.{Refused}
use Rattle.sheet_reader.specs.Answers.{read_number, read_place}

-- the reading of the body b under the table tb
abbrev pub body_reading : Lent → List ℕ → List ℕ → Run
body_reading m tb b = row_reading m tb (pixel_count b) (row_content b)

-- bits are those of the row of the body b, and its pixels stand at the front of out
pub record RowHeld (tb b : List ℕ) (bits : ℕ) (out : List ℕ) : Type 0 where
  pub few : pixel_count b ≤ 4096
  pub bits_are : bits ≡ bits_of_run (body_reading nothing tb b)
  pub front : take (2 * pixel_count b) out ≡ pixel_bytes (pixels_of_run (body_reading nothing tb b))

-- r gives its bits, unless the row is refused, or words are left over
pub record RowRead (room : ℕ) (tb b : List ℕ) (r : Result ℕ Refused) (out : List ℕ) : Type 0 where
  pub number : read_number r
      ≡ run_number (body_reading (lent room) tb b)
      or_else refuse_if (ltb (4 * words_for (bits_of_run (body_reading nothing tb b))) (length (row_content b))) 14
  pub at : place_shown (read_number r) (read_place r) ≡ place_shown (read_number r) (run_place (body_reading nothing tb b))
  pub row : IfOk r (λ bits. RowHeld tb b bits out)
  pub some : IfErr r (λ e. 0 < e.number)
