-- Counts from text: in decimal, each at most 65535, with blanks, tabs, carriage returns and newlines between them. A line that begins
-- with `done` ends the text. b is a byte, s a text. Definitions only; their laws are in Scan/Laws.antt. Assumes nothing.
use Rattle.std.specs.Prelude.{ℕ, Option, Some, None, Bool, true, false, cond, List, [], ◌∷◌, ◌++◌, eqb}
use Rattle.text.specs.Number.{is_digit, with_digit}
use Rattle.map_text.specs.declared.scan.Scan.{Scan}
use Rattle.map_text.specs.declared.scan.Scan.TheVariants.{Line, Gap, Count, D, Do, Don, Ended, Fault}
pub mod Laws
pub mod Cases

-- a blank, a tab, a carriage return
unfoldable pub is_gap : ℕ → Bool
is_gap b = cond (eqb b 32) true (cond (eqb b 9) true (eqb b 13))

-- these and a newline stand between counts
unfoldable pub is_space : ℕ → Bool
is_space b = cond (eqb b 10) true (is_gap b)

-- ---- where a text has come to after a byte
abbrev pub scan_of : Option ℕ → Scan
scan_of (Some v) = Count v
scan_of None = Fault

-- after a count with the digits of v so far, or between counts, where v is 0
unfoldable pub with_byte : ℕ → ℕ → Scan
with_byte v b = cond (is_digit b) (scan_of (with_digit 65535 v b)) (cond (eqb b 10) Line (cond (is_gap b) Gap Fault))

-- at the start of a line, where the `d` of `done` may stand, byte 100
unfoldable pub with_first : ℕ → Scan
with_first b = cond (eqb b 100) D (with_byte 0 b)

-- the letter that goes on with `done`
unfoldable pub with_letter : ℕ → ℕ → Scan → Scan
with_letter b letter next = cond (eqb b letter) next Fault

unfoldable pub stepped : Scan → ℕ → Scan
stepped Line b = with_first b
stepped Gap b = with_byte 0 b
stepped (Count v) b = with_byte v b
stepped D b = with_letter b 111 Do
stepped Do b = with_letter b 110 Don
stepped Don b = with_letter b 101 Ended
stepped Ended b = Ended
stepped Fault b = Fault

unfoldable pub scan_after : Scan → List ℕ → Scan
scan_after scan [] = scan
scan_after scan (b ∷ s) = scan_after (stepped scan b) s

-- ---- the counts
-- the one that stands where the text has come to, if one does
unfoldable pub last_counts : Scan → List ℕ
last_counts Line = []
last_counts Gap = []
last_counts (Count v) = v ∷ []
last_counts D = []
last_counts Do = []
last_counts Don = []
last_counts Ended = []
last_counts Fault = []

-- the one that a byte ends
unfoldable pub counted_by : Scan → ℕ → List ℕ
counted_by scan b = cond (is_space b) (last_counts scan) []

-- those that the bytes of s end
unfoldable pub counts_from : Scan → List ℕ → List ℕ
counts_from scan [] = []
counts_from scan (b ∷ s) = counted_by scan b ++ counts_from (stepped scan b) s

-- ---- a whole text
unfoldable pub is_text : Scan → Bool
is_text Line = true
is_text Gap = true
is_text (Count v) = true
is_text D = false
is_text Do = false
is_text Don = false
is_text Ended = true
is_text Fault = false

pub data Text : Type 0 where
  no_text : Text
  counts : List ℕ → Text

unfoldable pub text_counts : List ℕ → Text
text_counts s =
    let scan : Scan = scan_after Line s in
    cond (is_text scan) (counts (counts_from Line s ++ last_counts scan)) no_text
