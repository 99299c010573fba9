-- The search for the codeword that begins the rest of a stream, of which only a view is at hand. Definitions only.
-- Assumes nothing.
use Rattle.std.specs.Prelude.{ℕ, ◌≡◌, Bool, List, Option, Some, None}
use Rattle.bitstream.specs.Bits.{begins}
use Rattle.row_format.specs.Lists.{any}
use Rattle.row_format.specs.Table.{codeword, codewords}
use Rattle.row_format.specs.Reading.{Match, none, found, find}
use Rattle.row_unpacker.specs.View.{Seen}
use Rattle.row_unpacker.specs.declared.view.View.{View}

-- a match as the code holds it
abbrev pub hit : Match → Option ℕ
hit none = None
hit (found j) = Some j

-- h is the first codeword of the table t that begins what v shows
pub record Finds (t : List ℕ) (v : View) (h : Option ℕ) : Type 0 where
  pub is : (r : List ℕ) → Seen r v → h ≡ hit (find (codewords t) r)

-- b is whether what v shows is a beginning of some codeword of t
pub record CutShort (t : List ℕ) (v : View) (b : Bool) : Type 0 where
  pub is : (r : List ℕ) → Seen r v → b ≡ any (begins r) (codewords t)

-- ---- one codeword: a test of a rest r and a codeword s
-- the codeword begins the rest; the other test is `begins`, the rest is a beginning of the codeword
abbrev pub begun_by : List ℕ → List ℕ → Bool
begun_by r s = begins s r

-- b is the test of what v shows and the codeword of the word w
pub record Tested (f : List ℕ → List ℕ → Bool) (w : ℕ) (v : View) (b : Bool) : Type 0 where
  pub is : (r : List ℕ) → Seen r v → b ≡ f r (codeword w)
