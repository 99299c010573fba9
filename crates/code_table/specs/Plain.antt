-- The plain table lent out. Definitions only; their laws are in Plain/Laws.antt. Assumes nothing.
use Rattle.std.specs.Prelude.{ℕ, ◌*◌, List, length}
use Rattle.bitstream.specs.Bits.{flat, bytes_of}
use Rattle.answer.specs.declared.Answer.{Answer}
use Rattle.answer.specs.Outcome.{Outcome, wrote_or_full}
use Rattle.row_format.specs.Plain.{plain_bytes}
pub mod Laws

-- its bytes at the front of the lent memory; 5 where they do not fit
unfoldable pub plain_lent : List ℕ → Outcome Answer
plain_lent m = wrote_or_full 2072 plain_bytes m

-- the bytes of words
unfoldable pub word_bytes : List ℕ → List ℕ
word_bytes ws = bytes_of (4 * length ws) (flat 32 ws)
