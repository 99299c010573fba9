-- What a function that writes some bits needs and leaves. Definitions only; their laws are in Putting/Laws.antt. Assumes nothing.
use Rattle.std.specs.Prelude.{ℕ, ◌+◌, ◌*◌, ◌≤◌, ◌≡◌, List, ◌++◌, length}
use Rattle.bitstream.specs.MsbWriter.{MsbGood, msb_held}
use Rattle.bitstream.specs.declared.msb_writer.MsbWriter.{MsbWriter}
pub mod Laws

-- the bits b fit the memory
pub record Room (out : List ℕ) (w : MsbWriter) (b : List ℕ) : Type 0 where
  pub good : MsbGood w
  pub fits : 32 * w.words + (w.count + length b) ≤ 8 * length out

-- after the bits b were put
pub record Puts (out : List ℕ) (w : MsbWriter) (b out' : List ℕ) (w' : MsbWriter) : Type 0 where
  pub bits : msb_held out' w' ≡ msb_held out w ++ b
  pub good : MsbGood w'
  pub size : 32 * w'.words + w'.count ≡ 32 * w.words + (w.count + length b)

-- while the bits b are put: those that are left have not been
pub record Putting (out : List ℕ) (w : MsbWriter) (b out' : List ℕ) (w' : MsbWriter) (left : List ℕ) : Type 0 where
  pub whole : msb_held out' w' ++ left ≡ msb_held out w ++ b
  pub good : MsbGood w'
  pub size : 32 * w'.words + (w'.count + length left) ≡ 32 * w.words + (w.count + length b)
  pub kept : length out' ≡ length out
