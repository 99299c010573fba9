-- What a writer of bit strings, the most significant bit of each byte first, holds, and what its calls leave. Definitions only;
-- their laws are in MsbWriter/Laws.antt. Assumes nothing.
use Rattle.std.specs.Prelude.{ℕ, ◌+◌, ◌*◌, ◌^◌, ◌≤◌, ◌<◌, ◌≡◌, List, ◌++◌, length, take}
use Rattle.bitstream.specs.Bits.{words_for, pad}
use Rattle.bitstream.specs.Msb.{msb_digits, msb_bits_of}
use Rattle.bitstream.specs.declared.msb_writer.MsbWriter.{MsbWriter}
pub mod Laws

-- the bits written so far: the stored words, then the register
abbrev pub msb_held : List ℕ → MsbWriter → List ℕ
msb_held out w = msb_bits_of (take (4 * w.words) out) ++ msb_digits w.count w.acc

-- the register is in order
pub record MsbGood (w : MsbWriter) : Type 0 where
  pub few : w.count < 32
  pub low : w.acc < 2 ^ w.count

-- n more bits fit the memory
pub record MsbReady (out : List ℕ) (w : MsbWriter) (n : ℕ) : Type 0 where
  pub good : MsbGood w
  pub most : n < 32
  pub fits : 32 * w.words + (w.count + n) ≤ 8 * length out

-- what is held, rounded up to whole words, fits the memory
pub record MsbClosable (out : List ℕ) (w : MsbWriter) : Type 0 where
  pub good : MsbGood w
  pub fits : 4 * words_for (32 * w.words + w.count) ≤ length out

-- after the n bits of v were put
pub record MsbPut (out : List ℕ) (w : MsbWriter) (v n : ℕ) (out' : List ℕ) (w' : MsbWriter) : Type 0 where
  pub bits : msb_held out' w' ≡ msb_held out w ++ msb_digits n v
  pub good : MsbGood w'
  pub size : 32 * w'.words + w'.count ≡ 32 * w.words + (w.count + n)

-- after the register was stored: whole words hold the bits and zeros
pub record MsbFinished (out : List ℕ) (w : MsbWriter) (out' : List ℕ) : Type 0 where
  pub front : let n : ℕ = words_for (32 * w.words + w.count) in msb_bits_of (take (4 * n) out') ≡ pad (32 * n) (msb_held out w)
