-- What a writer of bit strings holds, and what its calls leave. Definitions only. Assumes nothing.
use Rattle.std.specs.Prelude.{ℕ, ◌+◌, ◌*◌, ◌^◌, ◌≤◌, ◌<◌, ◌≡◌, List, ◌++◌, length, take, drop}
use Rattle.bitstream.specs.Bits.{digits, bits_of, words_for, pad}
use Rattle.bitstream.specs.declared.writer.Writer.{Writer}

-- the bits written so far: the stored words, then the register
abbrev pub held_bits : List ℕ → Writer → List ℕ
held_bits out w = bits_of (take (4 * w.words) out) ++ digits w.count w.acc

-- the register is in order
pub record Good (w : Writer) : Type 0 where
  pub few : w.count < 32
  pub low : w.acc < 2 ^ w.count

-- n more bits fit the memory
pub record Ready (out : List ℕ) (w : Writer) (n : ℕ) : Type 0 where
  pub good : Good w
  pub most : n ≤ 32
  pub fits : 32 * w.words + (w.count + n) ≤ 8 * length out

-- what is held, rounded up to whole words, fits the memory
pub record Closable (out : List ℕ) (w : Writer) : Type 0 where
  pub good : Good w
  pub fits : 4 * words_for (32 * w.words + w.count) ≤ length out

-- after the n bits of v were put
pub record FieldPut (out : List ℕ) (w : Writer) (v n : ℕ) (out' : List ℕ) (w' : Writer) : Type 0 where
  pub bits : held_bits out' w' ≡ held_bits out w ++ digits n v
  pub good : Good w'
  pub size : 32 * w'.words + w'.count ≡ 32 * w.words + (w.count + n)
  pub rest : drop (4 * w'.words) out' ≡ drop (4 * w'.words) out

-- after the register was stored: r words hold the bits and zeros
pub record Finished (out : List ℕ) (w : Writer) (out' : List ℕ) (r : ℕ) : Type 0 where
  pub count : r ≡ words_for (32 * w.words + w.count)
  pub front : bits_of (take (4 * r) out') ≡ pad (32 * r) (held_bits out w)
  pub rest : drop (4 * r) out' ≡ drop (4 * r) out
