-- What a turn of put_bits does: a run put element by element. Assumes nothing.
use Prim.Native.Nat.{ℕ, ◌+◌, ◌≤◌, ◌<◌}
use native.Mathlib.Nat.{add_assoc, add-zero}
use native.Mathlib.Numerals.{add-one}
use native.Mathlib.Omega.{arith}
use mathlib.Core.Path.{◌≡◌, refl, ◌∙◌}
use mathlib.Core.List.{List}
use lib.ListN.{length, take, get_or, set, length-set}
use lib.Seq.{take-suc, take_all}
use Rattle.text.specs.Put.{Put}
use Rattle.text.specs.Put.Laws.{put-none, put-more}

-- b is being put at a place of the memory m, which is m' after i elements
pub record Putting (m : List ℕ) (at : ℕ) (b : List ℕ) (i : ℕ) (m' : List ℕ) : Type 0 where
  pub within : i ≤ length b
  pub size : length m' ≡ length m
  pub put : Put m at (take i b) (at + i) m'

pub putting-none : (m : List ℕ) (at : ℕ) (b : List ℕ) → Putting m at b 0 m
putting-none m at b = record { within = omega arith; size = refl; put = rw (add-zero at) (put-none m at) }

pub putting-more : {m m' : List ℕ} {at i : ℕ} {b : List ℕ} (x : ℕ) → at + length b ≤ length m → i < length b → x ≡ get_or b i 0
    → Putting m at b i m' → Putting m at b (i + 1) (set m' (at + i) x)
putting-more {m} {m'} {at} {i} {b} x room h e p =
    let more = put-more {b = take i b} x (omega arith) p.size p.put in
    record {
      within = omega arith;
      size = length-set m' (at + i) x ∙ p.size;
      put = rw (add-one i, take-suc b i 0 h, ← e, ← add-one i, ← add_assoc at i 1) more;
    }

pub putting-all : {m m' : List ℕ} {at i : ℕ} {b : List ℕ} → length b ≤ i → Putting m at b i m' → Put m at b (at + i) m'
putting-all {m} {m'} {at} {i} {b} h p = rw (take_all i b h) at p.put
