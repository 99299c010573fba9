-- A pixel among its bytes. Assumes nothing.
use Prim.Native.Nat.{ℕ, ◌*◌, ◌/◌, ◌<◌}
use native.Mathlib.Nat.{mul_assoc}
use mathlib.Core.Path.{◌≡◌, sym, ap, ◌∙◌}
use mathlib.Core.List.{List}
use lib.ListN.{length, take, drop, get_or}
use Rattle.bitstream.specs.Bits.{num_of, bits_of, number_of, halves_of}
use Rattle.bitstream.specs.Bits.Laws.{get_d-cut, flat-take, flat-drop}

-- pixel i is the number of the two bytes from 2 * i on
pub get_d-halves : (s : List ℕ) (i : ℕ) → i < length s / 2 → get_or (halves_of s) i 0 ≡ number_of (take 2 (drop (2 * i) s))
get_d-halves s i h =
    get_d-cut 16 (length s / 2) (bits_of s) i h
    ∙ ap (λ (k : ℕ). num_of (take 16 (drop k (bits_of s)))) (mul_assoc 8 2 i)
    ∙ ap (λ (b : List ℕ). num_of (take 16 b)) (sym (flat-drop 8 (2 * i) s))
    ∙ ap num_of (sym (flat-take 8 2 (drop (2 * i) s)))
