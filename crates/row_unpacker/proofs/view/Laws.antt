-- The laws of what is seen of a bit stream. Assumes nothing.
use Prim.Native.Nat.{ℕ, ◌-◌, ◌*◌, ◌/◌, ◌%◌, ◌^◌, ◌≤◌, min}
use native.Mathlib.Omega.{arith}
use mathlib.Core.Path.{◌≡◌, sym, ap, ◌∙◌}
use mathlib.Core.List.{List}
use lib.ListN.{length, take, drop, length-drop}
use lib.Seq.{take-take}
use Rattle.bitstream.specs.Bits.{num_of, stream}
use Rattle.bitstream.specs.Bits.Laws.{below-take, below-drop, below-flat, num_of-take}
use Rattle.row_format.specs.BitLaws.{length-stream}
use Rattle.row_unpacker.specs.View.{Seen}
use Rattle.row_unpacker.specs.declared.view.View.{View}

-- from a place of the whole words on
pub seen-stream : (ws : List ℕ) (at window left : ℕ)
    → window ≡ num_of (take 32 (drop at (stream ws))) → left ≡ min 64 (32 * (length ws / 4) - at)
    → Seen (drop at (stream ws)) (record { window = window; left = left })
seen-stream ws at window left e d = record {
  bits = below-drop at (stream ws) (below-flat 8 (take (4 * (length ws / 4)) ws));
  window = e;
  left = omega (arith, length-drop at (stream ws), length-stream ws);
}

-- the first n bits of a window
pub low-window : (r : List ℕ) (v : View) → Seen r v → (n : ℕ) → n ≤ 32 → v.window % 2 ^ n ≡ num_of (take n r)
low-window r v seen n h =
    ap (◌% 2 ^ n) seen.window ∙ sym (num_of-take n (take 32 r) (below-take 32 r seen.bits)) ∙ ap num_of (take-take n 32 r h)
