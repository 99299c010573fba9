-- A row's pixels copied one by one. Assumes nothing.
use Prim.Native.Nat.{ℕ, ◌+◌, ◌*◌, ◌≤◌, ◌<◌}
use native.Mathlib.Omega.{arith}
use mathlib.Core.Path.{◌≡◌, sym, ap, ◌∙◌}
use mathlib.Core.List.{List, [], ◌++◌, append_assoc, append-nil}
use lib.ListN.{length, take, drop, get_or}
use Rattle.bitstream.specs.Bits.{digits, flat, cut, bytes_of}
use Rattle.bitstream.specs.Bits.Laws.{length_cut}
use Rattle.bitstream.specs.Memory.{ByteAt, overwritten}
use Rattle.bitstream.specs.Memory.Laws.{take-overwritten, length-overwritten}
use Rattle.row_format.specs.Row.{pixel_bytes}
use Rattle.row_pixels.specs.Laws.{bytes-cons, drop_more, drop-end}
use Rattle.fits_format.specs.Image.{number_at}

pub two_bytes_lem : {s : List ℕ} (at : ℕ) {high low : ℕ} → ByteAt s at high → ByteAt s (at + 1) low → high * 256 + low ≡ number_at at s
unfolding number_at
two_bytes_lem at h l = omega (arith, h.value, l.value)

-- of the numbers vs the first i stand in memory of a size, and the others are to follow
pub record Copied (vs : List ℕ) (size : ℕ) (out : List ℕ) (i : ℕ) : Type 0 where
  pub within : i ≤ length vs
  pub kept : length out ≡ size
  pub so_far_lem : take (2 * i) out ++ pixel_bytes (drop i vs) ≡ pixel_bytes vs

module _ (vs : List ℕ) (size : ℕ) where
  pub copied_more : 2 * length vs ≤ size → {out : List ℕ} {i v : ℕ} → Copied vs size out i → i < length vs → v ≡ get_or vs i 0
      → Copied vs size (overwritten out (2 * i) (bytes_of 2 (digits 16 v))) (i + 1)
  copied_more fits {out} {i} {v} q h e =
      let b : List ℕ = bytes_of 2 (digits 16 v) in
      let two : length b ≡ 2 = length_cut 8 2 (digits 16 v) in
      let twice : 2 * (i + 1) ≡ 2 * i + length b = omega (arith, two) in
      let rest : List ℕ = drop (i + 1) vs in
      let next : pixel_bytes (drop i vs) ≡ b ++ pixel_bytes rest =
      ap pixel_bytes (drop_more vs i h e) ∙ bytes-cons (length rest) v rest in
      record {
        within = omega arith;
        kept = length-overwritten out (2 * i) b (omega (arith, two, q.kept)) ∙ q.kept;
        so_far_lem =
            rw (twice, take-overwritten out (2 * i) b (omega (arith, q.kept)), append_assoc (take (2 * i) out) b (pixel_bytes rest))
            (ap (λ (l : List ℕ). take (2 * i) out ++ l) (sym next) ∙ q.so_far_lem);
      }

  pub copied_all : {out : List ℕ} {i n : ℕ} → Copied vs size out i → length vs ≡ n → n ≤ i → take (2 * n) out ≡ pixel_bytes vs
  unfolding flat cut
  copied_all {out} {i} {n} q e h =
      let here : i ≡ n = omega (arith, q.within) in
      let end : drop n vs ≡ [] = drop-end vs n (omega (arith, e)) (omega (arith, e)) in
      sym (append-nil (take (2 * n) out)) ∙ (rw (here, end) at q.so_far_lem)
