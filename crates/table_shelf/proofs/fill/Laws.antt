-- A table and then zeros, and a place that was written. Assumes nothing.
use Prim.Native.Nat.{ℕ, ◌+◌, ◌-◌, ◌*◌}
use native.Mathlib.Omega.{arith}
use mathlib.Core.Path.{◌≡◌, refl, sym, ap, ◌∙◌}
use mathlib.Core.List.{List, [], ◌++◌}
use lib.ListN.{length, take, drop, replicate, length-drop}
use lib.Seq.{take_at, take-length, drop-length}
use Rattle.std.proofs.lemmas.List.{append-nil}
use borrow.Rule.Slice.PartMut.{put_mid, Post-is}
use Rattle.shelf_format.specs.Shelf.{placed, filled}

-- ---- a table, and then zeros: of what copying left, the bytes after it are filled with 0
pub filled_is : (tb to₀ copied zeros : List ℕ) → length to₀ ≡ 32772 → length copied ≡ length to₀
    → copied ≡ take (length tb) tb ++ drop (length tb) to₀
    → zeros ≡ replicate (length (take (length copied - length tb) (drop (length tb) copied))) 0
    → put_mid (length tb) (length copied - length tb) copied zeros ≡ filled tb
unfolding filled
filled_is tb to₀ copied zeros size kept copy is =
    let rest = drop (length tb) copied in
    let front : take (length tb) copied ≡ tb =
    ap (take (length tb)) (copy ∙ ap (◌++ drop (length tb) to₀) (take-length tb)) ∙ take_at tb (drop (length tb) to₀) (length tb) refl in
    let left : length copied - length tb ≡ length rest = sym (length-drop (length tb) copied) in
    let count : length (take (length copied - length tb) rest) ≡ 32772 - length tb =
    ap (λ k. length (take k rest)) left ∙ ap length (take-length rest) ∙ sym left ∙ ap (λ k. k - length tb) (kept ∙ size) in
    let none : drop (length copied - length tb) rest ≡ [] = ap (λ k. drop k rest) left ∙ drop-length rest in
    rw (front, none) (ap (tb ++◌) (append-nil zeros ∙ is ∙ ap (λ k. replicate k 0) count))

-- ---- the part of the shelf that is written
pub placed-is : (s : List ℕ) (i : ℕ) {b b' : List ℕ} → b ≡ b'
    → put_mid (32772 * i) (32772 * i + 32772 - 32772 * i) s b ≡ placed s i b'
unfolding placed
placed-is s i {b} {b'} is =
    let behind = Post-is (32772 * i) (32772 * i + 32772) s (omega arith) in
    ap (λ (r : List ℕ). take (32772 * i) s ++ (b ++ r)) behind
    ∙ ap (λ (x : List ℕ). take (32772 * i) s ++ (x ++ drop (32772 * i + 32772) s)) is
