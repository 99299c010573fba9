-- What a turn of put_bytes does to the bytes that are still to be written, followed by those that are. Assumes nothing.
use Prim.Native.Nat.{ℕ, zero, suc, ◌+◌, ◌-◌, ◌/◌, ◌%◌, ◌≤◌, ◌<◌}
use native.Mathlib.Nat.{not-suc-le-zero}
use native.Mathlib.Omega.{arith}
use mathlib.Core.Path.{◌≡◌, sym, ◌∙◌}
use mathlib.Core.List.{List, [], ◌∷◌, ◌++◌, append_assoc}
use lib.ListN.{length, drop, set, length-set}
use lib.Seq.{drop-cons, drop-set-lt, get_or-set_same}
use Rattle.adaptive.specs.Number.{continued, data_bytes}

drop-set : (l : List ℕ) (i a : ℕ) → i < length l → drop i (set l i a) ≡ a ∷ drop (suc i) l
drop-set l i a h =
    drop-cons (set l i a) i 0 (rw (length-set l i a) h)
    ∙ rw (get_or-set_same l i a 0, drop-set-lt (suc i) l i a (omega arith))

-- the last byte is written
pub put_last : (k d : ℕ) (l : List ℕ) → k < length l
    → continued k (d / 128) ++ drop k (set l k (d % 128)) ≡ data_bytes k d ++ drop (suc k) l
unfolding data_bytes
put_last k d l h =
    rw (drop-set l k (d % 128) h) (sym (append_assoc (continued k (d / 128)) (d % 128 ∷ []) (drop (suc k) l)))

-- one before those that are
pub put-more : (i x : ℕ) (l w : List ℕ) → 0 < i → i ≤ length l → continued i x ++ drop i l ≡ w
    → continued (i - 1) (x / 128) ++ drop (i - 1) (set l (i - 1) (128 + x % 128)) ≡ w
unfolding continued
put-more zero x l w h g e = absurd (not-suc-le-zero h)
put-more (suc i) x l w h g e =
    let less : suc i - 1 ≡ i = omega arith in
    let b = 128 + x % 128 in
    rw (less, drop-set l i b g) (sym (append_assoc (continued i (x / 128)) (b ∷ []) (drop (suc i) l)) ∙ e)

pub put_all : (i x : ℕ) (l w : List ℕ) → i ≤ 0 → continued i x ++ drop i l ≡ w → l ≡ w
unfolding continued
put_all zero x l w h e = e
put_all (suc i) x l w h e = absurd (not-suc-le-zero h)
