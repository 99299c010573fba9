-- One step of the walk over the tree: where it ends, and two branches put in order one after the other. Assumes nothing.
use Prim.Native.Nat.{ℕ, zero, suc, ◌+◌, ◌-◌, ◌≤◌, ◌<◌}
use native.Mathlib.Omega.{arith}
use mathlib.Core.Path.{◌≡◌, refl, sym, ap, ◌∙◌}
use mathlib.Core.List.{List, [], ◌∷◌, ◌++◌, append-nil, append_assoc}
use lib.ListN.{length, take, drop, length-append}
use lib.Seq.{take_at, drop_at, take-length, drop-length}
use Rattle.bitstream.specs.Bits.{Below}
use Rattle.table_listing.specs.Order.{picked, order}
use Rattle.table_listing.specs.Order.Laws.{picked-some, picked-other, order-none, order-suc, by_three}
use Rattle.table_listing.specs.Parted.{Parted}
use Rattle.table_listing.specs.declared.arrange.Parts.{Parts}

-- no place, or one alone, is in order
module _ (s : ℕ → List ℕ) (bits : (p : ℕ) → Below 2 (s p)) where
  order-one : (left d p : ℕ) → order s left d (p ∷ []) ≡ p ∷ []
  order-one zero d p = unfold order in refl
  order-one (suc left) d p =
      let nil : (k : ℕ) → picked s d k [] ≡ [] = λ k. unfold picked in refl in
      order-suc s left d (p ∷ [])
      ∙ by_three s bits d p
      (λ e.
      rw (picked-some s d 0 p [] e, picked-other s d 1 p [] (λ q. omega arith), picked-other s d 2 p [] (λ q. omega arith))
      (rw (nil 0, nil 1, nil 2, order-none s left (suc d))))
      (λ e.
      rw (picked-some s d 1 p [] e, picked-other s d 0 p [] (λ q. omega arith), picked-other s d 2 p [] (λ q. omega arith))
      (rw (nil 0, nil 1, nil 2, order-none s left (suc d), order-one left (suc d) p)))
      (λ e.
      rw (picked-some s d 2 p [] e, picked-other s d 0 p [] (λ q. omega arith), picked-other s d 1 p [] (λ q. omega arith))
      (rw (nil 0, nil 1, nil 2, order-none s left (suc d), order-one left (suc d) p)))

  pub order-few : (left d : ℕ) (ps : List ℕ) → length ps < 2 → order s left d ps ≡ ps
  order-few left d [] h = order-none s left d
  order-few left d (p ∷ []) h = order-one left d p
  order-few left d (p ∷ q ∷ ps) h = absurd (omega arith)

-- no bits to go
pub order-end : (s : ℕ → List ℕ) (left d : ℕ) (ps : List ℕ) → left ≡ 0 → ps ≡ order s left d ps
unfolding order
order-end s zero d ps e = refl
order-end s (suc left) d ps e = absurd (omega arith)

-- a node with `left` bits to go, in a tree 27 bits deep
pub order-step : (s : ℕ → List ℕ) (left : ℕ) (ps : List ℕ) → 1 ≤ left → left ≤ 27
    → order s left (27 - left) ps
    ≡ picked s (27 - left) 0 ps
    ++ order s (left - 1) (27 - (left - 1)) (picked s (27 - left) 1 ps)
    ++ order s (left - 1) (27 - (left - 1)) (picked s (27 - left) 2 ps)
order-step s zero ps least most = absurd (omega arith)
order-step s (suc left) ps least most =
    let one : suc left - 1 ≡ left = omega arith in
    let deeper : 27 - left ≡ suc (27 - suc left) = omega arith in
    rw (one, deeper) (order-suc s left (27 - suc left) ps)

pub record Bounds (r : Parts) (m' : List ℕ) : Type 0 where
  pub ends-most : r.ends ≤ r.zeros
  pub zeros-most : r.zeros ≤ length m'

pub parted-bounds : {s : ℕ → List ℕ} {d : ℕ} {ps : List ℕ} {r : Parts} {m' : List ℕ} → Parted s d ps r m' → Bounds r m'
parted-bounds {s} {d} {ps} {r} {m'} p =
    let size : length m' ≡ length (picked s d 0 ps) + length (picked s d 1 ps) + length (picked s d 2 ps) =
    ap length p.memory
    ∙ length-append (picked s d 0 ps ++ picked s d 1 ps) (picked s d 2 ps)
    ∙ ap (◌+ length (picked s d 2 ps)) (length-append (picked s d 0 ps) (picked s d 1 ps)) in
    record { ends-most = omega (arith, p.ends, p.zeros); zeros-most = omega (arith, p.zeros) }

-- ---- two parts of a list of three put in order one after the other: b becomes x, and c becomes y
module _ (a b c l : List ℕ) (i j : ℕ) (is : l ≡ a ++ b ++ c) (at_i : i ≡ length a) (at_j : j ≡ length a + length b) where
  after-a : drop i l ≡ b ++ c
  after-a = rw (is, append_assoc a b c) (drop_at a (b ++ c) i (sym at_i))

  pub middle : take (j - i) (drop i l) ≡ b
  middle = rw after-a (take_at b c (j - i) (omega arith))

  module _ (x : List ℕ) (size : length x ≡ length b) where
    once : take i l ++ (x ++ drop (j - i) (drop i l)) ≡ a ++ x ++ c
    once =
        rw (after-a, drop_at b c (j - i) (omega arith), is, append_assoc a b c, take_at a (b ++ c) i (sym at_i))
        (sym (append_assoc a x c))

    front : length (a ++ x) ≡ j
    front = length-append a x ∙ omega arith

    rest : length (a ++ x ++ c) - j ≡ length c
    rest = rw (length-append (a ++ x) c, front) (omega arith)

    pub last : let w = take i l ++ (x ++ drop (j - i) (drop i l)) in take (length w - j) (drop j w) ≡ c
    last = rw (once, rest, drop_at (a ++ x) c j front) (take-length c)

    pub twice : (y : List ℕ) → let w = take i l ++ (x ++ drop (j - i) (drop i l)) in
        take j w ++ (y ++ drop (length w - j) (drop j w)) ≡ a ++ x ++ y
    twice y = rw (once, rest, drop_at (a ++ x) c j front, take_at (a ++ x) c j front, drop-length c) (ap ((a ++ x) ++◌) (append-nil y))

-- ---- one step of the walk: the list parted, its 0-branch x and then its 1-branch y in order
module _
    (s : ℕ → List ℕ) (left : ℕ) (ps : List ℕ) (least : 1 ≤ left) (most : left ≤ 27)
    {r : Parts} {l : List ℕ} (p : Parted s (27 - left) ps r l) where
  pub step : (x y : List ℕ) → let w = take r.ends l ++ (x ++ drop (r.zeros - r.ends) (drop r.ends l)) in
      length x ≡ length (take (r.zeros - r.ends) (drop r.ends l))
      → x ≡ order s (left - 1) (27 - (left - 1)) (take (r.zeros - r.ends) (drop r.ends l))
      → y ≡ order s (left - 1) (27 - (left - 1)) (take (length w - r.zeros) (drop r.zeros w))
      → take r.zeros w ++ (y ++ drop (length w - r.zeros) (drop r.zeros w)) ≡ order s left (27 - left) ps
  step x y size lower higher =
      let a = picked s (27 - left) 0 ps in
      let b = picked s (27 - left) 1 ps in
      let c = picked s (27 - left) 2 ps in
      let mid = middle a b c l r.ends r.zeros p.memory p.ends p.zeros in
      let size-b = size ∙ ap length mid in
      twice a b c l r.ends r.zeros p.memory p.ends p.zeros x size-b y
      ∙ ap (λ (z : List ℕ). a ++ z ++ y) (lower ∙ ap (order s (left - 1) (27 - (left - 1))) mid)
      ∙ ap (λ (z : List ℕ). a ++ order s (left - 1) (27 - (left - 1)) b ++ z)
      (higher ∙ ap (order s (left - 1) (27 - (left - 1))) (last a b c l r.ends r.zeros p.memory p.ends p.zeros x size-b))
      ∙ sym (order-step s left ps least most)
