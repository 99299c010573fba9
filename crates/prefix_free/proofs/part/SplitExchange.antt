-- Two elements of a list exchanged, and the laws of an exchange. Assumes nothing.
use Prim.Native.Nat.{ℕ, ◌<◌}
use native.Mathlib.Decide.{ℕ_discrete}
use native.Mathlib.Omega.{arith}
use mathlib.Core.Path.{◌≡◌, refl, sym, ◌∙◌}
use mathlib.Core.List.{List, []}
use lib.ListN.{length, get_or, set, length-set}
use lib.Seq.{get_or-set_same, get_or-set_other, lt-length-set}
use Rattle.row_format.specs.Table.{clash, Apart}
use Rattle.row_format.specs.Table.Laws.{clash-false-apart, apart-clash-false}
use Rattle.prefix_free.specs.Branch.Pairs.{same_test}

-- a list with the elements at a and b exchanged; d is what is read past its end
abbrev pub swapped : {A : Type 0} → List A → ℕ → ℕ → A → List A
swapped l a b d = set (set l a (get_or l b d)) b (get_or l a d)

-- the place k' that the element at k comes from when those at a and b are exchanged
pub data Moved (a b k k' : ℕ) : Type 0 where
  up : k ≡ a → k' ≡ b → Moved a b k k'
  down : k ≡ b → k' ≡ a → Moved a b k k'
  stays : (k ≡ a → ⊥) → (k ≡ b → ⊥) → k' ≡ k → Moved a b k k'

-- l' is l with the elements at a and b exchanged
pub record Exchanged {A : Type 0} (a b : ℕ) (d : A) (l l' : List A) : Type 0 where
  pub long : length l' ≡ length l
  pub from : {k k' : ℕ} → Moved a b k k' → get_or l' k d ≡ get_or l k' d

-- ---- places
-- each place is filled from one
pub source : (a b k : ℕ) → (k' : ℕ) × Moved a b k k'
source a b k = at (ℕ_discrete k a) (ℕ_discrete k b)
  where
    at : Dec (k ≡ a) → Dec (k ≡ b) → (k' : ℕ) × Moved a b k k'
    at (yes e) q = (b, up e refl)
    at (no n) (yes e) = (a, down e refl)
    at (no n) (no m) = (k, stays n m refl)

pub moved-lt : {a b k k' : ℕ} (n : ℕ) → a < n → b < n → k < n → Moved a b k k' → k' < n
moved-lt n ha hb hk (up e f) = omega arith
moved-lt n ha hb hk (down e f) = omega arith
moved-lt n ha hb hk (stays p q f) = omega arith

pub moved-sym : {a b k k' : ℕ} → Moved a b k k' → Moved a b k' k
moved-sym (up e f) = down f e
moved-sym (down e f) = up f e
moved-sym (stays p q f) = stays (omega arith) (omega arith) (sym f)

-- two places are filled from two places
pub moved_apart : {a b i i' j j' : ℕ} → Moved a b i i' → Moved a b j j' → (i ≡ j → ⊥) → i' ≡ j' → ⊥
moved_apart (up e f) (up g h) n = omega arith
moved_apart (up e f) (down g h) n = omega arith
moved_apart (up e f) (stays p q h) n = omega arith
moved_apart (down e f) (up g h) n = omega arith
moved_apart (down e f) (down g h) n = omega arith
moved_apart (down e f) (stays p q h) n = omega arith
moved_apart (stays p q f) (up g h) n = omega arith
moved_apart (stays p q f) (down g h) n = omega arith
moved_apart (stays p q f) (stays r t h) n = omega arith

-- ---- lists
module _ {A : Type 0} (a b : ℕ) (d : A) where
  pub swapped-exchanged : (l : List A) → a < length l → b < length l → Exchanged a b d l (swapped l a b d)
  swapped-exchanged l ha hb = record { long = simp length-set; from = from }
    where
      v : A
      v = get_or l a d

      l₁ : List A
      l₁ = set l a (get_or l b d)

      first : Dec (a ≡ b) → get_or (set l₁ b v) a d ≡ get_or l b d
      first (yes e) = rw e (get_or-set_same (set l b (get_or l b d)) b (get_or l b d) d (lt-length-set l b (get_or l b d) hb))
      first (no n) = get_or-set_other l₁ b a v d n ∙ get_or-set_same l a (get_or l b d) d ha

      from : {k k' : ℕ} → Moved a b k k' → get_or (set l₁ b v) k d ≡ get_or l k' d
      from (up e f) = rw (e, f) (first (ℕ_discrete a b))
      from (down e f) = rw (e, f) (get_or-set_same l₁ b v d (lt-length-set l a (get_or l b d) hb))
      from {k} {k'} (stays n m f) = get_or-set_other l₁ b k v d m ∙ get_or-set_other l a k (get_or l b d) d n ∙ rw f

  pub exchanged-sym : {l l' : List A} → Exchanged a b d l l' → Exchanged a b d l' l
  exchanged-sym x = record { long = sym x.long; from = λ m. sym (x.from (moved-sym m)) }

-- ---- an exchange
exchanged-apart : {a b : ℕ} {ss us : List (List ℕ)} → a < length ss → b < length ss → Exchanged a b [] ss us
    → Apart (length ss) (λ i. get_or ss i []) → Apart (length us) (λ i. get_or us i [])
exchanged-apart {a} {b} {ss} {us} ha hb x h i j hi hj n =
    let p = source a b i in
    let q = source a b j in
    let long : length us ≡ length ss = x.long in
    rw (x.from p.1, x.from q.1)
    (h p.0 q.0 (moved-lt (length ss) ha hb (omega arith) p.1) (moved-lt (length ss) ha hb (omega arith) q.1)
    (moved_apart p.1 q.1 n))

pub clash-exchanged : {a b : ℕ} {ss us : List (List ℕ)} → a < length ss → b < length ss → Exchanged a b [] ss us → clash us ≡ clash ss
clash-exchanged {a} {b} {ss} {us} ha hb x =
    let long : length us ≡ length ss = x.long in
    same_test (clash us) (clash ss)
    (λ e. apart-clash-false ss (exchanged-apart (omega arith) (omega arith) (exchanged-sym a b [] x) (clash-false-apart us e)))
    (λ e. apart-clash-false us (exchanged-apart ha hb x (clash-false-apart ss e)))
