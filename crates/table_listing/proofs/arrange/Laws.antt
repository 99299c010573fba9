-- A list on the way from one memory to another, and its laws. Assumes nothing.
use Prim.Native.Nat.{ℕ, ◌+◌, ◌≤◌, ◌<◌}
use native.Mathlib.Numerals.{add-one}
use native.Mathlib.Omega.{arith}
use mathlib.Core.Path.{◌≡◌, refl, sym, ◌∙◌}
use mathlib.Core.List.{List}
use lib.ListN.{length, take, get_or, set, length-set}
use lib.Seq.{take-suc, take-suc-set, take_all}

-- the first i numbers of the list l stand in a memory of its length
pub record Copying (l : List ℕ) (i : ℕ) (m : List ℕ) : Type 0 where
  pub within : i ≤ length l
  pub size : length m ≡ length l
  pub same : take i m ≡ take i l

pub copying-none : (l m : List ℕ) → length m ≡ length l → Copying l 0 m
copying-none l m e = record { within = omega arith; size = e; same = refl }

pub copying-more : {l m : List ℕ} {i : ℕ} (x : ℕ) → i < length l → x ≡ get_or l i 0 → Copying l i m → Copying l (i + 1) (set m i x)
copying-more {l} {m} {i} x h e c =
    record {
      within = omega arith;
      size = length-set m i x ∙ c.size;
      same = rw (add-one i, take-suc l i 0 h, ← e, take-suc-set m i x (omega (arith, c.size)), c.same);
    }

pub copying-all : {l m : List ℕ} {i : ℕ} → length l ≤ i → Copying l i m → m ≡ l
copying-all {l} {m} {i} h c = sym (take_all i m (omega (arith, c.size))) ∙ c.same ∙ take_all i l h
