-- Tree order: "prints its strings in tree order, the 0-branch before the 1-branch, never deeper than 27". Strings are named
-- by their places, and s gives the string at a place. Definitions only; their laws are in Order/. Assumes nothing.
use Rattle.std.specs.Prelude.{ℕ, zero, suc, ◌+◌, Bool, true, false, cond, List, [], ◌∷◌, ◌++◌, length, get_or, leb, ltb, eqb}
pub mod Laws
pub mod Once
pub mod Sorted

-- where a string goes at a node of the tree that is d bits deep: 0 it ends there, 1 into the 0-branch, 2 into the 1-branch
unfoldable pub way : ℕ → List ℕ → ℕ
way d bits = cond (leb (length bits) d) 0 (1 + get_or bits d 0)

-- those of some places whose strings go the way k, as they follow each other
unfoldable pub picked : (ℕ → List ℕ) → ℕ → ℕ → List ℕ → List ℕ
picked s d k [] = []
picked s d k (p ∷ ps) = let q : List ℕ = picked s d k ps in cond (eqb (way d (s p)) k) (p ∷ q) q

-- the places below such a node, in tree order; the tree goes `left` bits deeper
unfoldable pub order : (ℕ → List ℕ) → ℕ → ℕ → List ℕ → List ℕ
order s zero d ps = ps
order s (suc left) d [] = []
order s (suc left) d (p ∷ ps) =
    picked s d 0 (p ∷ ps) ++ order s left (suc d) (picked s d 1 (p ∷ ps)) ++ order s left (suc d) (picked s d 2 (p ∷ ps))

-- the first n places, one after the other
unfoldable pub places : ℕ → List ℕ
places zero = []
places (suc n) = places n ++ (n ∷ [])

-- how often a number stands in a list
unfoldable pub occurs : ℕ → List ℕ → ℕ
occurs x [] = 0
occurs x (y ∷ ys) = cond (eqb x y) 1 0 + occurs x ys

-- a string stands before another in the tree: where they first differ it has the 0. One that begins another stands first
unfoldable pub before : List ℕ → List ℕ → Bool
before [] b = true
before (x ∷ a) [] = false
before (x ∷ a) (y ∷ b) = let q : Bool = before a b in cond (eqb x y) q (ltb x y)
