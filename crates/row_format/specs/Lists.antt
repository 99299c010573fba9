-- Tests over lists, and the least number that passes a test. Assumes nothing.
use Rattle.std.specs.Prelude.{ℕ, zero, suc, Bool, false, cond, ◌||◌, List, [], ◌∷◌}
pub mod Laws

-- some element passes the test
unfoldable pub any : {A : Type 0} → (A → Bool) → List A → Bool
any f [] = false
any f (x ∷ xs) = let q : Bool = any f xs in f x || q

-- the least number below n that passes the test, or n where none does
unfoldable pub least : (ℕ → Bool) → ℕ → ℕ
least f zero = 0
least f (suc n) = let q : ℕ = least (λ k. f (suc k)) n in cond (f 0) 0 (suc q)
