-- One claim over a list of cases, and its proof. Assumes nothing.
use Rattle.std.specs.Prelude.{List, [], ◌∷◌}

abbrev pub Each : {C : Type 0} → (C → Type 0) → List C → Type 0
Each holds [] = Unit {0}
Each holds (c ∷ cs) = holds c × Each holds cs

-- one case's proof and the others'
infixr 3 ◌also◌
abbrev pub ◌also◌ : {A B : Type 0} → A → B → A × B
a also b = (a, b)
