-- Document 02, ticket 5, "First height always raw": where a row's first height stands; and the packing rule before that ticket,
-- which serves only to say what becomes of rows that were packed by it. Definitions only. Assumes nothing.
use Rattle.std.specs.Prelude.{ℕ, ◌≤◌, ◌≡◌, List, [], ◌∷◌, ◌++◌, ◌⊎◌}
use Rattle.row_format.specs.Table.{has_difference}
use Rattle.row_format.specs.Row.{Item, bad_pixel, bad_bias, State, fresh, difference_to, item_by, after, bits, in_words}

-- ---- a row's first height
-- pixels each of which is 4095 or 4094
abbrev pub AllBad : List ℕ → Type 0
AllBad [] = Unit {0}
AllBad (p ∷ ps) = ((p ≡ 4095) ⊎ (p ≡ 4094)) × AllBad ps

-- "the first pixel that is neither 4094 nor 4095", what stands before it and what after
pub record FirstHeight (ps : List ℕ) : Type 0 where
  pub before : List ℕ
  pub height : ℕ
  pub rest : List ℕ
  pub row : ps ≡ before ++ (height ∷ rest)
  pub bad : AllBad before
  pub most : height ≤ 4093

-- items none of which stands for a height
abbrev pub AllBadItems : List Item → Type 0
AllBadItems [] = Unit {0}
AllBadItems (i ∷ is) = ((i ≡ bad_pixel) ⊎ (i ≡ bad_bias)) × AllBadItems is

-- ---- the rule before ticket 5, as document 01 has it: a height is written by its step "If the table has the step", the first
-- one too, from a previous height of 0
unfoldable pub former_item_for : List ℕ → State → ℕ → Item
former_item_for t s p = item_by (has_difference t (difference_to s p)) s p

unfoldable pub former_items_for : List ℕ → State → List ℕ → List Item
former_items_for t s [] = []
former_items_for t s (p ∷ ps) = former_item_for t s p ∷ former_items_for t (after s (former_item_for t s p)) ps

-- the bits and the words of a row by it
unfoldable pub former_bits : List ℕ → List ℕ → List ℕ
former_bits t ps = bits t (former_items_for t fresh ps)

abbrev pub former_bytes : List ℕ → List ℕ → List ℕ
former_bytes t ps = in_words (former_bits t ps)
