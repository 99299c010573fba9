-- What a turn of any_above does, and its end. Assumes nothing.
use Prim.Native.Nat.{ℕ, ◌+◌, ◌≤◌, ◌<◌}
use native.Mathlib.Omega.{arith}
use mathlib.Core.Path.{◌≡◌, refl, sym, ◌∙◌}
use mathlib.Core.Bool.{Bool, true, false, ◌||◌, or-true, or-false}
use mathlib.Core.List.{List}
use lib.ListN.{length, drop, get_or}
use lib.Dec.{ltb}
use borrow.Author.Tests.{lt-ltb, le-ltb}
use Rattle.row_format.specs.Lists.{any}
use Rattle.row_pixels.specs.Laws.{drop_more, drop-end}

-- after i pixels: whether one of them is above 4095
pub record Looking (ps : List ℕ) (above : Bool) (i : ℕ) : Type 0 where
  pub within : i ≤ length ps
  pub found : any (ltb 4095) ps ≡ (above || any (ltb 4095) (drop i ps))

pub looking-none : (ps : List ℕ) → Looking ps false 0
looking-none ps = record { within = omega arith; found = refl }

module _ {ps : List ℕ} {above : Bool} {i : ℕ} (l : Looking ps above i) where
  module _ (h : i < length ps) {pixel : ℕ} (e : pixel ≡ get_or ps i 0) where
    pub looking-low : pixel ≤ 4095 → Looking ps above (i + 1)
    unfolding any
    looking-low low = record { within = omega arith; found = l.found ∙ rw (drop_more ps i h e, le-ltb 4095 pixel low) }

    pub looking-high : 4095 < pixel → Looking ps true (i + 1)
    unfolding any
    looking-high high =
        record { within = omega arith; found = l.found ∙ rw (drop_more ps i h e, lt-ltb 4095 pixel high) (or-true above) }

  pub looked-all : length ps ≤ i → above ≡ any (ltb 4095) ps
  unfolding any
  looked-all g = sym (l.found ∙ rw (drop-end ps i l.within g) (or-false above))
