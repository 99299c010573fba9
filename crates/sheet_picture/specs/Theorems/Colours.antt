-- What a colour tells of what it shows. Assumes nothing.
use Rattle.std.specs.Prelude.{ℕ, ◌≤◌, ◌<◌, ◌≡◌}
use Rattle.std.proofs.Common.{arith}
use Rattle.sheet_picture.specs.Colour.{Range, missing, height_index, colour_of}
use Rattle.sheet_picture.specs.Theorems.Index.{height-few, bad-apart}
use Rattle.sheet_picture.specs.Theorems.Palette.{colour-apart}

module _ (g : Range) (ordered : g.low ≤ g.high) (heights : g.high ≤ 4093) where
  small : (h : ℕ) → h ≤ 4095 → height_index g h < 256
  small h most = omega (arith, height-few g ordered heights h most)

  pub bad-seen : (h k : ℕ) → 4094 ≤ h → h ≤ 4095 → k ≤ 4095 → colour_of (height_index g h) ≡ colour_of (height_index g k) → h ≡ k
  bad-seen h k bad most few same =
      bad-apart g ordered heights h k bad most few
      (colour-apart (height_index g h) (height_index g k) (small h most) (small k few) same)

  pub lack-seen : (h : ℕ) → h ≤ 4095 → colour_of (height_index g h) ≡ colour_of missing → ⊥
  lack-seen h most same =
      let is = colour-apart (height_index g h) missing (small h most) (omega arith) same in
      omega (arith, is, height-few g ordered heights h most)
