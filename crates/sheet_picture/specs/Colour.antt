-- The colours of a picture. A sample is the index of a colour: 178 greys for heights, six colours of their own, and 72 greens for the
-- counts of a map. Definitions only; their laws are in Colour/. Assumes nothing.
use Rattle.std.specs.Prelude.{ℕ, zero, suc, ◌+◌, ◌-◌, ◌*◌, ◌/◌, cond, List, [], ◌∷◌, ◌++◌, ltb, eqb}
pub mod Laws

-- the heights that are drawn in grey: low to high, both included
pub record Range : Type 0 where
  pub low : ℕ
  pub high : ℕ

abbrev pub greys : ℕ
greys = 178

-- heights outside the range
abbrev pub below_range : ℕ
below_range = 178

abbrev pub above_range : ℕ
above_range = 179

-- the bad spots, 4094 and 4095
abbrev pub bad_bias_spot : ℕ
bad_bias_spot = 180

abbrev pub bad_pixel_spot : ℕ
bad_pixel_spot = 181

-- what a row lacks, and a row number that is missing
abbrev pub missing : ℕ
missing = 182

-- where neither the sheet nor the map is
abbrev pub background : ℕ
background = 183

abbrev pub first_green : ℕ
first_green = 184

-- the grey of a height: the range is cut into 178 steps that differ by at most one in length. Of 0 to 4093 each step has 23 heights
abbrev pub grey_of : Range → ℕ → ℕ
grey_of g h = (h - g.low) * greys / (g.high - g.low + 1)

unfoldable pub height_index : Range → ℕ → ℕ
height_index g h =
    cond (eqb h 4095) bad_pixel_spot
    (cond (eqb h 4094) bad_bias_spot
    (cond (ltb h g.low) below_range
    (cond (ltb g.high h) above_range (grey_of g h))))

-- the green of a count, in a map whose largest count is most, at least 1: no count is the darkest, the largest the lightest, and every
-- count but 0 is lighter than none
unfoldable pub count_index : ℕ → ℕ → ℕ
count_index most c = first_green + (c * 71 + (most - 1)) / most

-- ---- red, green and blue of an index
abbrev pub colour : ℕ → ℕ → ℕ → List ℕ
colour r g b = r ∷ g ∷ b ∷ []

unfoldable pub own_colour : ℕ → List ℕ
own_colour i =
    cond (eqb i below_range) (colour 112 0 160)
    (cond (eqb i above_range) (colour 0 224 255)
    (cond (eqb i bad_bias_spot) (colour 255 200 0)
    (cond (eqb i bad_pixel_spot) (colour 255 0 0)
    (cond (eqb i missing) (colour 32 64 208) (colour 250 244 220)))))

-- no count is far darker than the others, so that a single one is seen
unfoldable pub green_colour : ℕ → List ℕ
green_colour t = cond (eqb t 0) (colour 0 32 0) (colour (t * 220 / 71) (80 + t * 175 / 71) (t * 140 / 71))

unfoldable pub colour_of : ℕ → List ℕ
colour_of i =
    cond (ltb i greys) (let v : ℕ = i * 255 / 177 in colour v v v)
    (cond (ltb i first_green) (own_colour i) (green_colour (i - first_green)))

-- the colours of n indices from i on, one after another
unfoldable pub colours_from : ℕ → ℕ → List ℕ
colours_from zero i = []
colours_from (suc n) i = colour_of i ++ colours_from n (i + 1)

abbrev pub palette : List ℕ
palette = colours_from 256 0
