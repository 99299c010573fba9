-- The theorems about the picture of a sheet, in the order's words; the files below prove them. l is how the sheet is looked at, e its
-- extent, ys its stored rows, g a range of heights. Assumes nothing.
use Rattle.std.specs.Prelude.{ℕ, ◌+◌, ◌-◌, ◌*◌, ◌/◌, ◌≤◌, ◌<◌, ◌≡◌, refl, ◌↔◌, length, get_or}
use mathlib.Core.List.{List, [], ◌∷◌, ◌++◌, Memᴰ}
use Rattle.sheet_format.specs.Sheet.{StoredRow, absent, present, heights_of, stored_rows, sheet_read}
use Rattle.sheet_picture.specs.declared.View.{View}
use Rattle.sheet_picture.specs.Colour.{Range, greys, missing, first_green, grey_of, height_index, count_index, colour, colour_of}
use Rattle.sheet_picture.specs.Extent.{Extent, sheet_extent}
use Rattle.sheet_picture.specs.Grid.{Look, counts, gap, most_of, beside_times, picture_row, picture_width, picture_height, picture_rows}
use Rattle.sheet_picture.specs.View.{look_of, extent_of, ViewFits}
use Rattle.sheet_picture.specs.View.Laws.{length-row}
use Sample.{height-shown, lack-shown, absence-shown, count-shown}
use Rows.{rows_all, row_at}
use Index.{grey-iff, grey-of-range, grey-rises, grey-narrow, grey-apart, grey-whole, height-few, bad-apart}
use Index.{count_none, count-one, count-rises, count-largest}
use Colours.{bad-seen, lack-seen}
use Palette.{colour-apart, grey-even, grey-lighter}
use Extents.{row_within, extent-narrow, extent-last, extent-none}
pub mod Sample
pub mod Rows
pub mod Index
pub mod Colours
pub mod Palette
pub mod Extents

-- ---- where a height stands
-- "One sample a height, no scaling but whole-number replication": sample (y, x) of the sheet's part shows the height at row y / times,
-- column x / times, that height alone, by its index.
module _ (l : Look) (e : Extent) (ys : List StoredRow) (y x : ℕ) (row : y < e.height * l.times) (column : x < e.width * l.times) where
  pub sample-height : (hs : List ℕ) → heights_of (y / l.times) ys ≡ present hs → x / l.times < length hs
      → get_or (picture_row l e ys y) x 0 ≡ height_index l.grey (get_or hs (x / l.times) 0)
  sample-height = height-shown l e ys y x row column

  -- "one for what a row lacks and for row numbers that are missing"
  pub sample-lacking : (hs : List ℕ) → heights_of (y / l.times) ys ≡ present hs → length hs ≤ x / l.times
      → get_or (picture_row l e ys y) x 0 ≡ missing
  sample-lacking = lack-shown l e ys y x row column

  pub sample-missing : heights_of (y / l.times) ys ≡ absent → get_or (picture_row l e ys y) x 0 ≡ missing
  sample-missing = absence-shown l e ys y x row column

-- "The 128 x 128 counts beside the heights": sample (y, x) of the map's part shows the count at row y / f, column x / f.
pub sample-count : (l : Look) (e : Extent) (ys : List StoredRow) (cs : List ℕ) (y x : ℕ) → l.beside ≡ counts cs → length cs ≡ 16384
    → let f = beside_times (e.height * l.times) in
    y < 128 * f → x < 128 * f
    → get_or (picture_row l e ys y) (e.width * l.times + (gap + x)) 0 ≡ count_index (most_of cs) (get_or cs (128 * (y / f) + x / f) 0)
sample-count = count-shown

-- "A row stands at its row number": the picture's rows are those of its numbers from 0 on, from the top.
pub picture-rows : (l : Look) (s : List ℕ) → length (picture_rows l s) ≡ picture_height l (sheet_extent s)
picture-rows = rows_all

pub picture-row : (l : Look) (s : List ℕ) (y : ℕ) → y < picture_height l (sheet_extent s)
    → get_or (picture_rows l s) y [] ≡ picture_row l (sheet_extent s) (stored_rows (sheet_read s).records) y
picture-row = row_at

-- each of the picture's width
pub row-wide : {v : View} {b : List ℕ} → ViewFits v b → (y : ℕ) (ys : List StoredRow)
    → length (picture_row (look_of v b) (extent_of v) ys y) ≡ picture_width (look_of v b) (extent_of v)
row-wide = length-row

-- ---- the greys
module _ (g : Range) (ordered : g.low ≤ g.high) (heights : g.high ≤ 4093) where
  -- an index is a grey's exactly for the heights of the range
  pub grey-exactly : (h : ℕ) → h ≤ 4095 → (height_index g h < greys) ↔ ((g.low ≤ h) × (h ≤ g.high))
  grey-exactly = grey-iff g ordered heights

  -- "by a stated rule"
  pub grey-rule : (h : ℕ) → g.low ≤ h → h ≤ g.high → height_index g h ≡ grey_of g h
  grey-rule = grey-of-range g ordered heights

  module _ (h k : ℕ) (low : g.low ≤ h) (order : h ≤ k) (high : k ≤ g.high) where
    -- "monotone"
    pub grey-monotone : height_index g h ≤ height_index g k
    grey-monotone = grey-rises g ordered heights h k low order high

    -- "No two heights in one grey but by the stated rule": they are less than a 178th of the range apart
    pub grey-shared : height_index g h ≡ height_index g k → (k - h) * greys < g.high - g.low + 1
    grey-shared = grey-narrow g ordered heights h k low order high

    -- so that in a range of at most 178 heights each has a grey of its own
    pub grey-own : g.high - g.low < greys → height_index g h ≡ height_index g k → h ≡ k
    grey-own = grey-apart g ordered heights h k low order high

-- "Greys for heights 0 to 4093 ..., 0 darkest, 4093 lightest": 23 heights a grey
pub grey-all : (h : ℕ) → h ≤ 4093 → height_index record { low = 0; high = 4093 } h ≡ h / 23
grey-all = grey-whole

pub grey-darkest : height_index record { low = 0; high = 4093 } 0 ≡ 0
unfolding height_index
grey-darkest = refl

pub grey-lightest : height_index record { low = 0; high = 4093 } 4093 ≡ 177
unfolding height_index
grey-lightest = refl

-- ---- the colours
-- no two of the 256 are the same
pub colours-differ : (i j : ℕ) → i < 256 → j < 256 → colour_of i ≡ colour_of j → i ≡ j
colours-differ = colour-apart

-- a grey is as much red as green as blue, and the higher its index the lighter
pub grey-colour : (i : ℕ) → i < greys → colour_of i ≡ colour (i * 255 / 177) (i * 255 / 177) (i * 255 / 177)
grey-colour = grey-even

pub grey-light : (i j : ℕ) → i < j → i * 255 / 177 < j * 255 / 177
grey-light = grey-lighter

-- "One strong colour each for 4095 and 4094": "bad spots never share a colour with a height", nor with each other; and no height, good
-- or bad, has the colour of what is missing
module _ (g : Range) (ordered : g.low ≤ g.high) (heights : g.high ≤ 4093) where
  pub bad-index : (h k : ℕ) → 4094 ≤ h → h ≤ 4095 → k ≤ 4095 → height_index g h ≡ height_index g k → h ≡ k
  bad-index = bad-apart g ordered heights

  pub bad-colour : (h k : ℕ) → 4094 ≤ h → h ≤ 4095 → k ≤ 4095 → colour_of (height_index g h) ≡ colour_of (height_index g k) → h ≡ k
  bad-colour = bad-seen g ordered heights

  pub missing-index : (h : ℕ) → h ≤ 4095 → height_index g h < missing
  missing-index = height-few g ordered heights

  pub missing-colour : (h : ℕ) → h ≤ 4095 → colour_of (height_index g h) ≡ colour_of missing → ⊥
  missing-colour = lack-seen g ordered heights

-- a map's greens: none is the darkest, a count is lighter than none, the largest is the lightest, and a larger is no darker
module _ (most : ℕ) (some : 1 ≤ most) where
  pub green-none : count_index most 0 ≡ first_green
  green-none = count_none most some

  pub green-some : (c : ℕ) → 1 ≤ c → first_green < count_index most c
  green-some = count-one most some

  pub green-largest : count_index most most ≡ 255
  green-largest = count-largest most some

  pub green-monotone : (c d : ℕ) → c ≤ d → count_index most c ≤ count_index most d
  green-monotone = count-rises most some

-- ---- the extent
module _ (s : List ℕ) where
  -- every stored row of any sheet, accepted or not, lies within
  pub extent-within : (y : StoredRow) → Memᴰ y (stored_rows (sheet_read s).records)
      → (y.number < (sheet_extent s).height) × (length y.heights ≤ (sheet_extent s).width)
  extent-within = row_within s

  -- an accepted sheet's is no more than that: as wide as its widest row, and down to its last
  module _ (accepted : (sheet_read s).number ≡ 0) where
    pub extent-width : (n : ℕ) → 1 ≤ n → ((y : StoredRow) → Memᴰ y (stored_rows (sheet_read s).records) → length y.heights ≤ n)
        → (sheet_extent s).width ≤ n
    extent-width = extent-narrow s accepted

    pub extent-height : (ys : List StoredRow) (y : StoredRow) → stored_rows (sheet_read s).records ≡ ys ++ (y ∷ [])
        → (sheet_extent s).height ≡ y.number + 1
    extent-height = extent-last s accepted

    -- without a row, one sample
    pub extent-rowless : stored_rows (sheet_read s).records ≡ [] → sheet_extent s ≡ record { width = 1; height = 1 }
    extent-rowless = extent-none s accepted
