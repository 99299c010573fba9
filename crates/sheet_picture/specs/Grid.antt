-- The picture of a sheet, a grid of colour indices: each height is one sample, or a square of so many times as many, and nothing
-- else becomes of it. A map stands to the right. Definitions only; their laws are in Grid/. Assumes nothing.
use Rattle.std.specs.Prelude.{ℕ, zero, suc, ◌+◌, ◌*◌, ◌/◌, max, min, cond, List, [], ◌∷◌, ◌++◌, map, take, drop, replicate, ltb}
use Rattle.sheet_format.specs.Sheet.{StoredRow, Heights, absent, present, heights_of, sheet_read, stored_rows}
use Rattle.sheet_picture.specs.Colour.{Range, missing, background, height_index, count_index}
use Rattle.sheet_picture.specs.Extent.{Extent, sheet_extent}
pub mod Laws

-- each sample k times
unfoldable pub widened : ℕ → List ℕ → List ℕ
widened k [] = []
widened k (x ∷ xs) = replicate k x ++ widened k xs

-- ---- a row of the sheet, w samples: its heights, and what it lacks
abbrev pub row_samples : Range → ℕ → Heights → List ℕ
row_samples g w absent = replicate w missing
row_samples g w (present hs) = take w (map (height_index g) hs ++ replicate w missing)

-- ---- the map beside it: none, one of 128 x 128 counts, or one that is refused
pub data Beside : Type 0 where
  nothing : Beside
  counts : List ℕ → Beside
  unread : Beside

-- samples between the two
abbrev pub gap : ℕ
gap = 8

unfoldable pub most_of : List ℕ → ℕ
most_of [] = 1
most_of (c ∷ cs) = max c (most_of cs)

-- row j of the map
unfoldable pub count_samples : List ℕ → ℕ → List ℕ
count_samples cs j = map (count_index (most_of cs)) (take 128 (drop (128 * j) cs))

-- how many times a count stands in each direction beside n rows of samples: the most by which the map is no higher than these, but
-- at least 1 and at most 31
abbrev pub beside_times : ℕ → ℕ
beside_times n = max 1 (min 31 (n / 128))

-- ---- the picture
-- times    how many times each height stands in each direction, 1 to 15
-- grey     the heights in grey
-- beside   the map
pub record Look : Type 0 where
  pub times : ℕ
  pub grey : Range
  pub beside : Beside

-- row y of what is left, where the sheet's row has these heights, and of what is right
abbrev pub left_row : Look → Extent → Heights → ℕ → List ℕ
left_row l e hs y =
    cond (ltb y (e.height * l.times))
    (widened l.times (row_samples l.grey e.width hs))
    (replicate (e.width * l.times) background)

abbrev pub beside_row : ℕ → ℕ → List ℕ → List ℕ
beside_row f y xs = replicate gap background ++ cond (ltb y (128 * f)) (widened f xs) (replicate (128 * f) background)

abbrev pub right_row : Beside → ℕ → ℕ → List ℕ
right_row nothing f y = []
right_row (counts cs) f y = beside_row f y (count_samples cs (y / f))
right_row unread f y = beside_row f y (replicate 128 missing)

unfoldable pub picture_row : Look → Extent → List StoredRow → ℕ → List ℕ
picture_row l e ys y =
    left_row l e (heights_of (y / l.times) ys) y ++ right_row l.beside (beside_times (e.height * l.times)) y

-- samples of a row, and rows
abbrev pub beside_width : Beside → ℕ → ℕ
beside_width nothing f = 0
beside_width (counts cs) f = gap + 128 * f
beside_width unread f = gap + 128 * f

abbrev pub beside_height : Beside → ℕ → ℕ
beside_height nothing f = 0
beside_height (counts cs) f = 128 * f
beside_height unread f = 128 * f

unfoldable pub picture_width : Look → Extent → ℕ
picture_width l e = e.width * l.times + beside_width l.beside (beside_times (e.height * l.times))

unfoldable pub picture_height : Look → Extent → ℕ
picture_height l e = max (e.height * l.times) (beside_height l.beside (beside_times (e.height * l.times)))

-- n rows from row y on
unfoldable pub rows_from : (ℕ → List ℕ) → ℕ → ℕ → List (List ℕ)
rows_from f y zero = []
rows_from f y (suc n) = f y ∷ rows_from f (y + 1) n

-- all rows, of the sheet whose bytes are s
unfoldable pub picture_rows : Look → List ℕ → List (List ℕ)
picture_rows l s =
    let e : Extent = sheet_extent s in
    rows_from (picture_row l e (stored_rows (sheet_read s).records)) 0 (picture_height l e)
