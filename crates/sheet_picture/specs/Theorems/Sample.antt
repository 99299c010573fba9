-- Which height a sample shows, and which count. Assumes nothing.
use Prim.Native.Nat.{ℕ, zero, suc, ◌+◌, ◌-◌, ◌*◌, ◌/◌, ◌≤◌, ◌<◌}
use Rattle.std.proofs.Common.{mul-zero, div-lt_iff_lt-mul, add-one, arith, sym, ap, ◌∙◌, get_or-take, get_or-drop, get_or-append-add, length-take-le, lt-ltb}
use Rattle.std.proofs.Math.Nat.{div-eq_of_lt, div-eq-sub-div}
use Rattle.std.proofs.Math.Decide.{dec_lt}
use Rattle.std.specs.Prelude.{◌≡◌, refl, take, drop, get_or, replicate}
use mathlib.Core.List.{List, [], ◌∷◌, ◌++◌, map}
use Rattle.std.proofs.Math.ListN.{length, get_or-append}
use Rattle.std.proofs.lemmas.List.{length-map, length-replicate, get_or-replicate}
use Rattle.sheet_format.specs.Sheet.{StoredRow, Heights, absent, present, heights_of}
use Rattle.sheet_picture.specs.Colour.{Range, missing, background, height_index, count_index}
use Rattle.sheet_picture.specs.Extent.{Extent}
use Rattle.sheet_picture.specs.Grid.{Look, counts, gap, most_of, widened}
use Rattle.sheet_picture.specs.Grid.{row_samples, count_samples, left_row, right_row, beside_times, picture_row}
use Rattle.sheet_picture.specs.Grid.Laws.{length-samples, length-left, left-inside, row-shown, row-there, length-counts}

-- ---- of lists
-- sample x of samples that stand k times each
pub get_d-widened : (k : ℕ) (xs : List ℕ) (x : ℕ) → x < length xs * k → get_or (widened k xs) x 0 ≡ get_or xs (x / k) 0
unfolding widened
get_d-widened zero xs x h = absurd (omega (arith, mul-zero (length xs)))
get_d-widened (suc k) [] x h = absurd (omega arith)
get_d-widened (suc k) (y ∷ xs) x h = by (get_d-widened (suc k) xs (x - suc k)) (dec_lt x (suc k))
  where
    by : (x - suc k < length xs * suc k → get_or (widened (suc k) xs) (x - suc k) 0 ≡ get_or xs ((x - suc k) / suc k) 0)
        → Dec (x < suc k) → get_or (replicate (suc k) y ++ widened (suc k) xs) x 0 ≡ get_or (y ∷ xs) (x / suc k) 0
    by rest (yes low) =
        get_or-append (replicate (suc k) y) (widened (suc k) xs) 0 x (omega (arith, length-replicate (suc k) y))
        ∙ get_or-replicate (suc k) x y 0 low
        ∙ rw (div-eq_of_lt low)
    by rest (no high) =
        let past : suc k ≤ x = omega arith in
        let place : x ≡ length (replicate (suc k) y) + (x - suc k) = omega (arith, length-replicate (suc k) y) in
        let less : x - suc k < length xs * suc k = omega arith in
        ap (λ (n : ℕ). get_or (replicate (suc k) y ++ widened (suc k) xs) n 0) place
        ∙ get_or-append-add (replicate (suc k) y) (widened (suc k) xs) (x - suc k) 0
        ∙ rest less
        ∙ rw (div-eq-sub-div {m = suc k} (omega arith) past, add-one ((x - suc k) / suc k))

pub get_d_map : (f : ℕ → ℕ) (l : List ℕ) (i : ℕ) → i < length l → get_or (map f l) i 0 ≡ f (get_or l i 0)
get_d_map f [] i h = absurd (omega arith)
get_d_map f (x ∷ l) zero h = refl
get_d_map f (x ∷ l) (suc i) h = get_d_map f l i (omega arith)

-- ---- a row of the sheet
module _ (g : Range) (w : ℕ) where
  shows : (hs : List ℕ) (i : ℕ) → i < w → i < length hs → get_or (row_samples g w (present hs)) i 0 ≡ height_index g (get_or hs i 0)
  shows hs i inside there =
      get_or-take w (map (height_index g) hs ++ replicate w missing) i 0 inside
      ∙ get_or-append (map (height_index g) hs) (replicate w missing) 0 i (omega (arith, length-map hs (height_index g)))
      ∙ get_d_map (height_index g) hs i there

  lacks : (hs : List ℕ) (i : ℕ) → i < w → length hs ≤ i → get_or (row_samples g w (present hs)) i 0 ≡ missing
  lacks hs i inside past =
      let many = length-map hs (height_index g) in
      let place : i ≡ length (map (height_index g) hs) + (i - length hs) = omega (arith, many) in
      get_or-take w (map (height_index g) hs ++ replicate w missing) i 0 inside
      ∙ ap (λ (n : ℕ). get_or (map (height_index g) hs ++ replicate w missing) n 0) place
      ∙ get_or-append-add (map (height_index g) hs) (replicate w missing) (i - length hs) 0
      ∙ get_or-replicate w (i - length hs) missing 0 (omega arith)

-- ---- the sheet in the picture
module _ (l : Look) (e : Extent) (ys : List StoredRow) (y x : ℕ) (row : y < e.height * l.times) (column : x < e.width * l.times) where
  sample : (hs : Heights) → heights_of (y / l.times) ys ≡ hs
      → get_or (picture_row l e ys y) x 0 ≡ get_or (row_samples l.grey e.width hs) (x / l.times) 0
  unfolding picture_row
  sample hs is =
      let right : List ℕ = right_row l.beside (beside_times (e.height * l.times)) y in
      let inside : x < length (row_samples l.grey e.width hs) * l.times = rw (length-samples l.grey e.width hs) column in
      rw is (get_or-append (left_row l e hs y) right 0 x (rw (length-left l e hs y) column)
      ∙ rw (left-inside l e hs y row) (get_d-widened l.times (row_samples l.grey e.width hs) x inside))

  within : x / l.times < e.width
  within = wide l.times column
    where
      wide : (k : ℕ) → x < e.width * k → x / k < e.width
      wide zero h = absurd (omega (arith, mul-zero e.width))
      wide (suc k) h = (div-lt_iff_lt-mul {k = suc k} (omega arith)).1 h

  pub height-shown : (hs : List ℕ) → heights_of (y / l.times) ys ≡ present hs → x / l.times < length hs
      → get_or (picture_row l e ys y) x 0 ≡ height_index l.grey (get_or hs (x / l.times) 0)
  height-shown hs is there = sample (present hs) is ∙ shows l.grey e.width hs (x / l.times) within there

  pub lack-shown : (hs : List ℕ) → heights_of (y / l.times) ys ≡ present hs → length hs ≤ x / l.times
      → get_or (picture_row l e ys y) x 0 ≡ missing
  lack-shown hs is past = sample (present hs) is ∙ lacks l.grey e.width hs (x / l.times) within past

  pub absence-shown : heights_of (y / l.times) ys ≡ absent → get_or (picture_row l e ys y) x 0 ≡ missing
  absence-shown is = sample absent is ∙ get_or-replicate e.width (x / l.times) missing 0 within

-- ---- the map in the picture
count-sample : (cs : List ℕ) (j i : ℕ) → length cs ≡ 16384 → j < 128 → i < 128
    → get_or (count_samples cs j) i 0 ≡ count_index (most_of cs) (get_or cs (128 * j + i) 0)
unfolding count_samples
count-sample cs j i many row column =
    let rest : List ℕ = drop (128 * j) cs in
    let whole = length-take-le 128 rest (row-there cs j many row) in
    get_d_map (count_index (most_of cs)) (take 128 rest) i (omega (arith, whole))
    ∙ ap (count_index (most_of cs)) (get_or-take 128 rest i 0 column ∙ get_or-drop (128 * j) cs i 0)

pub count-shown : (l : Look) (e : Extent) (ys : List StoredRow) (cs : List ℕ) (y x : ℕ) → l.beside ≡ counts cs → length cs ≡ 16384
    → let f = beside_times (e.height * l.times) in
    y < 128 * f → x < 128 * f
    → get_or (picture_row l e ys y) (e.width * l.times + (gap + x)) 0 ≡ count_index (most_of cs) (get_or cs (128 * (y / f) + x / f) 0)
unfolding picture_row
count-shown l e ys cs y x is many row column =
    let f : ℕ = beside_times (e.height * l.times) in
    let left : List ℕ = left_row l e (heights_of (y / l.times) ys) y in
    let samples : List ℕ = count_samples cs (y / f) in
    let some : 1 ≤ f = omega arith in
    let j = row-shown y f some row in
    let place : e.width * l.times + (gap + x) ≡ length left + (gap + x) =
    ap (◌+ (gap + x)) (sym (length-left l e (heights_of (y / l.times) ys) y)) in
    let inside : x < length samples * f = rw (length-counts cs (y / f) many j) column in
    ap (λ (n : ℕ). get_or (left ++ right_row l.beside f y) n 0) place
    ∙ get_or-append-add left (right_row l.beside f y) (gap + x) 0
    ∙ rw (is, lt-ltb y (128 * f) row) (get_or-append-add (replicate gap background) (widened f samples) x 0
    ∙ get_d-widened f samples x inside
    ∙ count-sample cs (y / f) (x / f) many j (row-shown x f some column))
