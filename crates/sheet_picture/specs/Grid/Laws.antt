-- The laws of a picture's rows, as they are put sample by sample. Assumes nothing.
use Rattle.std.specs.Prelude.{ℕ, zero, suc, ◌+◌, ◌-◌, ◌*◌, ◌/◌, ◌≤◌, ◌<◌, max, min, ◌≡◌, refl, Bool, true, false, cond, List, [], ◌∷◌, ◌++◌, map, length, take, drop, get_or, replicate, ltb}
use Rattle.std.proofs.Common.{add-mul, div-lt_iff_lt-mul, zero-mul, add-one, arith, sym, ap, ◌∙◌, append_assoc, append-nil, length-append, length-take, length-drop, drop-cons, length-take-le, ltb-true, lt-ltb, le-ltb}
use Rattle.std.proofs.Math.Nat.{sub-zero}
use Rattle.std.proofs.lemmas.List.{length-replicate, length-map, replicate-append-replicate}
use Rattle.std.proofs.Math.Seq.{drop-length}
use Rattle.bitstream.specs.Bits.{bits_of, halves_of, Below}
use Rattle.bitstream.specs.Bits.Laws.{below-head, below-tail, below-cut, below-flat}
use Rattle.row_pixels.specs.Laws.{length-halves}
use Rattle.sheet_format.specs.Sheet.{Heights, absent, present}
use Rattle.sheet_picture.specs.Colour.{Range, missing, background, height_index, count_index}
use Rattle.sheet_picture.specs.Extent.{Extent}
use Rattle.sheet_picture.specs.Grid.{Look, widened, row_samples, most_of, count_samples, gap, left_row, beside_row}

-- ---- each sample so many times
pub widened-append : (k : ℕ) (xs ys : List ℕ) → widened k (xs ++ ys) ≡ widened k xs ++ widened k ys
unfolding widened
widened-append k [] ys = refl
widened-append k (x ∷ xs) ys =
    ap (replicate k x ++◌) (widened-append k xs ys) ∙ sym (append_assoc (replicate k x) (widened k xs) (widened k ys))

pub widened-last : (k : ℕ) (xs : List ℕ) (x : ℕ) → widened k (xs ++ (x ∷ [])) ≡ widened k xs ++ replicate k x
unfolding widened
widened-last k xs x = widened-append k xs (x ∷ []) ∙ ap (widened k xs ++◌) (append-nil (replicate k x))

pub widened_once : (xs : List ℕ) → widened 1 xs ≡ xs
unfolding widened
widened_once [] = refl
widened_once (x ∷ xs) = ap (x ∷◌) (widened_once xs)

pub widened_same : (k n x : ℕ) → widened k (replicate n x) ≡ replicate (n * k) x
unfolding widened
widened_same k zero x = ap (λ (m : ℕ). replicate m x) (sym (zero-mul k))
widened_same k (suc n) x =
    let e : k + n * k ≡ suc n * k = omega arith in
    ap (replicate k x ++◌) (widened_same k n x) ∙ replicate-append-replicate k (n * k) x ∙ ap (λ (m : ℕ). replicate m x) e

pub length-widened : (k : ℕ) (xs : List ℕ) → length (widened k xs) ≡ length xs * k
unfolding widened
length-widened k [] = sym (zero-mul k)
length-widened k (x ∷ xs) =
    length-append (replicate k x) (widened k xs) ∙ rw (length-replicate k x, length-widened k xs) (omega arith)

length-cond : (t : Bool) {n : ℕ} (xs ys : List ℕ) → (t ≡ true → length xs ≡ n) → length ys ≡ n → length (cond t xs ys) ≡ n
length-cond true xs ys p q = p refl
length-cond false xs ys p q = q

-- ---- one sample more
pub replicate_more : (n x : ℕ) → replicate (n + 1) x ≡ replicate n x ++ (x ∷ [])
replicate_more n x = sym (replicate-append-replicate n 1 x)

pub map-take-more : (f : ℕ → ℕ) (l : List ℕ) (i : ℕ) → i < length l → map f (take (i + 1) l) ≡ map f (take i l) ++ (f (get_or l i 0) ∷ [])
map-take-more f l i h = rw (add-one i) (more l i h)
  where
    more : (l : List ℕ) (i : ℕ) → i < length l → map f (take (suc i) l) ≡ map f (take i l) ++ (f (get_or l i 0) ∷ [])
    more [] i h = absurd (omega arith)
    more (x ∷ l) zero h = refl
    more (x ∷ l) (suc i) h = ap (f x ∷◌) (more l i (omega arith))

-- ---- a row of the sheet: the heights that the picture is wide enough for, and what the row lacks
take_same : (k n x : ℕ) → k ≤ n → take k (replicate n x) ≡ replicate k x
take_same zero n x h = refl
take_same (suc k) zero x h = absurd (omega arith)
take_same (suc k) (suc n) x h = ap (x ∷◌) (take_same k n x (omega arith))

-- a list filled up with x, cut at w
filled : (f : ℕ → ℕ) (hs : List ℕ) (w n m x : ℕ) → n ≡ min (length hs) w → w ≤ m
    → take w (map f hs ++ replicate m x) ≡ map f (take n hs) ++ replicate (w - n) x
filled f [] w n m x e h =
    let none : n ≡ 0 = omega arith in
    take_same w m x h ∙ rw (none, sub-zero w)
filled f (y ∷ hs) zero n m x e h = let none : n ≡ 0 = omega arith in rw none
filled f (y ∷ hs) (suc w) zero m x e h = absurd (omega arith)
filled f (y ∷ hs) (suc w) (suc n) m x e h =
    let left : w - n ≡ suc w - suc n = omega arith in
    ap (f y ∷◌) (filled f hs w n m x (omega arith) (omega arith)) ∙ ap (λ (k : ℕ). f y ∷ map f (take n hs) ++ replicate k x) left

pub row-samples : (g : Range) (w n : ℕ) (hs : List ℕ) → n ≡ min (length hs) w
    → row_samples g w (present hs) ≡ map (height_index g) (take n hs) ++ replicate (w - n) missing
row-samples g w n hs e = filled (height_index g) hs w n w missing e (omega arith)

pub wide-samples : (g : Range) (k w n : ℕ) (hs : List ℕ) → n ≡ min (length hs) w
    → widened k (row_samples g w (present hs)) ≡ widened k (map (height_index g) (take n hs)) ++ replicate ((w - n) * k) missing
wide-samples g k w n hs e =
    ap (widened k) (row-samples g w n hs e)
    ∙ widened-append k (map (height_index g) (take n hs)) (replicate (w - n) missing)
    ∙ ap (widened k (map (height_index g) (take n hs)) ++◌) (widened_same k (w - n) missing)

pub length-samples : (g : Range) (w : ℕ) (hs : Heights) → length (row_samples g w hs) ≡ w
length-samples g w absent = length-replicate w missing
length-samples g w (present hs) =
    let filled-up = length-append (map (height_index g) hs) (replicate w missing) in
    length-take w (map (height_index g) hs ++ replicate w missing) ∙ rw (filled-up, length-replicate w missing) (omega arith)

-- what is put first and what is put then are the whole width
pub parts-wide : (n w k : ℕ) → n ≤ w → n * k + (w - n) * k ≡ w * k
parts-wide n w k h =
    let whole : n + (w - n) ≡ w = omega arith in
    sym (add-mul n (w - n) k) ∙ ap (◌* k) whole

-- ---- what is left
module _ (l : Look) (e : Extent) (hs : Heights) (y : ℕ) where
  pub left-inside : y < e.height * l.times → left_row l e hs y ≡ widened l.times (row_samples l.grey e.width hs)
  left-inside h = rw (lt-ltb y (e.height * l.times) h)

  pub left-past : e.height * l.times ≤ y → left_row l e hs y ≡ replicate (e.width * l.times) background
  left-past h = rw (le-ltb y (e.height * l.times) h)

  pub length-left : length (left_row l e hs y) ≡ e.width * l.times
  length-left =
      length-cond (ltb y (e.height * l.times)) _ _
      (λ inside. length-widened l.times (row_samples l.grey e.width hs) ∙ ap (◌* l.times) (length-samples l.grey e.width hs))
      (length-replicate (e.width * l.times) background)

-- ---- the largest count
pub most-some : (cs : List ℕ) → 1 ≤ most_of cs
unfolding most_of
most-some [] = omega arith
most-some (c ∷ cs) = omega (arith, most-some cs)

pub most-at : (cs : List ℕ) (i : ℕ) → get_or cs i 0 ≤ most_of cs
unfolding most_of
most-at [] i = omega arith
most-at (c ∷ cs) zero = omega arith
most-at (c ∷ cs) (suc i) = omega (arith, most-at cs i)

pub most-below : (k : ℕ) (cs : List ℕ) → 1 < k → Below k cs → most_of cs < k
unfolding most_of
most-below k [] some b = some
most-below k (c ∷ cs) some b = omega (arith, below-head b, most-below k cs some (below-tail b))

-- before count i and after it
pub most-more : (cs : List ℕ) (i : ℕ) → i < length cs → most_of (drop i cs) ≡ max (get_or cs i 0) (most_of (drop (i + 1) cs))
unfolding most_of
most-more cs i h = rw (drop-cons cs i 0 h, add-one i)

pub most-all : (cs : List ℕ) (i : ℕ) → i ≤ length cs → length cs ≤ i → most_of (drop i cs) ≡ 1
unfolding most_of
most-all cs i h g = let e : i ≡ length cs = omega arith in rw (e, drop-length cs)

-- ---- the counts of a map in bytes
pub below-halves : (b : List ℕ) → Below 65536 (halves_of b)
below-halves b = below-cut 16 (length b / 2) (bits_of b) (below-flat 8 b)

pub map_whole : (b : List ℕ) → length b ≡ 32768 → length (halves_of b) ≡ 16384
map_whole b e = omega (arith, length-halves b)

-- a whole row of counts from row j on
pub row-there : (cs : List ℕ) (j : ℕ) → length cs ≡ 16384 → j < 128 → 128 ≤ length (drop (128 * j) cs)
row-there cs j e h = omega (arith, length-drop (128 * j) cs)

pub length-counts : (cs : List ℕ) (j : ℕ) → length cs ≡ 16384 → j < 128 → length (count_samples cs j) ≡ 128
unfolding count_samples
length-counts cs j e h =
    let rest : List ℕ = drop (128 * j) cs in
    length-map (take 128 rest) (count_index (most_of cs)) ∙ length-take-le 128 rest (row-there cs j e h)

-- row y of the picture shows a row of the map
pub row-shown : (y f : ℕ) → 1 ≤ f → y < 128 * f → y / f < 128
row-shown y f some h = (div-lt_iff_lt-mul {k = f} some).1 h

-- ---- what is right
pub length-beside : (f y : ℕ) (xs : List ℕ) → (y < 128 * f → length xs ≡ 128) → length (beside_row f y xs) ≡ gap + 128 * f
length-beside f y xs whole =
    length-append (replicate gap background) (cond (ltb y (128 * f)) (widened f xs) (replicate (128 * f) background))
    ∙ ap (gap +◌)
    (length-cond (ltb y (128 * f)) _ _
    (λ inside. length-widened f xs ∙ ap (◌* f) (whole (ltb-true y (128 * f) inside)))
    (length-replicate (128 * f) background))
