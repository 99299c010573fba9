-- Samples put one after another: what a turn of each loop does. Laws only. Assumes nothing.
use Rattle.std.specs.Prelude.{ℕ, ◌+◌, ◌*◌, ◌≤◌, ◌<◌, ◌≡◌, List, [], ◌∷◌, ◌++◌, map, length, take, drop, get_or, set, replicate}
use Rattle.std.proofs.Common.{add-zero, mul-le-mul_right, arith, ap, ◌∙◌, append-nil, length-set, length-take-le}
use Rattle.std.proofs.lemmas.List.{length-map}
use Rattle.std.proofs.Math.Seq.{drop-length}
use Rattle.text.specs.Put.{Put}
use Rattle.text.specs.Put.Laws.{put-none, put_one, put-more, put-put, put-start}
use Rattle.sheet_picture.specs.Colour.{colour, colour_of, colours_from, palette}
use Rattle.sheet_picture.specs.Colour.Laws.{length-colours, colours-more}
use Rattle.sheet_picture.specs.Grid.{widened}
use Rattle.sheet_picture.specs.Grid.Laws.{widened-last, length-widened, replicate_more, map-take-more}

-- ---- at place at + i
pub none-put : (m : List ℕ) (at : ℕ) → Put m at [] (at + 0) m
none-put m at = rw (add-zero at) (put-none m at)

one-put : {m m' : List ℕ} {at : ℕ} {b : List ℕ} (i x : ℕ) → at + i < length m → length m' ≡ length m → Put m at b (at + i) m'
    → Put m at (b ++ (x ∷ [])) (at + (i + 1)) (set m' (at + i) x)
one-put {m} {m'} {at} {b} i x h e p =
    let place : at + (i + 1) ≡ at + i + 1 = omega arith in
    rw place (put-more x h e p)

pub run-put : {m m' : List ℕ} {at : ℕ} (i x : ℕ) → at + i < length m → length m' ≡ length m → Put m at (replicate i x) (at + i) m'
    → Put m at (replicate (i + 1) x) (at + (i + 1)) (set m' (at + i) x)
run-put i x h e p = rw (replicate_more i x) (one-put i x h e p)

-- the three bytes of a colour
pub colour-put : (m : List ℕ) (at r g b : ℕ) → at + 3 ≤ length m
    → Put m at (colour r g b) (at + 3) (set (set (set m at r) (at + 1) g) (at + 2) b)
colour-put m at r g b h =
    let one : length (set m at r) ≡ length m = length-set m at r in
    let two : length (set (set m at r) (at + 1) g) ≡ length m = length-set (set m at r) (at + 1) g ∙ one in
    one-put 2 b (omega arith) two (one-put 1 g (omega arith) one (put_one m at r (omega arith)))

-- ---- the colours of i indices
pub colours-place : (i : ℕ) {m m' : List ℕ} {r : ℕ} → Put m 0 (colours_from i 0) r m' → r ≡ 3 * i
colours-place i p = omega (arith, p.next, length-colours i 0)

pub colours-put : (i : ℕ) {m m' m'' : List ℕ} {r r' : ℕ} → Put m 0 (colours_from i 0) r m' → Put m' r (colour_of i) r' m''
    → Put m 0 (colours_from (i + 1) 0) r' m''
colours-put i p q = rw (colours-more i) (put-put (omega arith) p q)

pub colours-all : {m m' : List ℕ} {r : ℕ} → length m ≡ 768 → Put m 0 palette r m' → m' ≡ palette
colours-all {m} {m'} {r} e p =
    let none : drop (length palette) m ≡ [] = rw (length-colours 256 0, ← e) (drop-length m) in
    (put-start p).1 ∙ rw none (append-nil palette)

-- ---- f of the numbers of l
module _ (f : ℕ → ℕ) (l : List ℕ) {i x : ℕ} (inside : i < length l) (is : x ≡ f (get_or l i 0)) where
  pub each-put : {m m' : List ℕ} {at : ℕ} → at + i < length m → length m' ≡ length m → Put m at (map f (take i l)) (at + i) m'
      → Put m at (map f (take (i + 1) l)) (at + (i + 1)) (set m' (at + i) x)
  each-put h e p = rw (map-take-more f l i inside, ← is) (one-put i x h e p)

  -- each k times
  pub wide-put : (k : ℕ) {m m' m'' : List ℕ} {at r r' : ℕ} → at ≤ length m → Put m at (widened k (map f (take i l))) r m'
      → Put m' r (replicate k x) r' m'' → Put m at (widened k (map f (take (i + 1) l))) r' m''
  wide-put k h p q =
      rw (map-take-more f l i inside, ← is, widened-last k (map f (take i l)) x) (put-put h p q)

-- where the next is put, and that there is room for it
pub wide-place : (f : ℕ → ℕ) (l : List ℕ) (i k : ℕ) {m m' : List ℕ} {at r : ℕ} → i ≤ length l → Put m at (widened k (map f (take i l))) r m'
    → r ≡ at + i * k
wide-place f l i k {m} {m'} {at} {r} h p =
    p.next ∙ ap (at +◌) (length-widened k (map f (take i l)) ∙ ap (◌* k) (length-map (take i l) f ∙ length-take-le i l h))

pub wide_room : (f : ℕ → ℕ) (l : List ℕ) (i k n : ℕ) {m m' : List ℕ} {at r : ℕ} → i < n → n ≤ length l → at + n * k ≤ length m
    → Put m at (widened k (map f (take i l))) r m' → r + k ≤ length m
wide_room f l i k n {m} {m'} {at} {r} more few room p =
    let next : (i + 1) * k ≤ n * k = mul-le-mul_right k (omega arith) in
    let step : (i + 1) * k ≡ i * k + k = omega arith in
    omega (arith, wide-place f l i k (omega arith) p)
