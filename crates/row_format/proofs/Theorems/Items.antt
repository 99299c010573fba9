-- Items that may stand in a row: packing gives such, and each is read back from its bits. Assumes nothing.
use Prim.Native.Nat.{ℕ, suc, ◌+◌, ◌-◌, ◌≤◌, ◌<◌}
use Rattle.std.proofs.Math.Nat.{sub-add_cancel}
use Rattle.std.proofs.Common.{mod-eq_of_lt, sym, ap, ◌∙◌, append_assoc, drop_at, take_at, leb-true, le-leb, ltb-true, lt-ltb, le-ltb}
use native.Mathlib.Omega.{arith}
use Rattle.std.specs.Prelude.{◌≡◌, Bool, true, false, List, [], ◌∷◌, ◌++◌, length, take, drop, leb, ltb}
use Rattle.std.proofs.Math.Path.{refl}
use Rattle.std.proofs.Math.ListN.{length-append}
use Rattle.bitstream.specs.Bits.{digits, num_of}
use Rattle.bitstream.specs.Bits.Laws.{length_digits, num_of-digits}
use Rattle.row_format.specs.Lists.{any}
use Rattle.row_format.specs.Lists.Laws.{and-true-left, and-true-right}
use Rattle.row_format.specs.BitLaws.{begins-append}
use Rattle.row_format.specs.Table.{low_limit, table_size, has_difference, codeword_at, Accepted}
use Rattle.row_format.specs.Row.{Item, difference, bad_pixel, bad_bias, escape, State, fresh, past, previous, difference_to, by_difference, item_by, item_for, pixel_of, after, item_bits, pixels_of}
use Rattle.row_format.specs.Reading.{item, raw_height, inside, matched, read_item, Fits, FitAll}
use Rattle.row_format.proofs.Theorems.Search.{find-only}
use Rattle.row_format.specs.Row.Laws.{item_by-cases, by_difference-has}

-- ---- items that fit
-- the entry that stands for a difference
pub record Entry (t : List ℕ) (k : ℕ) : Type 0 where
  pub low : low_limit t ≤ k
  pub high : k - low_limit t < table_size t

pub entry : (t : List ℕ) (k : ℕ) → has_difference t k ≡ true → Entry t k
entry t k e =
    let above = leb (low_limit t) k in
    let below = ltb k (low_limit t + table_size t) in
    let low = leb-true (low_limit t) k (and-true-left above below e) in
    let high = ltb-true k (low_limit t + table_size t) (and-true-right above below e) in
    record { low = low; high = omega arith }

-- the heights that a difference may lead to
pub record Reached (s : State) (k : ℕ) : Type 0 where
  pub least : 4093 ≤ previous s + k
  pub most : previous s + k ≤ 8186

pub reached : (s : State) (k : ℕ) → inside s k ≡ true → Reached s k
reached s k e =
    let to = previous s + k in
    record {
      least = leb-true 4093 to (and-true-left (leb 4093 to) (leb to 8186) e);
      most = leb-true to 8186 (and-true-right (leb 4093 to) (leb to 8186) e);
    }

-- after an item that fits, what is previous is a height again
pub after-height : (t : List ℕ) (s : State) (i : Item) → previous s ≤ 4093 → Fits t s i → previous (after s i) ≤ 4093
after-height t s (difference k) h fits = omega (arith, reached s k fits.1)
after-height t s bad_pixel h fits = h
after-height t s bad_bias h fits = h
after-height t fresh (escape p) h fits = omega arith
after-height t (past q) (escape p) h fits = h

-- ---- read back, whatever bits follow
pub raw_height-own : (n h : ℕ) (c r : List ℕ) → length c ≡ n → h < 4094
    → raw_height n (c ++ (digits 12 h ++ r)) ≡ item (escape h) (n + 12)
unfolding raw_height
raw_height-own n h c r l e =
    let all = c ++ (digits 12 h ++ r) in
    let size : length (c ++ (digits 12 h ++ r)) ≡ n + (12 + length r) =
    simp (length-append, length_digits) (ap (◌+ (12 + length r)) l) in
    let field : take 12 (drop n all) ≡ digits 12 h =
    rw (drop_at c (digits 12 h ++ r) n l) (take_at (digits 12 h) r 12 (length_digits 12 h)) in
    let height : num_of (digits 12 h) ≡ h = num_of-digits 12 h ∙ mod-eq_of_lt (omega arith) in
    rw (le-ltb (length all) (n + 12) (omega arith), field, height, lt-ltb h 4094 e)

module _ (t : List ℕ) (ok : Accepted t) (s : State) where
  -- the string at place j is found where it stands in front
  read_item-at : (j : ℕ) (r : List ℕ) → j < 3 + table_size t
      → read_item t s (codeword_at t j ++ r) ≡ matched t s (codeword_at t j ++ r) j (length (codeword_at t j))
  unfolding read_item
  read_item-at j r h = rw (find-only t ok j (codeword_at t j ++ r) h (begins-append (codeword_at t j) r))

  pub read_item-own : (i : Item) (r : List ℕ) → Fits t s i → read_item t s (item_bits t i ++ r) ≡ item i (length (item_bits t i))
  unfolding matched
  read_item-own (difference k) r fits =
      let at = entry t k fits.0 in
      let three : 3 + (k - low_limit t) ≡ suc (suc (suc (k - low_limit t))) = omega arith in
      read_item-at (3 + (k - low_limit t)) r (omega arith) ∙ rw (three, sub-add_cancel at.low, fits.1)
  read_item-own bad_pixel r fits = read_item-at 1 r (omega arith)
  read_item-own bad_bias r fits = read_item-at 2 r (omega arith)
  read_item-own (escape h) r fits =
      let c = codeword_at t 0 in
      rw (append_assoc c (digits 12 h) r, length-append c (digits 12 h), length_digits 12 h)
      (read_item-at 0 (digits 12 h ++ r) (omega arith) ∙ raw_height-own (length c) h c r refl fits)

-- ---- the items that packing gives fit, and stand for their pixels
pub record Right (t : List ℕ) (s : State) (p : ℕ) (i : Item) : Type 0 where
  pub fits : Fits t s i
  pub pixel : pixel_of s i ≡ p

pub inside-difference_to : (s : State) (p : ℕ) → previous s ≤ 4093 → p ≤ 4093 → inside s (difference_to s p) ≡ true
inside-difference_to s p height low =
    let to = previous s + difference_to s p in
    rw (le-leb 4093 to (omega arith), le-leb to 8186 (omega arith))

-- by any rule that writes no difference which the table lacks
pub item_by-right : (t : List ℕ) (b : Bool) (s : State) (p : ℕ) → previous s ≤ 4093 → p ≤ 4095
    → (b ≡ true → has_difference t (difference_to s p) ≡ true) → Right t s p (item_by b s p)
item_by-right t b s p height most has = item_by-cases (Right t s p) b s p
    (λ e. record { fits = tt; pixel = sym e })
    (λ e. record { fits = tt; pixel = sym e })
    (λ d e by. record { fits = (has by, inside-difference_to s p height (omega arith)); pixel = omega arith })
    (λ d e raw. record { fits = omega arith; pixel = refl })

pub item_for-right : (t : List ℕ) (s : State) (p : ℕ) → previous s ≤ 4093 → p ≤ 4095 → Right t s p (item_for t s p)
unfolding item_for
item_for-right t s p height most = item_by-right t (by_difference t s p) s p height most (by_difference-has t s p)

-- ---- the pixels of items that fit are pixels
pixel_of-most : (t : List ℕ) (s : State) (i : Item) → Fits t s i → pixel_of s i ≤ 4095
pixel_of-most t s (difference k) fits = omega (arith, reached s k fits.1)
pixel_of-most t s bad_pixel fits = omega arith
pixel_of-most t s bad_bias fits = omega arith
pixel_of-most t s (escape h) fits = omega arith

pub any-pixels_of : (t : List ℕ) (s : State) (is : List Item) → FitAll t s is → any (ltb 4095) (pixels_of s is) ≡ false
unfolding pixels_of any
any-pixels_of t s [] fits = refl
any-pixels_of t s (i ∷ is) fits =
    rw (le-ltb 4095 (pixel_of s i) (pixel_of-most t s i fits.0)) (any-pixels_of t (after s i) is fits.1)
