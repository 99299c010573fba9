-- Document 01, "A row": reading items from bits by the same rules, what a faulty item is refused with, the bits that a
-- reading uses, and what reading a row comes to. Assumes nothing.
use Rattle.std.specs.Prelude.{ℕ, zero, suc, ◌+◌, ◌-◌, ◌*◌, ◌≤◌, ◌<◌, ◌≡◌, Bool, true, false, cond, not, ◌&&◌, ◌||◌, List, [], ◌∷◌, ◌++◌, ◌⊎◌, length, take, drop, leb, ltb, eqb}
use Rattle.bitstream.specs.Bits.{num_of, begins, words_of, stream, words_for}
use Rattle.answer.specs.Outcome.{◌or_else◌, refuse_if, unless, Lent, room_number}
use Rattle.row_format.specs.Lists.{any, least}
use Rattle.row_format.specs.Table.{codewords, codeword_at, entry_difference, table_number, has_difference}
use Rattle.row_format.specs.Row.{Item, difference, bad_pixel, bad_bias, escape, State, fresh, previous, difference_to, pixel_of, pixels_of, after, after_all, bits, by_difference, too_many}

-- the place of the first string that begins the rest; in an accepted table it is the only one
pub data Match : Type 0 where
  none : Match
  found : ℕ → Match

abbrev pub later : Match → Match
later none = none
later (found j) = found (suc j)

unfoldable pub find : List (List ℕ) → List ℕ → Match
find [] r = none
find (s ∷ ss) r = let q : Match = find ss r in cond (begins s r) (found 0) (later q)

-- reading one item: the item, or the number of the refusal; either with the bits it uses
pub data Reading : Type 0 where
  item : Item → ℕ → Reading
  fault : ℕ → ℕ → Reading

-- no string begins the rest r. 6: "the rest is empty or a proper beginning of some string", and uses all bits left.
-- 7: it is no beginning of one, and uses "the shortest beginning of the rest with which no string begins"
unfoldable pub unmatched : List (List ℕ) → List ℕ → Reading
unmatched ss r =
    cond (any (begins r) ss) (fault 6 (length r))
    (fault 7 (least (λ k. not (any (begins (take k r)) ss)) (length r)))

-- after the raw string of n bits. 6: "too few bits for the raw height". 9: "a raw height is 4094 or 4095"
unfoldable pub raw_height : ℕ → List ℕ → Reading
raw_height n r =
    cond (ltb (length r) (n + 12)) (fault 6 (length r))
    (cond (ltb (num_of (take 12 (drop n r))) 4094) (item (escape (num_of (take 12 (drop n r)))) (n + 12))
    (fault 9 (n + 12)))

-- the difference k leads to a height: one of 0 to 4093
abbrev pub inside : State → ℕ → Bool
inside s k = leb 4093 (previous s + k) && leb (previous s + k) 8186

-- an item that may stand where s says what is previous: a difference that the table has and that leads to a height, a bad
-- pixel, a bad bias, or a raw height of 0 to 4093
abbrev pub Fits : List ℕ → State → Item → Type 0
Fits t s (difference k) = (has_difference t k ≡ true) × (inside s k ≡ true)
Fits t s bad_pixel = Unit {0}
Fits t s bad_bias = Unit {0}
Fits t s (escape h) = h < 4094

-- items each of which may stand where it stands
abbrev pub FitAll : List ℕ → State → List Item → Type 0
FitAll t s [] = Unit {0}
FitAll t s (i ∷ is) = Fits t s i × FitAll t (after s i) is

-- the item whose string, of n bits, stands at place j of the table. 8: "a step leads outside 0 to 4093"
unfoldable pub matched : List ℕ → State → List ℕ → ℕ → ℕ → Reading
matched t s r zero n = raw_height n r
matched t s r (suc zero) n = item bad_pixel n
matched t s r (suc (suc zero)) n = item bad_bias n
matched t s r (suc (suc (suc i))) n = cond (inside s (entry_difference t i)) (item (difference (entry_difference t i)) n) (fault 8 n)

abbrev pub taken : List ℕ → State → List ℕ → Match → Reading
taken t s r none = unmatched (codewords t) r
taken t s r (found j) = matched t s r j (length (codeword_at t j))

unfoldable pub read_item : List ℕ → State → List ℕ → Reading
read_item t s r = taken t s r (find (codewords t) r)

-- the bits that it uses
abbrev pub bits_of_reading : Reading → ℕ
bits_of_reading (item i u) = u
bits_of_reading (fault e u) = u

-- ---- a run of items: the items and the bits used; or the number, the bit place where it stopped and the bits used
pub data Run : Type 0 where
  done : List Item → ℕ → Run
  stop : ℕ → ℕ → ℕ → Run

-- its number, 0 where it is done
abbrev pub run_number : Run → ℕ
run_number (done is u) = 0
run_number (stop e at u) = e

-- the bit place where it stopped, 0 where it is done
abbrev pub run_place : Run → ℕ
run_place (done is u) = 0
run_place (stop e at u) = at

-- "A reading uses the bits of the items it reads. At a faulty item it also uses" that item's
abbrev pub bits_of_run : Run → ℕ
bits_of_run (done is u) = u
bits_of_run (stop e at u) = u

-- the pixels that it gives
abbrev pub pixels_of_run : Run → List ℕ
pixels_of_run (done is u) = pixels_of fresh is
pixels_of_run (stop e at u) = []

-- items that use u bits, and what follows them
abbrev pub prepend_all : List Item → ℕ → Run → Run
prepend_all is u (done js v) = done (is ++ js) (u + v)
prepend_all is u (stop e at v) = stop e (u + at) (u + v)

abbrev pub prepend : Item → ℕ → Run → Run
prepend i u x = prepend_all (i ∷ []) u x

abbrev pub follow : Reading → (Item → ℕ → Run) → Run
follow (item i u) f = prepend i u (f i u)
follow (fault e u) f = stop e 0 u

-- n items, by any way of reading one
unfoldable pub read_by : (State → List ℕ → Reading) → State → ℕ → List ℕ → Run
read_by f s zero r = done [] 0
read_by f s (suc n) r = follow (f s r) (λ i u. read_by f (after s i) n (drop u r))

unfoldable pub read_items : List ℕ → ℕ → List ℕ → Run
read_items t n r = read_by (read_item t) fresh n r

-- 10: "an unused bit of the last used word is set", where a reading of the stream r has used u bits
unfoldable pub stray : ℕ → List ℕ → Bool
stray u r = any (eqb 1) (take (32 * words_for u - u) (drop u r))

-- judged after the items: it uses no bit more, and its place is the first unused bit
abbrev pub without_stray : List ℕ → Run → Run
without_stray r (done is u) = unless (refuse_if (stray u r) 10) (λ e. stop e u u) (done is u)
without_stray r (stop e at u) = stop e at u

-- ---- what reading n pixels of the words wb under the table tb comes to, with so much lent for the pixels. "For unpacking: 1,
-- 2, 3, 11, 5, then 6 to 9 at the earliest faulty item, then 10"; "Refused before its first item it uses none"
unfoldable pub first_number : Lent → List ℕ → ℕ → ℕ
first_number m tb n = table_number tb or_else too_many n or_else room_number m (2 * n)

unfoldable pub row_reading : Lent → List ℕ → ℕ → List ℕ → Run
row_reading m tb n wb =
    unless (first_number m tb n) (λ e. stop e 0 0) (without_stray (stream wb) (read_items (words_of tb) n (stream wb)))

-- what is asked before the first item
pub record Readable (m : Lent) (tb : List ℕ) (n : ℕ) : Type 0 where
  pub table : table_number tb ≡ 0
  pub few : n ≤ 4096
  pub room : room_number m (2 * n) ≡ 0

-- a reading that is done: what was asked before its first item, its items and bits, and no stray bit
pub record Reads (m : Lent) (tb : List ℕ) (n : ℕ) (wb : List ℕ) (is : List Item) (u : ℕ) : Type 0 where
  pub given : Readable m tb n
  pub read : read_items (words_of tb) n (stream wb) ≡ done is u
  pub clean : stray u (stream wb) ≡ false

-- one that is refused by e at a faulty item: the items before it are read, its place is the sum of their lengths, and reading
-- the item at that place, in the state after them, is a fault by e
pub record StoppedAt (m : Lent) (tb : List ℕ) (n : ℕ) (wb : List ℕ) (e at : ℕ) : Type 0 where
  pub given : Readable m tb n
  pub items : List Item
  pub fewer : length items < n
  pub read : read_items (words_of tb) (length items) (stream wb) ≡ done items at
  pub sum : at ≡ length (bits (words_of tb) items)
  pub used : ℕ
  pub faulty : read_item (words_of tb) (after_all fresh items) (drop at (stream wb)) ≡ fault e used

-- one that is refused 10: its n items are read, its place is the bits that they take, and an unused bit is set
pub record StrayAt (m : Lent) (tb : List ℕ) (n : ℕ) (wb : List ℕ) (at : ℕ) : Type 0 where
  pub given : Readable m tb n
  pub items : List Item
  pub read : read_items (words_of tb) n (stream wb) ≡ done items at
  pub sum : at ≡ length (bits (words_of tb) items)
  pub set : stray at (stream wb) ≡ true

-- ---- departures: an item departs from what packing would write for its pixel where packing writes that pixel by its
-- difference and the item is raw (document 01: "needless"), or the other way round
abbrev pub departs : List ℕ → State → Item → Bool
departs t s (difference k) = not (by_difference t s (pixel_of s (difference k)))
departs t s bad_pixel = false
departs t s bad_bias = false
departs t s (escape h) = by_difference t s h

-- some item of a row departs
unfoldable pub any_departs : List ℕ → State → List Item → Bool
any_departs t s [] = false
any_departs t s (i ∷ is) = departs t s i || any_departs t (after s i) is

-- the same in words, by what the table has and whether a height came before: a raw item that is not the first height and whose
-- step the table has, or a first height by its step. Document 02, ticket 5: "a raw first height no longer counts as needless, and
-- a table-coded first height now does count as a departure"
abbrev pub Departure : List ℕ → State → Item → Type 0
Departure t s i =
    ((h : ℕ) × (i ≡ escape h) × (s ≡ fresh → ⊥) × (has_difference t (difference_to s h) ≡ true))
    ⊎ ((k : ℕ) × (i ≡ difference k) × (s ≡ fresh))
