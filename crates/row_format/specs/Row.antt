-- Document 01, "A row", with the packing rule of document 02's ticket 5: which item each pixel gets, and the bits of a row.
-- Assumes nothing.
use Rattle.std.specs.Prelude.{ℕ, ◌+◌, ◌-◌, ◌*◌, Bool, false, cond, List, [], ◌∷◌, ◌++◌, length, ltb, eqb}
use Rattle.bitstream.specs.Bits.{digits, flat, bytes_of, words_for}
use Rattle.answer.specs.Outcome.{refuse_if}
use Rattle.row_format.specs.Lists.{any}
use Rattle.row_format.specs.Table.{low_limit, has_difference, codeword_at}
pub mod Laws

-- "at most 4096 a row". 11: "more than 4096 pixels or numbers"
abbrev pub too_many : ℕ → ℕ
too_many n = refuse_if (ltb 4096 n) 11

-- 4: "a pixel above 4095"
abbrev pub too_high : List ℕ → ℕ
too_high ps = refuse_if (any (ltb 4095) ps) 4

-- "An item is thus one of four": a difference (document 01: a step, held as its count from -4093), bad pixel, bad bias, or
-- an escape (document 01: raw) with its height
pub data Item : Type 0 where
  difference : ℕ → Item
  bad_pixel : Item
  bad_bias : Item
  escape : ℕ → Item

-- whether a pixel of this row has become previous, and which
pub data State : Type 0 where
  fresh : State
  past : ℕ → State

-- "previous being 0 at the row's start"
abbrev pub previous : State → ℕ
previous fresh = 0
previous (past p) = p

-- pixel minus previous, counted from -4093
abbrev pub difference_to : State → ℕ → ℕ
difference_to s p = p + 4093 - previous s

-- a height is written by its difference, and not raw. Document 02, ticket 5: "the first pixel that is neither 4094 nor 4095 is
-- raw and becomes previous", so never where no pixel has become previous yet; after it, "If the table has the step"
unfoldable pub by_difference : List ℕ → State → ℕ → Bool
by_difference t fresh p = false
by_difference t (past q) p = has_difference t (difference_to (past q) p)

-- the item of a pixel, a height by its difference where b says so
abbrev pub item_by : Bool → State → ℕ → Item
item_by b s p =
    cond (eqb p 4095) bad_pixel
    (cond (eqb p 4094) bad_bias
    (cond b (difference (difference_to s p))
    (escape p)))

-- "For each pixel in order one item is written"
unfoldable pub item_for : List ℕ → State → ℕ → Item
item_for t s p = item_by (by_difference t s p) s p

-- the pixel that an item stands for
abbrev pub pixel_of : State → Item → ℕ
pixel_of s (difference k) = previous s + k - 4093
pixel_of s bad_pixel = 4095
pixel_of s bad_bias = 4094
pixel_of s (escape h) = h

-- what becomes previous: a height by its difference always, a raw one "only if no pixel of this row has yet become previous"
abbrev pub after : State → Item → State
after s (difference k) = past (pixel_of s (difference k))
after s bad_pixel = s
after s bad_bias = s
after fresh (escape h) = past h
after (past p) (escape h) = past p

-- the state after some items
unfoldable pub after_all : State → List Item → State
after_all s [] = s
after_all s (i ∷ is) = after_all (after s i) is

-- the bits of an item: its string, and after the raw string "the pixel in 12 bits, least significant first"
abbrev pub item_bits : List ℕ → Item → List ℕ
item_bits t (difference k) = codeword_at t (3 + (k - low_limit t))
item_bits t bad_pixel = codeword_at t 1
item_bits t bad_bias = codeword_at t 2
item_bits t (escape h) = codeword_at t 0 ++ digits 12 h

-- the items of a row from a state on
unfoldable pub items_for : List ℕ → State → List ℕ → List Item
items_for t s [] = []
items_for t s (p ∷ ps) = item_for t s p ∷ items_for t (after s (item_for t s p)) ps

-- the pixels that items stand for, from a state on
unfoldable pub pixels_of : State → List Item → List ℕ
pixels_of s [] = []
pixels_of s (i ∷ is) = pixel_of s i ∷ pixels_of (after s i) is

-- "Items follow each other without gaps"
unfoldable pub bits : List ℕ → List Item → List ℕ
bits t [] = []
bits t (i ∷ is) = item_bits t i ++ bits t is

-- the bits of a row; "A row takes the sum of the lengths of the items that the packing rules give for it": their length
unfoldable pub row_bits : List ℕ → List ℕ → List ℕ
row_bits t ps = bits t (items_for t fresh ps)

-- bits in words, as bytes: from bit 0 of word 0 on. "Unused bits of the last word are 0"
abbrev pub in_words : List ℕ → List ℕ
in_words b = bytes_of (4 * words_for (length b)) b

-- a row's words
abbrev pub row_bytes : List ℕ → List ℕ → List ℕ
row_bytes t ps = in_words (row_bits t ps)

-- "2-byte pixels as little-endian bytes"
abbrev pub pixel_bytes : List ℕ → List ℕ
pixel_bytes ps = bytes_of (2 * length ps) (flat 16 ps)
