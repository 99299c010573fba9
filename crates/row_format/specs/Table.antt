-- Document 01, "A table". A table is a list of 32-bit words: table id, lowLimit, tableSize, raw, bad-pixel and bad-bias
-- string, then the entries. What the document calls a string is a codeword here, a step is a difference, and the raw
-- string is the escape codeword. Every definition is total; accepted tables are those of verdict 0. Assumes nothing.
use Rattle.std.specs.Prelude.{ℕ, ◌+◌, ◌/◌, ◌%◌, ◌^◌, max, ◌≤◌, ◌<◌, ◌≡◌, Bool, false, cond, not, ◌&&◌, ◌||◌, List, [], ◌∷◌, map, length, drop, get_or, ℤ, pos, ◌-ℤ◌, leb, ltb, eqb}
use Rattle.bitstream.specs.Bits.{digits, begins, words_of}
use Rattle.row_format.specs.Lists.{any}
pub mod Laws

-- ---- the header
abbrev pub table_id : List ℕ → ℕ
table_id t = get_or t 0 0

abbrev pub low_limit : List ℕ → ℕ
low_limit t = get_or t 1 0

abbrev pub table_size : List ℕ → ℕ
table_size t = get_or t 2 0

-- ---- codewords (document 01: strings)
-- "A string word holds the string's length in its low 5 bits and the string's bits above, from bit 5 upward. The first bit
-- of a string is the least significant"
unfoldable pub codeword : ℕ → List ℕ
codeword w = digits (w % 32) (w / 32)

-- all of a table's codewords in table order: escape, bad pixel, bad bias, then the entries
unfoldable pub codewords : List ℕ → List (List ℕ)
codewords t = map codeword (drop 3 t)

-- the same by place: 0 escape, 1 bad pixel, 2 bad bias, 3 + i entry i
unfoldable pub codeword_at : List ℕ → ℕ → List ℕ
codeword_at t j = codeword (get_or t (3 + j) 0)

abbrev pub escape_length : List ℕ → ℕ
escape_length t = get_or t 3 0 % 32

-- ---- differences (document 01: steps)
-- a difference is held as its count k from -4093 upward, which stands for the signed number k - 4093
abbrev pub signed_difference : ℕ → ℤ
signed_difference k = pos k -ℤ pos 4093

-- "Entry i stands for the signed step i + lowLimit - 4093"
abbrev pub entry_difference : List ℕ → ℕ → ℕ
entry_difference t i = i + low_limit t

-- the table has this difference: some entry stands for it
abbrev pub has_difference : List ℕ → ℕ → Bool
has_difference t k = leb (low_limit t) k && ltb k (low_limit t + table_size t)

-- ---- which tables are refused, and by which number
-- 1: "tableSize is 1 to 8187, and lowLimit + tableSize is at most 8187, as a true sum that never wraps", and the table is
-- 6 + tableSize words
unfoldable pub wrong_size : List ℕ → Bool
wrong_size t = not (leb 1 (table_size t) && (leb (low_limit t + table_size t) 8187 && eqb (length t) (6 + table_size t)))

-- 2: "Lengths are 1 to 27, the raw string's 1 to 15. No bit is set above the string"
unfoldable pub wrong_word : ℕ → Bool
wrong_word w = not (leb 1 (w % 32) && (leb (w % 32) 27 && ltb (w / 32) (2 ^ (w % 32))))

unfoldable pub wrong_codeword : List ℕ → Bool
wrong_codeword t = ltb 15 (escape_length t) || any wrong_word (drop 3 t)

-- 3: some string "equals or begins another, the three special ones included"
unfoldable pub clash : List (List ℕ) → Bool
clash [] = false
clash (s ∷ ss) = let q : Bool = clash ss in any (λ u. begins s u || begins u s) ss || q

unfoldable pub verdict : List ℕ → ℕ
verdict t = cond (wrong_size t) 1 (cond (wrong_codeword t) 2 (cond (clash (codewords t)) 3 0))

-- of a table's bytes: an incomplete word at the end is refused 1
unfoldable pub table_number : List ℕ → ℕ
table_number b = cond (eqb (length b % 4) 0) (verdict (words_of b)) 1

-- ---- what document 01 asks of a table, in plain words; `table-accepted` says that the tables of verdict 0 are these
-- a codeword's word: "Lengths are 1 to 27 .. No bit is set above the string"
pub record RightWord (w : ℕ) : Type 0 where
  pub least : 1 ≤ w % 32
  pub most : w % 32 ≤ 27
  pub above : w / 32 < 2 ^ (w % 32)

-- "No string equals or begins another": of n strings, by their places
abbrev pub Apart : ℕ → (ℕ → List ℕ) → Type 0
Apart n string = (i j : ℕ) → i < n → j < n → (i ≡ j → ⊥) → begins (string i) (string j) ≡ false

pub record Accepted (t : List ℕ) : Type 0 where
  pub size-least : 1 ≤ table_size t
  pub size-most : table_size t ≤ 8187
  pub sum-most : low_limit t + table_size t ≤ 8187
  pub words : length t ≡ 6 + table_size t
  pub escape-most : escape_length t ≤ 15
  pub word : (j : ℕ) → j < 3 + table_size t → RightWord (get_or t (3 + j) 0)
  pub apart : Apart (3 + table_size t) (codeword_at t)

-- ---- M
unfoldable pub longest : List (List ℕ) → ℕ
longest [] = 0
longest (s ∷ ss) = max (length s) (longest ss)

-- document 01's M: "the greater of the longest string in an accepted table and the raw string's length plus 12"
unfoldable pub max_item_bits : List ℕ → ℕ
max_item_bits t = max (longest (codewords t)) (escape_length t + 12)
