-- What the listing of a table is, how its blocks make it up, and what the call that gives them answers. Assumes nothing.
use Rattle.std.specs.Prelude.{ℕ, ◌+◌, ◌-◌, ◌≤◌, ◌<◌, ◌≡◌, refl, true, ◌↔◌, length, take, drop, get_or, eqb}
use Rattle.std.proofs.Common.{arith, ap, ◌∙◌}
use mathlib.Core.List.{List, [], ◌∷◌, ◌++◌, Permᴰ}
use Rattle.answer.specs.Outcome.{Kept, Within}
use Rattle.bitstream.specs.Bits.{words_of}
use Rattle.row_format.specs.Lists.{any}
use Rattle.row_format.specs.Table.{codeword_at, table_size, table_number}
use Rattle.row_format.specs.Table.Laws.{accepted, codeword_at-most, table_number-verdict}
use Rattle.code_table.specs.Check.Laws.{length-words}
use Rattle.text.specs.Lines.{refused_line}
use Rattle.table_listing.specs.Order.{places, occurs, before}
use Rattle.table_listing.specs.Order.Laws.{order-perm}
use Rattle.table_listing.specs.Order.Once.{length-order, order-once, get_d-places, length-places}
use Rattle.table_listing.specs.Order.Sorted.{order-before}
use Rattle.table_listing.specs.Listing.{tree_order, string_lines, lines, joined, table_listing, no_lines, block}
use Rattle.table_listing.specs.Listing.Laws.{strings-count, codeword_at-bits, lines-accepted, lines-refused}
use Rattle.table_listing.specs.Listing.Blocks
use Rattle.table_listing.specs.Listing.Answers
use Rattle.table_listing.specs.Listing.Long.{lines_cut}

-- ---- the strings of a table, by their places
-- for any table, accepted or not, each place is listed and none twice
pub permutation : (t : List ℕ) → Permᴰ (tree_order t) (places (length t - 3))
permutation t = order-perm (codeword_at t) (codeword_at-bits t) 27 0 (places (length t - 3))

module _ (b : List ℕ) (ok : table_number b ≡ 0) where
  words_count : length (words_of b) - 3 ≡ 3 + table_size (words_of b)
  words_count = omega (arith, length-words b, strings-count b ok)

  pub as_many : length (tree_order (words_of b)) ≡ 3 + table_size (words_of b)
  as_many = length-order (codeword_at (words_of b)) (codeword_at-bits (words_of b)) 27 (length (words_of b) - 3) ∙ words_count

  pub each-once : (p : ℕ) → p < 3 + table_size (words_of b) → occurs p (tree_order (words_of b)) ≡ 1
  each-once p h =
      let t = words_of b in
      order-once (codeword_at t) (codeword_at-bits t) 27 (length t - 3) p (omega (arith, words_count))

  -- "the 0-branch before the 1-branch", and 27 bits are deep enough
  pub in-tree-order : (i j : ℕ) → i < j → j < 3 + table_size (words_of b) →
      let string : ℕ → List ℕ = λ k. codeword_at (words_of b) (get_or (tree_order (words_of b)) k 0) in
      before (string i) (string j) ≡ true
  in-tree-order i j below h =
      let t = words_of b in
      let n = length t - 3 in
      order-before (codeword_at t) (codeword_at-bits t) 27 (places n)
      (λ k g.
      let inside : k < n = omega (arith, length-places n) in
      rw (get_d-places n k inside) (codeword_at-most t (accepted t (table_number-verdict b ok)) k (omega (arith, words_count))))
      i j below (omega (arith, as_many))

-- ---- what is printed
-- of an accepted table the lines of its strings, of a refused one the line `refused N`
pub listing-accepted : (b : List ℕ) → table_number b ≡ 0 → lines b ≡ string_lines (words_of b)
listing-accepted = lines-accepted

pub listing-refused : (b : List ℕ) → (table_number b ≡ 0 → ⊥) → lines b ≡ refused_line (table_number b) ∷ []
listing-refused = lines-refused

-- whoever reads a table need not keep more than 32773 bytes of it
pub listing-cut : (n : ℕ) (b : List ℕ) → 32772 < n → table_listing (take n b) ≡ table_listing b
listing-cut n b h = ap joined (lines_cut n b h)

-- ---- the call that gives the lines, a block at a time
-- a block is some lines; the listing from its first line on is these and then the listing from the next line on
pub block-text : (b : List ℕ) (first : ℕ) (m : List ℕ) →
    let r = block b first m in take r.answer.bytes r.memory ≡ joined (take r.answer.lines (drop first (lines b)))
block-text = Answers.block-text

pub block-then : (b : List ℕ) (first n : ℕ)
    → joined (drop first (lines b)) ≡ joined (take n (drop first (lines b))) ++ joined (drop (first + n) (lines b))
block-then = Blocks.block-then

-- 5 is "lent room smaller than this call's output": exactly where an accepted table has a line there and it does not fit
pub block-five : (b : List ℕ) (first : ℕ) (m : List ℕ)
    → ((block b first m).answer.number ≡ 5)
    ↔ ((table_number b ≡ 0) × (first < length (lines b)) × (length m < length (get_or (lines b) first [])))
block-five = Answers.block-five

-- done with no lines: exactly at the end of an accepted table's listing
pub block-ended : (b : List ℕ) (first : ℕ) (m : List ℕ) → table_number b ≡ 0
    → (((block b first m).answer.number ≡ 0) × ((block b first m).answer.lines ≡ 0)) ↔ (length (lines b) ≤ first)
block-ended = Answers.accepted-ended

-- with room for 128 bytes the number is the table's own, and an accepted table gives a line where it has one
pub block_room : (b : List ℕ) (first : ℕ) (m : List ℕ) → 128 ≤ length m → (block b first m).answer.number ≡ table_number b
block_room = Answers.block_room

pub block-some : (b : List ℕ) (first : ℕ) (m : List ℕ) → table_number b ≡ 0 → 128 ≤ length m → first < length (lines b)
    → 1 ≤ (block b first m).answer.lines
block-some b first m ok room h = (Answers.accepted-some b first m ok room h).1

-- ---- demand 1
-- "each call .. answers with a number from document 01"
pub block-numbers : (b : List ℕ) (first : ℕ) (m : List ℕ)
    → any (eqb (block b first m).answer.number) (0 ∷ 1 ∷ 2 ∷ 3 ∷ 5 ∷ []) ≡ true
unfolding any
block-numbers b first m = Answers.block_in b first m (λ e. any (eqb e) (0 ∷ 1 ∷ 2 ∷ 3 ∷ 5 ∷ []) ≡ true) refl refl refl refl refl

-- "A refused call gives its number, zero for every count and value, and leaves the lent memory as found"
pub block-refused-keeps : (b : List ℕ) (first : ℕ) (m : List ℕ) → ((block b first m).answer.number ≡ 0 → ⊥)
    → Kept (no_lines (block b first m).answer.number) m (block b first m)
block-refused-keeps = Answers.block-kept

-- "A done call writes only the pixels, words or bytes that it counts"
pub block-writes-lines : (b : List ℕ) (first : ℕ) (m : List ℕ) → Within (block b first m).answer.bytes m (block b first m)
block-writes-lines = Answers.block_within
