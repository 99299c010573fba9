-- The laws of listings. Assumes nothing.
use Rattle.std.specs.Prelude.{ℕ, zero, suc, ◌+◌, ◌-◌, ◌/◌, ◌%◌, ◌≡◌, refl, List, [], ◌∷◌, length, get_or}
use Rattle.std.proofs.Common.{arith, append-nil}
use Rattle.bitstream.specs.Bits.{words_of, Below}
use Rattle.bitstream.specs.Bits.Laws.{below-digits}
use Rattle.row_format.specs.Table.{table_size, codeword_at, table_number, codeword}
use Rattle.row_format.specs.Table.Laws.{table_number-whole, table_number-verdict, right-size}
use Rattle.code_table.specs.Check.{WholeTable}
use Rattle.code_table.specs.Check.Laws.{length-words, whole-table-words}
use Rattle.text.specs.Lines.{refused_line}
use Rattle.table_listing.specs.Order.Once.{order_below}
use Rattle.table_listing.specs.Listing.{tree_order, string_lines, lines_for, lines, joined}

-- a string's bits are 0 and 1
pub codeword_at-bits : (t : List ℕ) (p : ℕ) → Below 2 (codeword_at t p)
unfolding codeword_at codeword
codeword_at-bits t p = below-digits (get_or t (3 + p) 0 % 32) (get_or t (3 + p) 0 / 32)

module _ (b : List ℕ) (ok : table_number b ≡ 0) where
  pub accepted-whole : WholeTable b
  accepted-whole = record { whole = table_number-whole b ok; size = right-size (words_of b) (table_number-verdict b ok) }

  -- as many strings as there are words after the first three
  pub strings-count : length b / 4 - 3 ≡ 3 + table_size (words_of b)
  strings-count = omega (arith, whole-table-words b accepted-whole)

  pub tree_order-below : Below (3 + table_size (words_of b)) (tree_order (words_of b))
  tree_order-below =
      let count : length (words_of b) - 3 ≡ 3 + table_size (words_of b) = omega (arith, length-words b, strings-count) in
      rw count (order_below (codeword_at (words_of b)) (codeword_at-bits (words_of b)) 27 (3 + table_size (words_of b)) (omega arith))

  pub lines-accepted : lines b ≡ string_lines (words_of b)
  unfolding lines lines_for
  lines-accepted = rw ok

pub lines-refused : (b : List ℕ) → (table_number b ≡ 0 → ⊥) → lines b ≡ refused_line (table_number b) ∷ []
unfolding lines lines_for
lines-refused b some = go (table_number b) some
  where
    go : (e : ℕ) → (e ≡ 0 → ⊥) → lines_for e (words_of b) ≡ refused_line e ∷ []
    go zero h = absurd (h refl)
    go (suc e) h = refl

-- one text alone
pub joined-one : (l : List ℕ) → joined (l ∷ []) ≡ l
unfolding joined
joined-one l = append-nil l
