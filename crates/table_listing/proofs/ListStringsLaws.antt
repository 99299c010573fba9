-- The strings of an accepted table, arranged. Assumes nothing.
use Prim.Native.Nat.{ℕ, ◌+◌, ◌-◌, ◌/◌, ◌≤◌}
use native.Mathlib.Omega.{arith}
use mathlib.Core.Path.{◌≡◌, sym, ap, ◌∙◌}
use mathlib.Core.List.{List, map}
use lib.ListN.{length, drop}
use Rattle.bitstream.specs.Bits.{words_of, Below}
use Rattle.row_format.specs.Table.{table_size, codeword_at, table_number}
use Rattle.code_table.specs.Check.Laws.{length-words, whole-table-words}
use Rattle.table_listing.specs.Order.{order, places}
use Rattle.table_listing.specs.Line.{line}
use Rattle.table_listing.specs.Listing.{tree_order, next_number, block_of, block}
use Rattle.table_listing.specs.Listing.Laws.{accepted-whole, tree_order-below}
use Rattle.table_listing.specs.Listing.Answers.{block-accepted}

module _ (b : List ℕ) (ok : table_number b ≡ 0) where
  pub strings-most : length b / 4 ≤ 8193
  strings-most = omega (arith, whole-table-words b (accepted-whole b ok))

  pub strings-least : 6 ≤ length b / 4
  strings-least = omega (arith, whole-table-words b (accepted-whole b ok))

  -- the first n places, arranged
  module _ (n : ℕ) (l : List ℕ) (count : n ≡ length b / 4 - 3) (arranged : l ≡ order (codeword_at (words_of b)) 27 0 (places n)) where
    arranged-tree : l ≡ tree_order (words_of b)
    arranged-tree =
        let words : n ≡ length (words_of b) - 3 = omega (arith, length-words b) in
        arranged ∙ ap (λ (k : ℕ). order (codeword_at (words_of b)) 27 0 (places k)) words

    pub arranged-below : Below (3 + table_size (words_of b)) l
    arranged-below = rw arranged-tree (tree_order-below b ok)

    pub arranged-block : (first : ℕ) (m : List ℕ) →
        let ls = drop first (map (line (words_of b)) l) in
        block_of (next_number ls (length m)) ls m ≡ block b first m
    arranged-block first m =
        ap (λ (ps : List ℕ). let ls = drop first (map (line (words_of b)) ps) in block_of (next_number ls (length m)) ls m) arranged-tree
        ∙ sym (block-accepted b first m ok)
