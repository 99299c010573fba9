-- The laws of a string's word in a table. Assumes nothing.
use Prim.Native.Nat.{ℕ, ◌+◌, ◌/◌, ◌%◌, ◌^◌, ◌≤◌, ◌<◌}
use native.Mathlib.Omega.{arith}
use mathlib.Core.Path.{◌≡◌, sym, ap, ◌∙◌}
use mathlib.Core.List.{List}
use lib.ListN.{length, get_or, get_or-eq_default}
use Rattle.bitstream.specs.Bits.{words_of}
use Rattle.row_format.specs.Table.{codeword, codeword_at}
use Rattle.row_format.specs.Table.Laws.{length-codeword_at}
use Rattle.prefix_free.specs.Branch.Laws.{get_d-codeword}
use Rattle.code_table.specs.Check.Laws.{length-words}
use Rattle.table_listing.specs.Order.{way}
use Rattle.table_listing.specs.Order.Laws.{way-ended, way_on}

-- past the table's end there is no word
pub word_none : (b : List ℕ) (i : ℕ) → length b / 4 ≤ i → 0 ≡ get_or (words_of b) i 0
word_none b i h = sym (get_or-eq_default (words_of b) 0 (omega (arith, length-words b)))

-- where a string goes, by its word
module _ (t : List ℕ) (p d w : ℕ) (is : w ≡ get_or t (3 + p) 0) where
  pub way-word-ended : w % 32 ≤ d → 0 ≡ way d (codeword_at t p)
  way-word-ended h = sym (way-ended d (codeword_at t p) (omega (arith, length-codeword_at t p, is)))

  pub way-word-on : d < w % 32 → 1 + w / 32 / 2 ^ d % 2 ≡ way d (codeword_at t p)
  unfolding codeword_at
  way-word-on h =
      let inside : d < get_or t (3 + p) 0 % 32 = omega (arith, is) in
      let bit : get_or (codeword (get_or t (3 + p) 0)) d 0 ≡ w / 32 / 2 ^ d % 2 = get_d-codeword (get_or t (3 + p) 0) d inside ∙ rw is in
      sym (way_on d (codeword (get_or t (3 + p) 0)) (omega (arith, length-codeword_at t p)) ∙ ap (1 +◌) bit)
