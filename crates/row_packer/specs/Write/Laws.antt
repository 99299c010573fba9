-- The laws of the bits of a row: no more than of the longest row of as many pixels. Assumes nothing.
use Rattle.std.specs.Prelude.{ℕ, ◌*◌, ◌/◌, ◌≤◌, ◌≡◌, false, List, length, ltb}
use Rattle.std.proofs.Common.{mul-le-mul_left, arith, sym, le-ltb}
use Rattle.bitstream.specs.Bits.{halves_of, words_for}
use Rattle.row_format.specs.Table.{max_item_bits, Accepted}
use Rattle.row_format.specs.Table.Laws.{max_item_bits-most}
use Rattle.row_format.specs.Row.{row_bits}
use Rattle.row_format.proofs.Theorems.Bounds.{length-row_bits}
use Rattle.row_pixels.specs.Laws.{length-halves}

module _ {t : List ℕ} (accepted : Accepted t) (pb : List ℕ) {most : ℕ} (is : most ≡ max_item_bits t) (few : length pb / 2 ≤ 4096) where
  pub longest-most : length pb / 2 * most ≤ 110592
  longest-most = rw is (omega (arith, mul-le-mul_left (length pb / 2) (max_item_bits-most t accepted)))

  row_bits-longest : length (row_bits t (halves_of pb)) ≤ length pb / 2 * most
  row_bits-longest = rw is (rw (length-halves pb) at (length-row_bits t (halves_of pb)))

  pub row_bits-most : length (row_bits t (halves_of pb)) ≤ 110592
  row_bits-most = omega (arith, row_bits-longest, longest-most)

  pub longest-fits : {lent : ℕ} → words_for (length pb / 2 * most) ≤ lent → false ≡ ltb lent (words_for (length (row_bits t (halves_of pb))))
  longest-fits {lent} h = sym (le-ltb lent (words_for (length (row_bits t (halves_of pb)))) (omega (arith, row_bits-longest)))
