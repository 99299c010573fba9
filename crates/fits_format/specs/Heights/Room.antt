-- How many bytes a row's record has, by the bits of the table's longest item. Assumes nothing.
use Rattle.std.specs.Prelude.{ℕ, ◌+◌, ◌*◌, ◌≤◌, List, ◌++◌}
use Rattle.std.proofs.Common.{le_trans, mul-le-mul}
use native.Mathlib.Omega.{arith}
use Rattle.std.proofs.Math.ListN.{length, length-append}
use Rattle.bitstream.specs.Bits.{halves_of, words_of, words_for, flat}
use Rattle.bitstream.specs.Bits.Laws.{length_cut}
use Rattle.row_format.specs.Table.{max_item_bits}
use Rattle.row_format.specs.Row.{row_bits, row_bytes, pixel_bytes}
use Rattle.row_format.proofs.Theorems.Bounds.{length-row_bits}
use Rattle.sheet_format.specs.Fields.{two_bytes}
use Rattle.sheet_format.specs.Fields.Laws.{length-two_bytes}
use Rattle.sheet_format.specs.Kind.Row.Laws.{given-pixels}
use Rattle.sheet_format.specs.Kind.PackedRow.{packed_body}
use Rattle.sheet_format.specs.Writing.Laws.{length-record_bytes}
use Rattle.fits_format.specs.Heights.{heights_record}

module _ (tb : List ℕ) (bits : ℕ) (most : max_item_bits (words_of tb) ≤ bits) where
  words-most : (ps : List ℕ) → length ps ≤ 4096 → length (row_bytes (words_of tb) ps) ≤ 512 * bits
  words-most ps few =
      let t = words_of tb in
      let each : length (row_bits t ps) ≤ 4096 * bits = le_trans (length-row_bits t ps) (mul-le-mul few most) in
      rw (length_cut 8 (4 * words_for (length (row_bits t ps))) (row_bits t ps)) (omega (arith, each))

  -- "row number (2 bytes), pixel count (2), packed words", after six bytes of length and kind
  pub length-heights_record : (r : ℕ) (hs : List ℕ) → length hs ≤ 4096 → length (heights_record tb r hs) ≤ 10 + 512 * bits
  unfolding heights_record packed_body
  length-heights_record r hs few =
      let x = pixel_bytes hs in
      let size = length_cut 8 (2 * length hs) (flat 16 hs) in
      let given : length (halves_of x) ≤ 4096 = omega (arith, few, size, given-pixels x) in
      let words = row_bytes (words_of tb) (halves_of x) in
      let body = two_bytes r ++ (two_bytes (length (halves_of x)) ++ words) in
      omega (
        arith,
        length-record_bytes 2 body,
        length-append (two_bytes r) (two_bytes (length (halves_of x)) ++ words),
        length-append (two_bytes (length (halves_of x))) words,
        length-two_bytes r,
        length-two_bytes (length (halves_of x)),
        words-most (halves_of x) given,
      )
