-- That the picture of rows under the numbers from 0 on, all of one length, is the picture of those lines. Assumes nothing.
use Rattle.std.specs.Prelude.{ℕ, suc, ◌+◌, ◌≤◌, ◌<◌, ◌≡◌, List, [], ◌∷◌, length}
use Rattle.std.proofs.Common.{zero-add, arith, ◌∙◌, ne_eqb}
use Rattle.sheet_format.specs.Sheet.{StoredRow}
use Rattle.sheet_format.specs.Size.{rows_width, rows_height}
use Rattle.fits_format.specs.Heights.{numbered}
use Rattle.fits_format.specs.Heights.Stored.{numbered-stand}
use Rattle.pgm_format.specs.Samples.{pgm_bytes}
use Rattle.pgm_format.specs.Samples.Laws.{AllLong}
use Rattle.pgm_format.specs.Shape.{no_fault, sheet_fault, sheet_lines, Padding, no_padding, pad_with, pgm_picture}
use Rattle.pgm_format.specs.Shape.{sheet_pgm}
use Rattle.pgm_format.specs.Shape.Laws.{fault_from-none, padded_lines-same}

-- ---- how large
width-most : (w r : ℕ) (ls : List (List ℕ)) → AllLong w ls → rows_width (numbered r ls) ≤ w
unfolding numbered rows_width
width-most w r [] long = omega arith
width-most w r (l ∷ ls) long = omega (arith, long.0, width-most w (suc r) ls long.1)

width_is : (w r : ℕ) (ls : List (List ℕ)) → AllLong w ls → 0 < length ls → rows_width (numbered r ls) ≡ w
unfolding numbered rows_width
width_is w r [] long some = absurd (omega arith)
width_is w r (l ∷ ls) long some = omega (arith, long.0, width-most w (suc r) ls long.1)

count-is : (r : ℕ) (ls : List (List ℕ)) → 0 < length ls → rows_height (numbered r ls) ≡ r + length ls
unfolding numbered rows_height
count-is r [] some = absurd (omega arith)
count-is r (l ∷ []) some = omega arith
count-is r (l ∷ k ∷ ls) some = omega (arith, count-is (suc r) (k ∷ ls) (omega arith))

-- ---- the picture
fault-none : (w : ℕ) (ls : List (List ℕ)) → AllLong w ls → 0 < length ls → sheet_fault (numbered 0 ls) ≡ no_fault
unfolding sheet_fault
fault-none w [] long some = absurd (omega arith)
fault-none w (l ∷ ls) long some =
    let stand = numbered-stand 0 (l ∷ ls) in
    rw (stand 0 (omega arith), long.0, count-is 0 (l ∷ ls) some ∙ zero-add (suc (length ls)))
    (fault_from-none w (numbered 0 (l ∷ ls)) 0 (l ∷ ls) long stand)

module _ (w : ℕ) (least : 1 ≤ w) (ls : List (List ℕ)) (long : AllLong w ls) (some : 0 < length ls) where
  abbrev ys : List StoredRow
  ys = numbered 0 ls

  count : rows_height ys ≡ length ls
  count = count-is 0 ls some ∙ zero-add (length ls)

  width : rows_width ys ≡ w
  width = width_is w 0 ls long some

  has-heights : rows_width ys ≡ 0 → ⊥
  has-heights e = omega (arith, e, least, width)

  lines_same : (h : ℕ) → sheet_lines h ys ≡ ls
  lines_same h = rw (width, count) (padded_lines-same w ys h 0 ls long (numbered-stand 0 ls))

  no-fault : sheet_fault ys ≡ no_fault
  no-fault = fault-none w ls long some

  pub numbered-picture : (p : Padding) → sheet_pgm p ys ≡ pgm_picture (pgm_bytes w ls)
  unfolding sheet_pgm
  numbered-picture no_padding = rw (ne_eqb (rows_width ys) 0 has-heights, no-fault, lines_same 0, width)
  numbered-picture (pad_with h) = rw (ne_eqb (rows_width ys) 0 has-heights, lines_same h, width)
