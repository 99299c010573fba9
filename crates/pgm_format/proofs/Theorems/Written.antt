-- A picture that is written is bytes, and is read back. Assumes nothing.
use Rattle.std.specs.Prelude.{ℕ, zero, suc, ◌/◌, ◌%◌, ◌≤◌, ◌<◌, ◌≡◌, length, drop, ltb}
use Rattle.std.proofs.Common.{arith, ltb-true, ltb-false}
use mathlib.Core.List.{List, [], ◌∷◌, ◌++◌, append-nil}
use Rattle.std.proofs.Math.Seq.{drop-append_seam}
use Rattle.bitstream.specs.Bits.{Below}
use Rattle.bitstream.specs.Bits.Laws.{below-nil, below-cons, below-head, below-tail, below-append}
use Rattle.row_format.specs.Lists.Laws.{by-test}
use Rattle.text.specs.Text.{ascii, digit, decimal}
use Rattle.text.specs.Text.Laws.{decimal_digit, decimal-more}
use Rattle.pgm_format.specs.Header.{pgm_front, pgm_header}
use Rattle.pgm_format.specs.Header.Back.{header-back}
use Rattle.pgm_format.specs.Samples.{samples_of, lines_bytes, pgm_bytes, lines_in}
use Rattle.pgm_format.specs.Samples.Laws.{AllLong, lines_in-lines_bytes}

-- ---- bytes
digit-byte : (d : ℕ) → d < 10 → Below 256 (digit d ∷ [])
digit-byte d h = below-cons (omega arith) (below-nil (omega arith))

below-decimal : (f n : ℕ) → n ≤ f → Below 256 (decimal n)
below-decimal zero n enough = rw (decimal_digit n (omega arith)) (digit-byte n (omega arith))
below-decimal (suc f) n enough =
    by-test (ltb n 10)
    (λ t. rw (decimal_digit n (ltb-true n 10 t)) (digit-byte n (ltb-true n 10 t)))
    (λ t.
    let front = below-decimal f (n / 10) (omega (arith, ltb-false n 10 t)) in
    rw (decimal-more n (ltb-false n 10 t))
    (below-append (decimal (n / 10)) (digit (n % 10) ∷ []) front (digit-byte (n % 10) (omega arith))))

below-front : (w r : ℕ) → Below 256 (pgm_front w r)
unfolding pgm_front
below-front w r =
    let newline : Below 256 (ascii "\n") = below-cons (omega arith) (below-nil (omega arith)) in
    let first : Below 256 (ascii "P5\n") = below-cons (omega arith) (below-cons (omega arith) newline) in
    let blank : Below 256 (ascii " ") = below-cons (omega arith) (below-nil (omega arith)) in
    let number : Below 256 (ascii "4095\n") =
    below-cons (omega arith) (below-cons (omega arith) (below-cons (omega arith) (below-cons (omega arith) newline))) in
    below-append (ascii "P5\n" ++ decimal w ++ (ascii " " ++ decimal r)) (ascii "\n4095\n")
    (below-append (ascii "P5\n" ++ decimal w) (ascii " " ++ decimal r)
    (below-append (ascii "P5\n") (decimal w) first (below-decimal w w (omega arith)))
    (below-append (ascii " ") (decimal r) blank (below-decimal r r (omega arith))))
    (below-cons (omega arith) number)

below-samples : (hs : List ℕ) → Below 4096 hs → Below 256 (samples_of hs)
unfolding samples_of
below-samples [] low = below-nil (omega arith)
below-samples (h ∷ hs) low =
    let least = below-head low in
    below-cons (omega arith) (below-cons (omega arith) (below-samples hs (below-tail low)))

-- every line's heights are at most 4095
abbrev pub AllLow : List (List ℕ) → Type 0
AllLow [] = Unit {0}
AllLow (l ∷ ls) = Below 4096 l × AllLow ls

below-lines : (ls : List (List ℕ)) → AllLow ls → Below 256 (lines_bytes ls)
unfolding lines_bytes
below-lines [] low = below-nil (omega arith)
below-lines (l ∷ ls) low = below-append (samples_of l) (lines_bytes ls) (below-samples l low.0) (below-lines ls low.1)

pub below-pgm : (w : ℕ) (ls : List (List ℕ)) → AllLow ls → Below 256 (pgm_bytes w ls)
unfolding pgm_bytes
below-pgm w ls low = below-append (pgm_front w (length ls)) (lines_bytes ls) (below-front w (length ls)) (below-lines ls low)

-- ---- read back
module _ (w : ℕ) (ls : List (List ℕ)) (some : 1 ≤ w) (wide : w ≤ 4096) (any-rows : 1 ≤ length ls) (high : length ls ≤ 65536) where
  pub pgm-header : pgm_header (pgm_bytes w ls) ≡ record { number = 0; width = w; rows = length ls; start = length (pgm_front w (length ls)) }
  unfolding pgm_bytes
  pgm-header = header-back w (length ls) some wide any-rows high (lines_bytes ls)

  pub pgm-lines : AllLong w ls
      → let h = pgm_header (pgm_bytes w ls) in
      lines_in h.width h.rows (drop h.start (pgm_bytes w ls)) ≡ ls
  unfolding pgm_bytes
  pgm-lines long =
      rw (header-back w (length ls) some wide any-rows high (lines_bytes ls), drop-append_seam (pgm_front w (length ls)) (lines_bytes ls))
      ((rw (append-nil (lines_bytes ls)) at (lines_in-lines_bytes w ls [] long)))
