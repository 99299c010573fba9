-- What the row kinds share: their place, the fields of a body that was written, and the pixels given. Assumes nothing.
use Rattle.std.specs.Prelude.{ℕ, ◌+◌, ◌*◌, ◌/◌, ◌≤◌, ◌<◌, ◌≡◌, refl, List, ◌++◌, length, take, ltb, eqb}
use native.Mathlib.Omega.{arith}
use Rattle.std.proofs.Common.{sym, ap, ◌∙◌, length-append, drop-drop, length-take-le, eq-eqb}
use Rattle.bitstream.specs.Bits.{bits_of, halves_of, Below}
use Rattle.bitstream.specs.Bits.Laws.{below-flat, below-cut, length_cut}
use Rattle.answer.specs.Outcome.{refuse_if}
use Rattle.answer.specs.Outcome.Laws.{less_number-zero, or_else-zero-left, or_else-zero-right, refuse_if-in, or_else-in}
use Rattle.row_format.proofs.Theorems.Words.{bytes_of-halves_of, halves_of-bytes_of}
use Rattle.sheet_format.specs.Context.{Heading, Context}
use Rattle.sheet_format.specs.Fields.{two_bytes}
use Rattle.sheet_format.specs.Fields.Laws.{number_of-two_bytes, length-two_bytes, take-two_bytes, drop-two_bytes}
use Rattle.sheet_format.specs.Kind.Row.{row_heading, pixel_count, row_content, no_table, row_place, given_pixels}

-- ---- the place
pub no_table-zero : (c : Context) → no_table c ≡ 0 → length c.tables ≡ 0 → ⊥
no_table-zero c e none = absurd (omega (arith, rw (eq-eqb (length c.tables) 0 none) at e))

pub no_table-in : (P : ℕ → Type 0) → P 0 → P 16 → (c : Context) → P (no_table c)
no_table-in P p0 p16 c = refuse_if-in P (eqb (length c.tables) 0) 16 p0 p16

module _ (c : Context) (h : Heading) where
  pub row_place-table : row_place c h ≡ 0 → length c.tables ≡ 0 → ⊥
  unfolding row_place
  row_place-table e = no_table-zero c (or_else-zero-left (no_table c) _ e)

  abbrev not_risen : ℕ
  not_risen = refuse_if (ltb h.row c.least) 16

  pub row_place-risen : row_place c h ≡ 0 → c.least ≤ h.row
  unfolding row_place
  row_place-risen e = less_number-zero h.row c.least 15 (or_else-zero-left not_risen _ (or_else-zero-right (no_table c) _ e))

  pub row_place-small : row_place c h ≡ 0 → h.row < 65536
  unfolding row_place
  row_place-small e =
      let most = less_number-zero 65535 h.row 15 (or_else-zero-right not_risen _ (or_else-zero-right (no_table c) _ e)) in
      omega arith

  pub row_place-in : (P : ℕ → Type 0) → P 0 → P 16 → P (row_place c h)
  unfolding row_place
  row_place-in P p0 p16 =
      or_else-in P (no_table c) _ (no_table-in P p0 p16 c)
      (or_else-in P not_risen _ (refuse_if-in P (ltb h.row c.least) 16 p0 p16)
      (refuse_if-in P (ltb 65535 h.row) 16 p0 p16))

-- ---- the fields of a body that was written
pub record RowParts (b : List ℕ) (h : Heading) (n : ℕ) (w : List ℕ) : Type 0 where
  pub heading : row_heading b ≡ h
  pub count : pixel_count b ≡ n
  pub content : row_content b ≡ w
  pub size : length b ≡ 4 + length w

pub row-parts : (h : Heading) (n : ℕ) (w : List ℕ) → h.row < 65536 → n < 65536
    → RowParts (two_bytes h.row ++ (two_bytes n ++ w)) h n w
row-parts h n w small few =
    let row = h.row in
    record {
      heading = rw (take-two_bytes row (two_bytes n ++ w), number_of-two_bytes row small);
      count = rw (drop-two_bytes row (two_bytes n ++ w), take-two_bytes n w) (number_of-two_bytes n few);
      content =
          sym (drop-drop 2 2 (two_bytes row ++ (two_bytes n ++ w)))
          ∙ rw (drop-two_bytes row (two_bytes n ++ w)) (drop-two_bytes n w);
      size =
          length-append (two_bytes row) (two_bytes n ++ w)
          ∙ rw (length-append (two_bytes n) w, length-two_bytes row, length-two_bytes n) (omega arith);
    }

-- ---- the pixels given
pub given-pixels : (x : List ℕ) → 2 * length (given_pixels x) ≤ length x
given-pixels x = omega (arith, length_cut 16 (length x / 2) (bits_of x))

pub pixels-size : (x : List ℕ) → length (take (2 * length (given_pixels x)) x) ≡ 2 * length (given_pixels x)
pixels-size x = length-take-le (2 * length (given_pixels x)) x (given-pixels x)

pub halves-same : (x : List ℕ) → Below 256 x → halves_of (take (2 * length (given_pixels x)) x) ≡ given_pixels x
halves-same x bytes =
    ap halves_of (sym (bytes_of-halves_of x bytes))
    ∙ halves_of-bytes_of (length (given_pixels x)) (given_pixels x) refl
    (below-cut 16 (length x / 2) (bits_of x) (below-flat 8 x))
