-- The laws of a map's text, as it is put count by count and row by row. Assumes nothing.
use Rattle.std.specs.Prelude.{ℕ, zero, suc, ◌+◌, ◌*◌, ◌/◌, ◌≤◌, ◌<◌, ◌≡◌, List, [], ◌∷◌, ◌++◌, length, take, drop, get_or}
use Rattle.std.proofs.Math.Numerals.{add-one}
use Rattle.std.proofs.Common.{arith, sym, ap, ◌∙◌, append_assoc, append-nil, length-drop, drop-drop, drop-cons, get_or-drop}
use Rattle.std.proofs.Math.Path.{refl}
use Rattle.bitstream.specs.Bits.{bits_of, halves_of}
use Rattle.bitstream.specs.Bits.Laws.{below-cut, below-flat}
use Rattle.text.specs.Text.{ascii, decimal, field}
use Rattle.text.specs.Text.Laws.{length-decimal}
use Rattle.text.specs.Lines.{newline, refused_line}
use Rattle.map_text.specs.MapText.{spaced, row_text, rows_text, map_text, done_bits_line, listing_text}

-- a count of two bytes has at most 5 digits
pub count-short : (s : List ℕ) (i : ℕ) → length (decimal (get_or (halves_of s) i 0)) ≤ 5
count-short s i =
    let small = (below-cut 16 (length s / 2) (bits_of s) (below-flat 8 s)).below i in
    length-decimal 4 (get_or (halves_of s) i 0) (omega (arith, small))

-- ---- a row
spaced-suc : (l : List ℕ) (i : ℕ) → i < length l → spaced (take (suc i) l) ≡ spaced (take i l) ++ field (ascii " ") (get_or l i 0)
unfolding spaced
spaced-suc [] i h = absurd (omega arith)
spaced-suc (x ∷ l) zero h = append-nil (field (ascii " ") x)
spaced-suc (x ∷ l) (suc i) h =
    ap (field (ascii " ") x ++◌) (spaced-suc l i (omega arith))
    ∙ sym (append_assoc (field (ascii " ") x) (spaced (take i l)) (field (ascii " ") (get_or l i 0)))

module _ (xs : List ℕ) (first : ℕ) where
  pub spaced-none : spaced (take 0 (drop first xs)) ≡ []
  unfolding spaced
  spaced-none = refl

  pub spaced-more : (i : ℕ) → first + i < length xs
      → spaced (take (i + 1) (drop first xs)) ≡ spaced (take i (drop first xs)) ++ field (ascii " ") (get_or xs (first + i) 0)
  spaced-more i h =
      let rest : i < length (drop first xs) = omega (arith, length-drop first xs) in
      rw (add-one i, ← get_or-drop first xs i 0) (spaced-suc (drop first xs) i rest)

  pub row-all : first < length xs
      → row_text (take 128 (drop first xs)) ≡ decimal (get_or xs first 0) ++ spaced (take 127 (drop (first + 1) xs)) ++ newline
  unfolding row_text
  row-all h = rw (drop-cons xs first 0 h, add-one first)

-- ---- rows
rows_text-suc : (n : ℕ) (xs : List ℕ) → rows_text (suc n) xs ≡ rows_text n xs ++ row_text (take 128 (drop (128 * n) xs))
unfolding rows_text
rows_text-suc zero xs = append-nil (row_text (take 128 xs))
rows_text-suc (suc n) xs =
    let place : 128 + 128 * n ≡ 128 * suc n = omega arith in
    ap (row_text (take 128 xs) ++◌) (rows_text-suc n (drop 128 xs) ∙ rw (drop-drop (128 * n) 128 xs, place))
    ∙ sym (append_assoc (row_text (take 128 xs)) (rows_text n (drop 128 xs)) (row_text (take 128 (drop (128 * suc n) xs))))

pub rows_text-more : (n : ℕ) (xs : List ℕ) → rows_text (n + 1) xs ≡ rows_text n xs ++ row_text (take 128 (drop (128 * n) xs))
rows_text-more n xs = rw (add-one n) (rows_text-suc n xs)

-- ---- what reading comes to
pub listing-refused : (number bits : ℕ) (xs : List ℕ) → (number ≡ 0 → ⊥) → listing_text number bits xs ≡ refused_line number
unfolding listing_text
listing-refused zero bits xs some = absurd (some refl)
listing-refused (suc e) bits xs some = refl

pub listing-done : (number bits : ℕ) (xs : List ℕ) → number ≡ 0 → listing_text number bits xs ≡ map_text xs ++ done_bits_line bits
unfolding listing_text
listing-done zero bits xs none = refl
listing-done (suc e) bits xs none = absurd (omega arith)
