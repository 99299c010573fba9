-- The text of a map, read byte by byte: counts, rows, the whole. Assumes nothing.
use Prim.Native.Nat.{ℕ, zero, suc, ◌+◌, ◌*◌, ◌/◌, ◌%◌, ◌≤◌, ◌<◌}
use native.Mathlib.Omega.{arith}
use Rattle.std.specs.Prelude.{◌≡◌, false, length, take, drop, ltb}
use Rattle.std.proofs.Math.Path.{refl, ap}
use Rattle.std.proofs.Common.{sym, ◌∙◌, take-add}
use mathlib.Core.List.{List, [], ◌∷◌, ◌++◌, append_assoc, append-nil}
use Rattle.std.proofs.Math.Seq.{take_all}
use borrow.Author.Tests.{ltb-true, ltb-false, ne_eqb}
use Rattle.bitstream.specs.Bits.{Below}
use Rattle.bitstream.specs.Bits.Laws.{below-head, below-tail, below-take, below-drop}
use Rattle.row_format.specs.Lists.Laws.{by-test}
use Rattle.text.specs.Text.{ascii, digit, decimal, field}
use Rattle.text.specs.Text.Laws.{decimal_digit, decimal-more}
use Rattle.text.specs.Lines.{newline}
use Rattle.text.specs.Number.{is_digit}
use Rattle.text.specs.Number.Laws.{digit-is, with_digit-digit}
use Rattle.map_text.specs.declared.scan.Scan.{Scan}
use Rattle.map_text.specs.declared.scan.Scan.TheVariants.{Line, Gap, Count, Ended}
use Rattle.map_text.specs.MapText.{spaced, row_text, rows_text, map_text, listing_text}
use Rattle.map_text.specs.Scan.{is_gap, is_space, with_byte, with_first, with_letter, stepped, scan_after}
use Rattle.map_text.specs.Scan.{last_counts, counted_by, counts_from, is_text, counts, text_counts}
use Rattle.map_text.specs.Scan.Laws.{scan-append, counts-append}

-- ---- digits
digit-no-space : (d : ℕ) → is_space (digit d) ≡ false
unfolding is_space is_gap
digit-no-space d =
    rw (
      ne_eqb (digit d) 10 (λ e. omega arith),
      ne_eqb (digit d) 32 (λ e. omega arith),
      ne_eqb (digit d) 9 (λ e. omega arith),
      ne_eqb (digit d) 13 (λ e. omega arith),
    )

digit-counts : (scan : Scan) (d : ℕ) → counts_from scan (digit d ∷ []) ≡ []
unfolding counts_from counted_by
digit-counts scan d = rw (digit-no-space d)

-- the last digit of n after those before it
last-digit : (n : ℕ) → n < 65536 → with_byte (n / 10) (digit (n % 10)) ≡ Count n
unfolding with_byte
last-digit n h = rw (digit-is (digit (n % 10)) (omega arith) (omega arith), with_digit-digit 65535 n (omega arith))

-- where a count may begin
abbrev Begins : Scan → Type 0
Begins scan = (d : ℕ) → d < 10 → stepped scan (digit d) ≡ with_byte 0 (digit d)

line-begins : Begins Line
unfolding stepped with_first
line-begins d h = rw (ne_eqb (digit d) 100 (λ e. omega arith))

gap-begins : Begins Gap
unfolding stepped
gap-begins d h = refl

module _ (scan : Scan) (begins : Begins scan) where
  one-digit : (n : ℕ) → n < 10 → scan_after scan (decimal n) ≡ Count n
  unfolding scan_after
  one-digit n less =
      let none : n / 10 ≡ 0 = omega arith in
      let last : n % 10 ≡ n = omega arith in
      rw (decimal_digit n less, begins n less) (rw (none, last) at (last-digit n (omega arith)))

  decimal-scan : (f n : ℕ) → n ≤ f → n < 65536 → scan_after scan (decimal n) ≡ Count n
  unfolding scan_after stepped
  decimal-scan zero n enough h = one-digit n (omega arith)
  decimal-scan (suc f) n enough h =
      by-test (ltb n 10)
      (λ t. one-digit n (ltb-true n 10 t))
      (λ t.
      let ten : 10 ≤ n = ltb-false n 10 t in
      let front = decimal-scan f (n / 10) (omega arith) (omega arith) in
      rw (decimal-more n ten, scan-append scan (decimal (n / 10)) (digit (n % 10) ∷ []), front) (last-digit n h))

decimal-counts : (scan : Scan) (f n : ℕ) → n ≤ f → counts_from scan (decimal n) ≡ []
decimal-counts scan zero n enough =
    let less : n < 10 = omega arith in
    rw (decimal_digit n less) (digit-counts scan n)
decimal-counts scan (suc f) n enough =
    by-test (ltb n 10)
    (λ t. rw (decimal_digit n (ltb-true n 10 t)) (digit-counts scan n))
    (λ t.
    let ten : 10 ≤ n = ltb-false n 10 t in
    let front = decimal-counts scan f (n / 10) (omega arith) in
    rw (decimal-more n ten, counts-append scan (decimal (n / 10)) (digit (n % 10) ∷ []), front)
    (digit-counts (scan_after scan (decimal (n / 10))) (n % 10)))

-- ---- a count after a blank
module _ (v x : ℕ) (h : x < 65536) where
  blank-scan : scan_after (Count v) (field (ascii " ") x) ≡ Count x
  unfolding scan_after stepped with_byte is_digit is_gap
  blank-scan = decimal-scan Gap gap-begins x x (omega arith) h

  blank-counts : counts_from (Count v) (field (ascii " ") x) ≡ v ∷ []
  unfolding counts_from counted_by is_space is_gap last_counts stepped with_byte is_digit
  blank-counts = ap (v ∷◌) (decimal-counts Gap x x (omega arith))

-- ---- the rest of a row
rest-scan : (v : ℕ) (xs : List ℕ) → Below 65536 xs → scan_after (Count v) (spaced xs ++ newline) ≡ Line
unfolding spaced scan_after stepped with_byte is_digit
rest-scan v [] low = refl
rest-scan v (x ∷ xs) low =
    rw (
      append_assoc (field (ascii " ") x) (spaced xs) newline,
      scan-append (Count v) (field (ascii " ") x) (spaced xs ++ newline),
      blank-scan v x (below-head low),
    )
    (rest-scan x xs (below-tail low))

newline-counts : (v : ℕ) → counts_from (Count v) newline ≡ v ∷ []
unfolding counts_from counted_by is_space last_counts
newline-counts v = refl

rest-counts : (v : ℕ) (xs : List ℕ) → Below 65536 xs → counts_from (Count v) (spaced xs ++ newline) ≡ v ∷ xs
unfolding spaced
rest-counts v [] low = newline-counts v
rest-counts v (x ∷ xs) low =
    ap (counts_from (Count v)) (append_assoc (field (ascii " ") x) (spaced xs) newline)
    ∙ counts-append (Count v) (field (ascii " ") x) (spaced xs ++ newline)
    ∙ rw (blank-counts v x (below-head low), blank-scan v x (below-head low), rest-counts x xs (below-tail low))

-- ---- rows
row-scan : (xs : List ℕ) → Below 65536 xs → scan_after Line (row_text xs) ≡ Line
unfolding row_text
row-scan [] low = unfold scan_after stepped with_first with_byte is_digit in refl
row-scan (x ∷ xs) low =
    ap (scan_after Line) (append_assoc (decimal x) (spaced xs) newline)
    ∙ scan-append Line (decimal x) (spaced xs ++ newline)
    ∙ rw (decimal-scan Line line-begins x x (omega arith) (below-head low)) (rest-scan x xs (below-tail low))

row_counts : (xs : List ℕ) → Below 65536 xs → counts_from Line (row_text xs) ≡ xs
unfolding row_text
row_counts [] low = unfold counts_from counted_by is_space last_counts in refl
row_counts (x ∷ xs) low =
    ap (counts_from Line) (append_assoc (decimal x) (spaced xs) newline)
    ∙ counts-append Line (decimal x) (spaced xs ++ newline)
    ∙ rw (decimal-counts Line x x (omega arith), decimal-scan Line line-begins x x (omega arith) (below-head low))
    (rest-counts x xs (below-tail low))

pub row_back : (xs : List ℕ) → Below 65536 xs → text_counts (row_text xs) ≡ counts xs
unfolding text_counts is_text last_counts
row_back xs low = rw (row-scan xs low, row_counts xs low, append-nil xs)

rows-scan : (n : ℕ) (xs : List ℕ) → Below 65536 xs → scan_after Line (rows_text n xs) ≡ Line
unfolding rows_text
rows-scan zero xs low = unfold scan_after in refl
rows-scan (suc n) xs low =
    scan-append Line (row_text (take 128 xs)) (rows_text n (drop 128 xs))
    ∙ rw (row-scan (take 128 xs) (below-take 128 xs low)) (rows-scan n (drop 128 xs) (below-drop 128 xs low))

rows-counts : (n : ℕ) (xs : List ℕ) → Below 65536 xs → counts_from Line (rows_text n xs) ≡ take (128 * n) xs
unfolding rows_text
rows-counts zero xs low = unfold counts_from in refl
rows-counts (suc n) xs low =
    let size : 128 * suc n ≡ 128 + 128 * n = omega arith in
    counts-append Line (row_text (take 128 xs)) (rows_text n (drop 128 xs))
    ∙ rw (
      row-scan (take 128 xs) (below-take 128 xs low),
      row_counts (take 128 xs) (below-take 128 xs low),
      rows-counts n (drop 128 xs) (below-drop 128 xs low),
      size,
    )
    (sym (take-add 128 (128 * n) xs))

-- ---- what follows `done`
ended-scan : (s : List ℕ) → scan_after Ended s ≡ Ended
unfolding scan_after stepped
ended-scan [] = refl
ended-scan (b ∷ s) = ended-scan s

ended-counts : (s : List ℕ) → counts_from Ended s ≡ []
unfolding counts_from counted_by last_counts stepped
ended-counts [] = refl
ended-counts (b ∷ s) = by-test (is_space b) (λ t. rw t (ended-counts s)) (λ t. rw t (ended-counts s))

done-scan : (rest : List ℕ) → scan_after Line (ascii "done" ++ rest) ≡ Ended
unfolding scan_after stepped with_first with_letter
done-scan rest = ended-scan rest

done-counts : (rest : List ℕ) → counts_from Line (ascii "done" ++ rest) ≡ []
unfolding counts_from counted_by is_space is_gap stepped with_first with_letter
done-counts rest = ended-counts rest

-- ---- the whole
module _ (xs : List ℕ) (size : length xs ≡ 16384) (low : Below 65536 xs) where
  map-scan : scan_after Line (map_text xs) ≡ Line
  unfolding map_text
  map-scan = rows-scan 128 xs low

  map-counts : counts_from Line (map_text xs) ≡ xs
  unfolding map_text
  map-counts = rows-counts 128 xs low ∙ take_all 16384 xs (omega arith)

  pub map_back : text_counts (map_text xs) ≡ counts xs
  unfolding text_counts is_text last_counts
  map_back = rw (map-scan, map-counts, append-nil xs)

pub done-back : (xs rest : List ℕ) → length xs ≡ 16384 → Below 65536 xs → text_counts (map_text xs ++ (ascii "done" ++ rest)) ≡ counts xs
unfolding text_counts is_text last_counts
done-back xs rest size low =
    let s = ascii "done" ++ rest in
    let scan : scan_after Line (map_text xs ++ s) ≡ Ended =
    scan-append Line (map_text xs) s ∙ rw (map-scan xs size low) (done-scan rest) in
    let all : counts_from Line (map_text xs ++ s) ≡ xs =
    counts-append Line (map_text xs) s ∙ rw (map-scan xs size low, map-counts xs size low, done-counts rest) (append-nil xs) in
    rw (scan, all, append-nil xs)

pub listing-back : (xs : List ℕ) (bits : ℕ) → length xs ≡ 16384 → Below 65536 xs → text_counts (listing_text 0 bits xs) ≡ counts xs
unfolding listing_text
listing-back xs bits size low = done-back xs (field (ascii " bits ") bits ++ newline) size low
