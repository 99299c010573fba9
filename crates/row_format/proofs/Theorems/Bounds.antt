-- Demand 3: the bits that a reading uses and the bits that a row takes are at most n times M. Of a reading this holds under
-- every table, accepted or not. Assumes nothing.
use Rattle.std.specs.Prelude.{ℕ, zero, suc, ◌+◌, ◌-◌, ◌*◌, ◌≤◌, ◌≡◌, refl, Bool, true, false, not, List, [], ◌∷◌, length, take, drop, ltb}
use Rattle.std.proofs.Common.{suc-mul, arith, ap, ◌∙◌, length-append, ltb-true, ltb-false}
use Rattle.bitstream.specs.Bits.{digits, begins, words_of, stream}
use Rattle.bitstream.specs.Bits.Laws.{length_digits}
use Rattle.row_format.specs.Lists.{any, least}
use Rattle.row_format.specs.Lists.Laws.{by-test, true-false, least-within, least-most}
use Rattle.row_format.specs.BitLaws.{begins-length}
use Rattle.row_format.specs.Table.{low_limit, codewords, codeword_at, longest, max_item_bits, escape_length}
use Rattle.row_format.specs.Table.Laws.{length-codeword_at, length-codeword_at-most, escape_length-most, longest-max_item_bits}
use Rattle.row_format.specs.Row.{Item, difference, bad_pixel, bad_bias, escape, State, fresh, after, item_bits, items_for, bits, row_bits}
use Rattle.row_format.specs.Row.Laws.{length-items_for}
use Rattle.row_format.proofs.Reading.Laws.{unmatched-cases, raw_height-cases, matched-cases}
use Rattle.row_format.specs.Reading.{Match, none, found, find, Reading, item, fault, bits_of_reading, unmatched, raw_height, matched, taken, read_item, Run, done, stop, bits_of_run, prepend, follow, read_by, read_items, stray, without_stray, first_number, row_reading}
use Rattle.answer.specs.Outcome.{refuse_if, Lent, lent}
use Rattle.answer.specs.Outcome.Laws.{unless-in, unless-refused}
use Rattle.row_format.specs.Calls.{bits_used}
use Rattle.row_format.proofs.Theorems.Search.{Found, find-found, any-begins-none-take}

-- ---- one item
-- a beginning of some string is no longer than the longest
any-begins-length : (ss : List (List ℕ)) (r : List ℕ) → any (begins r) ss ≡ true → length r ≤ longest ss
unfolding any longest
any-begins-length [] r e = true-false e refl
any-begins-length (s ∷ ss) r e = by-test (begins r s)
    (λ p. omega (arith, begins-length r s p))
    (λ p. omega (arith, any-begins-length ss r (rw p at e)))

-- refused 6, the rest is a beginning of some string; refused 7, as many of its bits as the longest string has begin none
module _ (ss : List (List ℕ)) (r : List ℕ) (miss : any (λ s. begins s r) ss ≡ false) where
  least-unmatched : least (λ k. not (any (begins (take k r)) ss)) (length r) ≤ longest ss
  least-unmatched =
      let passes : ℕ → Bool = λ k. not (any (begins (take k r)) ss) in
      by-test (ltb (length r) (longest ss))
      (λ e. omega (arith, least-within passes (length r), ltb-true (length r) (longest ss) e))
      (λ e.
      let long = ltb-false (length r) (longest ss) e in
      least-most passes (length r) (longest ss) (ap not (any-begins-none-take ss r (longest ss) (omega arith) long miss)))

  unmatched-uses : bits_of_reading (unmatched ss r) ≤ longest ss
  unmatched-uses =
      unmatched-cases (λ x. bits_of_reading x ≤ longest ss) ss r (any-begins-length ss r) (λ e. least-unmatched)

raw_height-uses : (n : ℕ) (r : List ℕ) → bits_of_reading (raw_height n r) ≤ n + 12
raw_height-uses n r =
    raw_height-cases (λ x. bits_of_reading x ≤ n + 12) n r (λ h. omega arith) (λ h g. omega arith) (λ h g. omega arith)

-- at the raw string 12 bits may follow, at the others none
pub matched-uses : (t : List ℕ) (s : State) (r : List ℕ) (j n : ℕ) → bits_of_reading (matched t s r (suc j) n) ≤ n
unfolding matched
matched-uses t s r zero n = omega arith
matched-uses t s r (suc zero) n = omega arith
matched-uses t s r (suc (suc i)) n =
    matched-cases (λ x. bits_of_reading x ≤ n) t s r i n (λ e. omega arith) (λ e. omega arith)

taken-uses : (t : List ℕ) (s : State) (r : List ℕ) (m : Match) → Found (codewords t) r m
    → bits_of_reading (taken t s r m) ≤ max_item_bits t
unfolding matched
taken-uses t s r none e = omega (arith, unmatched-uses (codewords t) r e, longest-max_item_bits t)
taken-uses t s r (found zero) q =
    omega (arith, raw_height-uses (length (codeword_at t 0)) r, escape_length-most t, length-codeword_at t 0)
taken-uses t s r (found (suc j)) q =
    omega (arith, matched-uses t s r j (length (codeword_at t (suc j))), length-codeword_at-most t (suc j))

pub read_item-uses : (t : List ℕ) (s : State) (r : List ℕ) → bits_of_reading (read_item t s r) ≤ max_item_bits t
unfolding read_item
read_item-uses t s r = taken-uses t s r (find (codewords t) r) (find-found (codewords t) r)

-- ---- a run of items, by any way of reading one that uses at most m bits
pub prepend-uses : (i : Item) (u : ℕ) (x : Run) → bits_of_run (prepend i u x) ≡ u + bits_of_run x
prepend-uses i u (done is v) = refl
prepend-uses i u (stop e at v) = refl

follow-uses : (x : Reading) (f : Item → ℕ → Run) (m n : ℕ) → bits_of_reading x ≤ m
    → ((i : Item) (u : ℕ) → bits_of_run (f i u) ≤ n) → bits_of_run (follow x f) ≤ n + m
follow-uses (item i u) f m n h rest = omega (arith, prepend-uses i u (f i u), rest i u)
follow-uses (fault e u) f m n h rest = omega arith

pub read_by-uses : (f : State → List ℕ → Reading) (m : ℕ) → ((s : State) (r : List ℕ) → bits_of_reading (f s r) ≤ m)
    → (s : State) (n : ℕ) (r : List ℕ) → bits_of_run (read_by f s n r) ≤ n * m
unfolding read_by
read_by-uses f m each s zero r = omega arith
read_by-uses f m each s (suc n) r =
    rw (suc-mul n m)
    (follow-uses (f s r) (λ i u. read_by f (after s i) n (drop u r)) m (n * m) (each s r)
    (λ i u. read_by-uses f m each (after s i) n (drop u r)))

pub read_items-uses : (t : List ℕ) (n : ℕ) (r : List ℕ) → bits_of_run (read_items t n r) ≤ n * max_item_bits t
unfolding read_items
read_items-uses t n r = read_by-uses (read_item t) (max_item_bits t) (read_item-uses t) fresh n r

-- 10 adds none, and refused before its first item a reading uses none
without_stray-uses : (r : List ℕ) (x : Run) → bits_of_run (without_stray r x) ≡ bits_of_run x
without_stray-uses r (done is u) =
    unless-in (λ x. bits_of_run x ≡ u) (refuse_if (stray u r) 10) (λ e. stop e u u) (done is u) (λ k e. refl) (λ e. refl)
without_stray-uses r (stop e at u) = refl

pub row_reading-uses : (m : Lent) (tb : List ℕ) (n : ℕ) (wb : List ℕ)
    → bits_of_run (row_reading m tb n wb) ≤ n * max_item_bits (words_of tb)
unfolding row_reading
row_reading-uses m tb n wb =
    let t = words_of tb in
    let run = read_items t n (stream wb) in
    unless-in (λ x. bits_of_run x ≤ n * max_item_bits t) (first_number m tb n) (λ e. stop e 0 0) (without_stray (stream wb) run)
    (λ k e. omega arith) (λ e. omega (arith, without_stray-uses (stream wb) run, read_items-uses t n (stream wb)))

pub bits_used-most : (tb wb : List ℕ) (n : ℕ) (m : List ℕ) → bits_used tb wb n m ≤ n * max_item_bits (words_of tb)
unfolding bits_used
bits_used-most tb wb n m = row_reading-uses (lent (length m)) tb n wb

-- refused before its first item; and else
pub bits_used-none : (tb wb : List ℕ) (n : ℕ) (m : List ℕ) → (first_number (lent (length m)) tb n ≡ 0 → ⊥)
    → bits_used tb wb n m ≡ 0
unfolding bits_used row_reading
bits_used-none tb wb n m refused =
    let items = without_stray (stream wb) (read_items (words_of tb) n (stream wb)) in
    ap bits_of_run (unless-refused (first_number (lent (length m)) tb n) (λ e. stop e 0 0) items refused)

pub bits_used-run : (tb wb : List ℕ) (n : ℕ) (m : List ℕ) → first_number (lent (length m)) tb n ≡ 0
    → bits_used tb wb n m ≡ bits_of_run (read_items (words_of tb) n (stream wb))
unfolding bits_used row_reading
bits_used-run tb wb n m passed = rw passed (without_stray-uses (stream wb) (read_items (words_of tb) n (stream wb)))

-- ---- a row, under every table and of whatever pixels
pub length-item_bits-escape : (t : List ℕ) (h : ℕ) → length (item_bits t (escape h)) ≡ escape_length t + 12
length-item_bits-escape t h = length-append (codeword_at t 0) (digits 12 h) ∙ rw (length_digits 12 h, length-codeword_at t 0)

pub length-item_bits : (t : List ℕ) (i : Item) → length (item_bits t i) ≤ max_item_bits t
length-item_bits t (difference k) = length-codeword_at-most t (3 + (k - low_limit t))
length-item_bits t bad_pixel = length-codeword_at-most t 1
length-item_bits t bad_bias = length-codeword_at-most t 2
length-item_bits t (escape h) = omega (arith, length-item_bits-escape t h, escape_length-most t)

pub length-bits : (t : List ℕ) (is : List Item) → length (bits t is) ≤ length is * max_item_bits t
unfolding bits
length-bits t [] = omega arith
length-bits t (i ∷ is) =
    rw (suc-mul (length is) (max_item_bits t), length-append (item_bits t i) (bits t is))
    (omega (arith, length-item_bits t i, length-bits t is))

pub length-row_bits : (t ps : List ℕ) → length (row_bits t ps) ≤ length ps * max_item_bits t
unfolding row_bits
length-row_bits t ps = rw (length-items_for t fresh ps) at (length-bits t (items_for t fresh ps))
