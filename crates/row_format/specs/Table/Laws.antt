-- The laws of tables: what is true of an accepted one. Assumes nothing.
use Rattle.std.specs.Prelude.{ℕ, zero, suc, ◌+◌, ◌-◌, ◌/◌, ◌%◌, ◌^◌, ◌≤◌, ◌<◌, ◌≡◌, refl, Bool, true, false, cond, ◌||◌, List, [], ◌∷◌, drop, get_or, pos, negsuc, ◌-ℤ◌, ◌≤ℤ◌, leb, ltb, eqb}
use Rattle.std.proofs.Math.Nat.{le-max_left, le-max_right, max-le}
use Rattle.std.proofs.Math.Decide.{dec_lt}
use Rattle.std.proofs.Common.{arith, sym, ap, ◌∙◌, length-drop, get_or-drop, le→leb, leb-true, ltb-true, ltb-false, eqb-true, le-leb, lt-ltb, le-ltb, eq-eqb}
use Rattle.std.proofs.Math.ListN.{length, get_or-map}
use Rattle.std.proofs.lemmas.List.{length-map}
use Rattle.std.proofs.lemmas.Bool.{not-false}
use Rattle.bitstream.specs.Bits.{digits, begins, words_of}
use Rattle.bitstream.specs.Bits.Laws.{length_digits}
use Rattle.row_format.specs.Lists.{any}
use Rattle.row_format.specs.Lists.Laws.{by-test, true-false, and-true-all, or-false-left, or-false-right, cond-zero-test, cond-zero-rest, any-false-at, any_false}
use Rattle.row_format.specs.BitLaws.{begins-both}
use Rattle.row_format.specs.Table.{low_limit, table_size, codeword, codewords, codeword_at, escape_length, signed_difference, entry_difference, wrong_size, wrong_word, wrong_codeword, clash, verdict, table_number, longest, max_item_bits, RightWord, Apart, Accepted}

-- ---- codewords
pub length-codeword : (w : ℕ) → length (codeword w) ≡ w % 32
unfolding codeword
length-codeword w = length_digits (w % 32) (w / 32)

-- a place past the table's end has no bits, in either form, so that no bound on the place is needed
pub get_d-codewords : (t : List ℕ) (j : ℕ) → get_or (codewords t) j [] ≡ codeword_at t j
unfolding codewords codeword_at codeword digits
get_d-codewords t j = get_or-map codeword (drop 3 t) j 0 ∙ ap codeword (get_or-drop 3 t j 0)

pub length-codeword_at : (t : List ℕ) (j : ℕ) → length (codeword_at t j) ≡ get_or t (3 + j) 0 % 32
unfolding codeword_at
length-codeword_at t j = length-codeword (get_or t (3 + j) 0)

pub length-codewords : (t : List ℕ) → length (codewords t) ≡ length t - 3
unfolding codewords
length-codewords t = length-map (drop 3 t) codeword ∙ length-drop 3 t

-- ---- the longest
pub length-longest : (ss : List (List ℕ)) (j : ℕ) → length (get_or ss j []) ≤ longest ss
unfolding longest
length-longest [] j = omega arith
length-longest (s ∷ ss) zero = le-max_left (length s) (longest ss)
length-longest (s ∷ ss) (suc j) = omega (arith, length-longest ss j)

pub longest-most : (ss : List (List ℕ)) (m : ℕ) → ((j : ℕ) → j < length ss → length (get_or ss j []) ≤ m) → longest ss ≤ m
unfolding longest
longest-most [] m most = omega arith
longest-most (s ∷ ss) m most = max-le (most 0 (omega arith)) (longest-most ss m (λ j h. most (suc j) (omega arith)))

pub longest-max_item_bits : (t : List ℕ) → longest (codewords t) ≤ max_item_bits t
unfolding max_item_bits
longest-max_item_bits t = le-max_left (longest (codewords t)) (escape_length t + 12)

pub length-codeword_at-most : (t : List ℕ) (j : ℕ) → length (codeword_at t j) ≤ max_item_bits t
length-codeword_at-most t j =
    omega (arith, rw (get_d-codewords t j) at (length-longest (codewords t) j), longest-max_item_bits t)

pub escape_length-most : (t : List ℕ) → escape_length t + 12 ≤ max_item_bits t
unfolding max_item_bits
escape_length-most t = le-max_right (longest (codewords t)) (escape_length t + 12)

-- ---- a clash of strings: there is none exactly when no string begins another
clash-false-at : (ss : List (List ℕ)) (i j : ℕ) → clash ss ≡ false → i < j → j < length ss
    → (begins (get_or ss i []) (get_or ss j []) || begins (get_or ss j []) (get_or ss i [])) ≡ false
unfolding clash
clash-false-at [] i j e below h = absurd (omega arith)
clash-false-at (s ∷ ss) i zero e below h = absurd (omega arith)
clash-false-at (s ∷ ss) zero (suc j) e below h =
    let meets : List ℕ → Bool = λ u. begins s u || begins u s in
    any-false-at meets ss j [] (or-false-left (any meets ss) (clash ss) e) (omega arith)
clash-false-at (s ∷ ss) (suc i) (suc j) e below h =
    let meets : List ℕ → Bool = λ u. begins s u || begins u s in
    clash-false-at ss i j (or-false-right (any meets ss) (clash ss) e) (omega arith) (omega arith)

pub clash-false-apart : (ss : List (List ℕ)) → clash ss ≡ false → Apart (length ss) (λ i. get_or ss i [])
clash-false-apart ss e i j hi hj differ = either (dec_lt i j)
  where
    either : Dec (i < j) → begins (get_or ss i []) (get_or ss j []) ≡ false
    either (yes below) =
        let s = get_or ss i [] in
        let u = get_or ss j [] in
        or-false-left (begins s u) (begins u s) (clash-false-at ss i j e below hj)
    either (no above) =
        let s = get_or ss i [] in
        let u = get_or ss j [] in
        or-false-right (begins u s) (begins s u) (clash-false-at ss j i e (omega arith) hi)

pub apart-clash-false : (ss : List (List ℕ)) → Apart (length ss) (λ i. get_or ss i []) → clash ss ≡ false
unfolding clash
apart-clash-false [] h = refl
apart-clash-false (s ∷ ss) h =
    let meets : List ℕ → Bool = λ u. begins s u || begins u s in
    let none : (k : ℕ) → k < length ss → meets (get_or ss k []) ≡ false = λ k b.
    rw (
      h 0 (suc k) (omega arith) (omega arith) (λ e. omega arith),
      h (suc k) 0 (omega arith) (omega arith) (λ e. omega arith),
    ) in
    rw (any_false meets ss [] none)
    (apart-clash-false ss (λ i j hi hj n. h (suc i) (suc j) (omega arith) (omega arith) (λ e. n (omega arith))))

-- ---- differences
-- the signed number that a count from -4093 stands for
pub signed-least : (k : ℕ) → negsuc 4092 ≤ℤ signed_difference k
signed-least k = by-test (ltb k 4093)
    (λ e. record { le = rw e (le→leb (4093 - suc k) 4092 (omega arith)) })
    (λ e. record { le = rw e tt })

pub signed-most : (k : ℕ) → k ≤ 8186 → signed_difference k ≤ℤ pos 4093
signed-most k h = by-test (ltb k 4093)
    (λ e. record { le = rw e tt })
    (λ e. record { le = rw e (le→leb (k - 4093) 4093 (omega arith)) })

-- pixel minus previous, as a count from -4093, stands for that difference
pub signed-difference_to : (p q : ℕ) → q ≤ 4093 → signed_difference (p + 4093 - q) ≡ pos p -ℤ pos q
signed-difference_to p zero h =
    let value : p + 4093 - 0 - 4093 ≡ p + 0 = omega arith in
    rw (le-ltb (p + 4093 - 0) 4093 (omega arith)) (ap pos value)
signed-difference_to p (suc q) h = by-test (ltb p (suc q)) down up
  where
    down : ltb p (suc q) ≡ true → signed_difference (p + 4093 - suc q) ≡ pos p -ℤ pos (suc q)
    down e =
        let less = ltb-true p (suc q) e in
        let value : 4093 - suc (p + 4093 - suc q) ≡ suc q - suc p = omega arith in
        rw (e, lt-ltb (p + 4093 - suc q) 4093 (omega arith)) (ap negsuc value)

    up : ltb p (suc q) ≡ false → signed_difference (p + 4093 - suc q) ≡ pos p -ℤ pos (suc q)
    up e =
        let more = ltb-false p (suc q) e in
        let value : p + 4093 - suc q - 4093 ≡ p - suc q = omega arith in
        rw (e, le-ltb (p + 4093 - suc q) 4093 (omega arith)) (ap pos value)

-- ---- accepted tables
pub right-word : (w : ℕ) → wrong_word w ≡ false → RightWord w
unfolding wrong_word
right-word w e =
    let parts = and-true-all (leb 1 (w % 32)) (leb (w % 32) 27) (ltb (w / 32) (2 ^ (w % 32))) (not-false _ e) in
    record {
      least = leb-true 1 (w % 32) parts.0;
      most = leb-true (w % 32) 27 parts.1;
      above = ltb-true (w / 32) (2 ^ (w % 32)) parts.2;
    }

-- the sizes of an accepted table's header
pub record Sized (t : List ℕ) : Type 0 where
  pub least : 1 ≤ table_size t
  pub most : low_limit t + table_size t ≤ 8187
  pub words : length t ≡ 6 + table_size t

pub sized : (t : List ℕ) → wrong_size t ≡ false → Sized t
unfolding wrong_size
sized t e =
    let sum = low_limit t + table_size t in
    let parts = and-true-all (leb 1 (table_size t)) (leb sum 8187) (eqb (length t) (6 + table_size t)) (not-false _ e) in
    record {
      least = leb-true 1 (table_size t) parts.0;
      most = leb-true sum 8187 parts.1;
      words = eqb-true (length t) (6 + table_size t) parts.2;
    }

pub accepted : (t : List ℕ) → verdict t ≡ 0 → Accepted t
unfolding verdict wrong_codeword
accepted t e =
    let free : ℕ = cond (clash (codewords t)) 3 0 in
    let size = sized t (cond-zero-test (wrong_size t) 0 _ e) in
    let after-size = cond-zero-rest (wrong_size t) 0 (cond (wrong_codeword t) 2 free) e in
    let right = cond-zero-test (wrong_codeword t) 1 _ after-size in
    let right-words = or-false-right (ltb 15 (escape_length t)) (any wrong_word (drop 3 t)) right in
    record {
      size-least = size.least;
      size-most = omega (arith, size.most);
      sum-most = size.most;
      words = size.words;
      escape-most = ltb-false 15 (escape_length t) (or-false-left (ltb 15 (escape_length t)) (any wrong_word (drop 3 t)) right);
      word = λ j h.
          let inside : j < length (drop 3 t) = omega (arith, length-drop 3 t, size.words) in
          let right-at = any-false-at wrong_word (drop 3 t) j 0 right-words inside in
          right-word (get_or t (3 + j) 0) (rw (get_or-drop 3 t j 0) at right-at);
      apart = λ i j hi hj differ.
          let free = cond-zero-test (clash (codewords t)) 2 0 (cond-zero-rest (wrong_codeword t) 1 free after-size) in
          let size : length (codewords t) ≡ 3 + table_size t = omega (arith, length-codewords t, size.words) in
          let apart = clash-false-apart (codewords t) free i j (omega arith) (omega arith) differ in
          rw (get_d-codewords t i, get_d-codewords t j) at apart;
    }

-- and a table of which all that is true is accepted
wrong_word-right : (w : ℕ) → RightWord w → wrong_word w ≡ false
unfolding wrong_word
wrong_word-right w h =
    rw (le-leb 1 (w % 32) h.least, le-leb (w % 32) 27 h.most, lt-ltb (w / 32) (2 ^ (w % 32)) h.above)

pub verdict-accepted : (t : List ℕ) → Accepted t → verdict t ≡ 0
unfolding verdict wrong_size wrong_codeword
verdict-accepted t ok = rw (
  le-leb 1 (table_size t) ok.size-least,
  le-leb (low_limit t + table_size t) 8187 ok.sum-most,
  eq-eqb (length t) (6 + table_size t) ok.words,
  le-ltb 15 (escape_length t) ok.escape-most,
  any_false wrong_word (drop 3 t) 0 right,
  apart-clash-false (codewords t) free,
)
  where
    right : (j : ℕ) → j < length (drop 3 t) → wrong_word (get_or (drop 3 t) j 0) ≡ false
    right j h =
        let inside : j < 3 + table_size t = omega (arith, length-drop 3 t, ok.words) in
        rw (get_or-drop 3 t j 0) (wrong_word-right (get_or t (3 + j) 0) (ok.word j inside))

    free : Apart (length (codewords t)) (λ i. get_or (codewords t) i [])
    free i j hi hj differ =
        let size : length (codewords t) ≡ 3 + table_size t = omega (arith, length-codewords t, ok.words) in
        rw (get_d-codewords t i, get_d-codewords t j) (ok.apart i j (omega arith) (omega arith) differ)

-- of a table's bytes
pub table_number-whole : (b : List ℕ) → table_number b ≡ 0 → length b % 4 ≡ 0
unfolding table_number
table_number-whole b e =
    by-test (eqb (length b % 4) 0) (eqb-true (length b % 4) 0) (λ odd. absurd (omega (arith, rw odd at e)))

pub right-size : (t : List ℕ) → verdict t ≡ 0 → wrong_size t ≡ false
unfolding verdict
right-size t e = cond-zero-test (wrong_size t) 0 (cond (wrong_codeword t) 2 (cond (clash (codewords t)) 3 0)) e

pub table_number-verdict : (b : List ℕ) → table_number b ≡ 0 → verdict (words_of b) ≡ 0
unfolding table_number
table_number-verdict b e = rw (eq-eqb (length b % 4) 0 (table_number-whole b e)) at e

pub accepted-table : (b : List ℕ) → table_number b ≡ 0 → Accepted (words_of b)
accepted-table b e = accepted (words_of b) (table_number-verdict b e)

module _ (t : List ℕ) (ok : Accepted t) where
  -- "Lengths are 1 to 27"
  pub codeword_at-least : (j : ℕ) → j < 3 + table_size t → 1 ≤ length (codeword_at t j)
  codeword_at-least j h = rw (length-codeword_at t j) (ok.word j h).least

  pub codeword_at-most : (j : ℕ) → j < 3 + table_size t → length (codeword_at t j) ≤ 27
  codeword_at-most j h = rw (length-codeword_at t j) (ok.word j h).most

  -- "the raw string's 1 to 15"
  pub escape_length-least : 1 ≤ escape_length t
  escape_length-least = (ok.word 0 (omega arith)).least

  pub length-codewords-size : length (codewords t) ≡ 3 + table_size t
  length-codewords-size = omega (arith, length-codewords t, ok.words)

  -- two strings that begin the same bits are one
  pub codeword_at-only : (i j : ℕ) (r : List ℕ) → i < 3 + table_size t → j < 3 + table_size t
      → begins (codeword_at t i) r ≡ true → begins (codeword_at t j) r ≡ true → i ≡ j
  codeword_at-only i j r hi hj p q =
      let one : (i ≡ j → ⊥) → ⊥ = λ differ. true-false
      (begins-both (codeword_at t i) (codeword_at t j) r p q)
      (rw (ok.apart i j hi hj differ, ok.apart j i hj hi (λ e. differ (sym e)))) in
      let not-less : i < j → ⊥ = λ below. one (λ e. omega arith) in
      let not_more : j < i → ⊥ = λ below. one (λ e. omega arith) in
      omega arith

  -- M
  pub max_item_bits-least : 13 ≤ max_item_bits t
  max_item_bits-least = omega (arith, escape_length-most t, escape_length-least)

  pub max_item_bits-most : max_item_bits t ≤ 27
  unfolding max_item_bits
  max_item_bits-most = omega (arith, ok.escape-most, longest-most (codewords t) 27 each)
    where
      each : (j : ℕ) → j < length (codewords t) → length (get_or (codewords t) j []) ≤ 27
      each j h = rw (get_d-codewords t j) (codeword_at-most j (omega (arith, length-codewords-size)))

  -- "So steps lie within -4093 to 4093"
  pub entry_difference-most : (i : ℕ) → i < table_size t → entry_difference t i ≤ 8186
  entry_difference-most i h = omega (arith, ok.sum-most)
