-- The laws of a table's words and of its size. Assumes nothing.
use Rattle.std.specs.Prelude.{ℕ, ◌+◌, ◌*◌, ◌/◌, ◌%◌, ◌≤◌, ◌<◌, ◌≡◌, refl, true, false, List, length, take, drop, get_or, leb, eqb}
use Rattle.std.proofs.Common.{mul_assoc, arith, sym, ap, ◌∙◌}
use borrow.Author.Tests.{lt-leb, le-leb, eq-eqb, ne_eqb, eqb-true, eqb-false}
use Rattle.bitstream.specs.Bits.{words_of, bits_of, num_of, number_of}
use Rattle.bitstream.specs.Bits.Laws.{length_cut, get_d-cut, flat-take, flat-drop}
use Rattle.row_format.specs.Lists.Laws.{by-test, true-false}
use Rattle.row_format.specs.Table.{low_limit, table_size, wrong_size, verdict, table_number}
use Rattle.row_format.specs.Table.Laws.{sized}
use Rattle.code_table.specs.Check.{WholeTable, SizeJudged}

-- ---- the words of a table's bytes
pub length-words : (b : List ℕ) → length (words_of b) ≡ length b / 4
length-words b = length_cut 32 (length b / 4) (bits_of b)

-- word i is the number of the four bytes from 4 * i on
pub get_d_words : (s : List ℕ) (i : ℕ) → i < length s / 4 → get_or (words_of s) i 0 ≡ number_of (take 4 (drop (4 * i) s))
get_d_words s i h =
    get_d-cut 32 (length s / 4) (bits_of s) i h
    ∙ ap (λ (k : ℕ). num_of (take 32 (drop k (bits_of s)))) (mul_assoc 8 4 i)
    ∙ ap (λ (b : List ℕ). num_of (take 32 b)) (sym (flat-drop 8 (4 * i) s))
    ∙ ap num_of (sym (flat-take 8 4 (drop (4 * i) s)))

-- ---- a table of a wrong size
module _ (t : List ℕ) where
  small : table_size t < 1 → wrong_size t ≡ true
  unfolding wrong_size
  small h = rw (lt-leb 1 (table_size t) h)

  large : 8187 < low_limit t + table_size t → wrong_size t ≡ true
  unfolding wrong_size
  large h = by-test (leb 1 (table_size t)) (λ e. rw (e, lt-leb (low_limit t + table_size t) 8187 h)) (λ e. rw e)

  uneven : (length t ≡ 6 + table_size t → ⊥) → wrong_size t ≡ true
  unfolding wrong_size
  uneven h =
      by-test (leb 1 (table_size t))
      (λ e. by-test (leb (low_limit t + table_size t) 8187) (λ g. rw (e, g, ne_eqb (length t) (6 + table_size t) h)) (λ g. rw (e, g)))
      (λ e. rw e)

  right-size : 1 ≤ table_size t → low_limit t + table_size t ≤ 8187 → length t ≡ 6 + table_size t → wrong_size t ≡ false
  unfolding wrong_size
  right-size least most words =
      rw (le-leb 1 (table_size t) least, le-leb (low_limit t + table_size t) 8187 most, eq-eqb (length t) (6 + table_size t) words)

module _ (b : List ℕ) where
  refused-one : wrong_size (words_of b) ≡ true → table_number b ≡ 1
  unfolding table_number verdict
  refused-one e = by-test (eqb (length b % 4) 0) (λ g. rw (g, e)) (λ g. rw g)

  refused : wrong_size (words_of b) ≡ true → SizeJudged b false
  refused e = record { right = λ g. true-false g refl; wrong = λ g. refused-one e }

  pub size-incomplete : (length b % 4 ≡ 0 → ⊥) → SizeJudged b false
  unfolding table_number
  size-incomplete h = record { right = λ g. true-false g refl; wrong = λ g. rw (ne_eqb (length b % 4) 0 h) }

  pub size-short : length b / 4 < 6 → SizeJudged b false
  size-short h = refused (uneven (words_of b) (λ e. omega (arith, length-words b)))

  pub size_small : table_size (words_of b) < 1 → SizeJudged b false
  size_small h = refused (small (words_of b) h)

  pub size-large : 8187 < low_limit (words_of b) + table_size (words_of b) → SizeJudged b false
  size-large h = refused (large (words_of b) h)

  pub size-last : length b % 4 ≡ 0 → 1 ≤ table_size (words_of b) → low_limit (words_of b) + table_size (words_of b) ≤ 8187
      → SizeJudged b (eqb (length b / 4) (6 + table_size (words_of b)))
  size-last whole least most = by-test (eqb (length b / 4) (6 + table_size (words_of b)))
      (λ e. rw e (record {
        right = λ g. record { whole = whole; size = right-size (words_of b) least most (length-words b ∙ eqb-true _ _ e) };
        wrong = λ g. true-false refl g;
      }))
      (λ e. rw e (refused (uneven (words_of b) (λ g. eqb-false _ _ e (sym (length-words b) ∙ g)))))

-- ---- a whole table's sizes, of its bytes
pub record Sizes (b : List ℕ) : Type 0 where
  pub words : length b / 4 ≡ 6 + table_size (words_of b)
  pub least : 1 ≤ table_size (words_of b)
  pub most : low_limit (words_of b) + table_size (words_of b) ≤ 8187

pub whole-table-words : (b : List ℕ) → WholeTable b → Sizes b
whole-table-words b h =
    let s = sized (words_of b) h.size in
    record { words = sym (length-words b) ∙ s.words; least = s.least; most = s.most }

-- what a check of the code asks of them
pub whole_table : (b : List ℕ) → WholeTable b
    → (6 < length b / 4) × (length b / 4 ≤ 8193) × (low_limit (words_of b) + table_size (words_of b) ≤ 8187)
whole_table b h = let s = whole-table-words b h in (omega (arith, s.words, s.least), omega (arith, s.words, s.most), s.most)
