-- The ways out of the check of the whole table. Assumes nothing.
use Prim.Native.Nat.{ℕ, ◌-◌, ◌/◌, ◌%◌, ◌≤◌, ◌<◌}
use native.Mathlib.Omega.{arith}
use mathlib.Core.Path.{◌≡◌, ap, ◌∙◌, subst}
use mathlib.Core.Bool.{Bool, true, false, cond, ◌||◌, or-true}
use mathlib.Core.List.{List, map}
use lib.ListN.{length, drop, length-drop}
use lib.Seq.{take_all}
use lib.Dec.{ltb}
use borrow.Author.Tests.{lt-ltb, le-ltb, eq-eqb}
use Rattle.answer.specs.Outcome.{answer_of}
use Rattle.bitstream.specs.Bits.{words_of}
use Rattle.row_format.specs.Lists.Laws.{by-test}
use Rattle.row_format.specs.Lists.{any}
use Rattle.row_format.specs.Table.{
  codeword,
  longest,
  codewords,
  escape_length,
  wrong_word,
  wrong_codeword,
  clash,
  max_item_bits,
  verdict,
  table_number,
}
use Rattle.row_format.specs.Calls.{checked}
use Rattle.code_table.specs.Check.{WholeTable, Gathered, codeword_words, codewords_judged}
use Rattle.code_table.specs.Check.Laws.{length-words}

-- ---- the ways out of the check
pub checked-sizes : (b : List ℕ) → table_number b ≡ 1 → answer_of 1 0 ≡ checked b
unfolding checked
checked-sizes b e = rw e

module _ (b : List ℕ) (h : WholeTable b) where
  -- the string words are all that follow the header's first three
  all_words : codeword_words b (length b / 4 - 3) ≡ drop 3 (words_of b)
  all_words = take_all (length b / 4 - 3) (drop 3 (words_of b)) (omega (arith, length-drop 3 (words_of b), length-words b))

  number_is : table_number b ≡ cond (wrong_codeword (words_of b)) 2 (cond (clash (codewords (words_of b))) 3 0)
  unfolding table_number verdict
  number_is = rw (eq-eqb (length b % 4) 0 h.whole, h.size)

  checked-two : wrong_codeword (words_of b) ≡ true → answer_of 2 0 ≡ checked b
  unfolding checked
  checked-two e = rw (number_is, e)

  pub checked-escape : 15 < escape_length (words_of b) → answer_of 2 0 ≡ checked b
  checked-escape g = checked-two (unfold wrong_codeword in rw (lt-ltb 15 (escape_length (words_of b)) g))

  codewords_judged-words : {q : Bool} → any wrong_word (codeword_words b (length b / 4 - 3)) ≡ q → any wrong_word (drop 3 (words_of b)) ≡ q
  codewords_judged-words {q} e = subst (λ (l : List ℕ). any wrong_word l ≡ q) all_words e

  pub checked-word : any wrong_word (codeword_words b (length b / 4 - 3)) ≡ true → answer_of 2 0 ≡ checked b
  checked-word e =
      checked-two
      (unfold wrong_codeword in
      (ap (λ (q : Bool). ltb 15 (escape_length (words_of b)) || q) (codewords_judged-words e) ∙ or-true (ltb 15 (escape_length (words_of b)))))

  pub checked-codewords_judged : escape_length (words_of b) ≤ 15 → any wrong_word (codeword_words b (length b / 4 - 3)) ≡ false
      → let ws = codeword_words b (length b / 4 - 3) in codewords_judged ws (longest (map codeword ws)) (escape_length (words_of b)) ≡ checked b
  checked-codewords_judged g e =
      rw all_words (clean (unfold wrong_codeword in rw (le-ltb 15 (escape_length (words_of b)) g) (codewords_judged-words e)))
    where
      clean : wrong_codeword (words_of b) ≡ false
          → codewords_judged (drop 3 (words_of b)) (longest (map codeword (drop 3 (words_of b)))) (escape_length (words_of b)) ≡ checked b
      clean q = unfold checked codewords_judged codewords max_item_bits in by-test (clash (codewords (words_of b)))
          (λ x. rw (number_is, q, x))
          (λ x. rw (number_is, q, x))

-- the words that a pass over the whole table gathered, k of them
module _ (b : List ℕ) (h : WholeTable b) (k : ℕ) (e : k ≡ length b / 4 - 3) where
  pub checked_refused : any wrong_word (codeword_words b k) ≡ true → answer_of 2 0 ≡ checked b
  checked_refused g = checked-word b h (subst (λ (n : ℕ). any wrong_word (codeword_words b n) ≡ true) e g)

  pub checked-gathered : (m : ℕ) (out : List ℕ) → Gathered (codeword_words b k) m out → (escape : ℕ)
      → escape ≡ escape_length (words_of b) → escape ≤ 15 → codewords_judged out m escape ≡ checked b
  checked-gathered m out g escape is most =
      let same : codeword_words b k ≡ codeword_words b (length b / 4 - 3) = ap (codeword_words b) e in
      rw (g.copied, g.most, is, same)
      (checked-codewords_judged b h (subst (◌≤ 15) is most) (subst (λ (n : ℕ). any wrong_word (codeword_words b n) ≡ false) e g.right))
