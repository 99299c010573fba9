-- What a turn of gather does, and its end. Assumes nothing.
use Prim.Native.Nat.{ℕ, ◌+◌, ◌-◌, ◌/◌, ◌%◌, ◌≤◌, ◌<◌, max}
use native.Mathlib.Nat.{add_comm, max-zero, zero-max}
use native.Mathlib.Omega.{arith}
use native.Mathlib.Numerals.{add-one}
use mathlib.Core.Path.{◌≡◌, refl, sym, ap, ◌∙◌, subst}
use mathlib.Core.Bool.{true, false, not, ◌||◌}
use mathlib.Core.List.{List, [], ◌∷◌, ◌++◌, map}
use lib.ListN.{length, take, drop, get_or, set, length-set, length-drop}
use lib.Seq.{take-suc, take-suc-set, take_all, take-add, get_or-drop}
use borrow.Author.Tests.{not-true, not-false}
use Rattle.bitstream.specs.Bits.{words_of}
use Rattle.row_format.specs.Lists.{any}
use Rattle.row_format.specs.Table.{wrong_word, codeword, longest}
use Rattle.row_format.specs.Lists.Laws.{any_append}
use Rattle.row_format.specs.Table.Laws.{length-codeword}
use Rattle.code_table.specs.Check.{Gathered}
use Rattle.code_table.specs.Check.Laws.{length-words}

-- the same pass, n words wanted, after i of them: longest is the longest length so far
pub record Gathering (ts : List ℕ) (n : ℕ) (out : List ℕ) (most i : ℕ) : Type 0 where
  pub within : i ≤ n
  pub size : length out ≡ n
  pub copied : take i out ≡ take i ts
  pub right : any wrong_word (take i ts) ≡ false
  pub longest-is : most ≡ longest (map codeword (take i ts))

longest-snoc : (xs : List ℕ) (w : ℕ) → longest (map codeword (xs ++ (w ∷ []))) ≡ max (longest (map codeword xs)) (w % 32)
unfolding longest
longest-snoc [] w = rw (length-codeword w) (max-zero (w % 32) ∙ sym (zero-max (w % 32)))
longest-snoc (x ∷ xs) w = rw (longest-snoc xs w) (omega arith)

-- the string words of a table's bytes
pub codeword_words-enough : (b : List ℕ) (n : ℕ) → n + 3 ≤ length b / 4 → n ≤ length (drop 3 (words_of b))
codeword_words-enough b n h = omega (arith, length-drop 3 (words_of b), length-words b)

pub codeword_words-at : (b : List ℕ) (i : ℕ) → get_or (words_of b) (i + 3) 0 ≡ get_or (drop 3 (words_of b)) i 0
codeword_words-at b i = ap (λ (k : ℕ). get_or (words_of b) k 0) (add_comm i 3) ∙ sym (get_or-drop 3 (words_of b) i 0)

module _ (ts : List ℕ) (n : ℕ) (enough : n ≤ length ts) where
  pub gathering-none : (out : List ℕ) → length out ≡ n → Gathering ts n out 0 0
  unfolding any longest
  gathering-none out e = record { within = omega arith; size = e; copied = refl; right = refl; longest-is = refl }

  module _ (out : List ℕ) (most i w : ℕ) (g : Gathering ts n out most i) (h : i < n) (is : w ≡ get_or ts i 0) where
    next : take (i + 1) ts ≡ take i ts ++ (w ∷ [])
    next = rw (add-one i, is) (take-suc ts i 0 (omega arith))

    pub gathering-more : not (wrong_word w) ≡ true → Gathering ts n (set out i w) (max most (w % 32)) (i + 1)
    gathering-more r =
        record {
          within = omega arith;
          size = length-set out i w ∙ g.size;
          copied =
              rw next
              (ap (λ (k : ℕ). take k (set out i w)) (add-one i)
              ∙ take-suc-set out i w (omega (arith, g.size))
              ∙ ap (◌++ (w ∷ [])) g.copied);
          right = rw (next, any_append wrong_word (take i ts) (w ∷ []), g.right) (unfold any in rw (not-true (wrong_word w) r));
          longest-is = rw next (sym (longest-snoc (take i ts) w ∙ ap (λ (k : ℕ). max k (w % 32)) (sym g.longest-is)));
        }

    pub gathered-wrong : not (wrong_word w) ≡ false → any wrong_word (take n ts) ≡ true
    gathered-wrong r =
        let e : n ≡ i + 1 + (n - (i + 1)) = omega arith in
        ap (λ (k : ℕ). any wrong_word (take k ts)) e
        ∙ ap (any wrong_word) (take-add (i + 1) (n - (i + 1)) ts)
        ∙ any_append wrong_word (take (i + 1) ts) (take (n - (i + 1)) (drop (i + 1) ts))
        ∙ ap (◌|| any wrong_word (take (n - (i + 1)) (drop (i + 1) ts))) bad
      where
        bad : any wrong_word (take (i + 1) ts) ≡ true
        bad = rw (next, any_append wrong_word (take i ts) (w ∷ []), g.right) (unfold any in rw (not-false (wrong_word w) r))

  pub gathered-all : (out : List ℕ) (most i : ℕ) → Gathering ts n out most i → n ≤ i → Gathered (take n ts) most out
  gathered-all out most i g h =
      let e : i ≡ n = omega (arith, g.within) in
      record {
        copied = sym (take_all n out (omega (arith, g.size))) ∙ subst (λ (k : ℕ). take k out ≡ take k ts) e g.copied;
        right = subst (λ (k : ℕ). any wrong_word (take k ts) ≡ false) e g.right;
        most = subst (λ (k : ℕ). most ≡ longest (map codeword (take k ts))) e g.longest-is;
      }
