-- The words of a usage text, one after another. Assumes nothing.
use Rattle.std.specs.Prelude.{ℕ, zero, suc, ◌+◌, ◌-◌, ◌≤◌, ◌<◌, ◌≡◌, refl, true, false, cond, List, [], ◌∷◌, length, take, drop, get_or, eqb, Some, None}
use Rattle.std.specs.Prelude.{Bool, not, nat_eq, ltb, option_map}
use Rattle.std.specs.List.{onto_first, slice_split, starts_with, prefix_len, position, position_or_len}
use Rattle.std.specs.Cmp.Lexicographic.{pointwise}
use Rattle.text.specs.Same.Laws.{same_pointwise}
use Rattle.std.proofs.Common.{sym, add-zero, arith, ap, ◌∙◌, length-drop, drop-cons, get_or-drop}
use Rattle.std.proofs.Math.Numerals.{add-one}
use Rattle.std.proofs.Math.Seq.{drop-drop}
use borrow.Author.Tests.{eq-eqb, ne_eqb, eqb-true, lt-ltb, le-ltb, ltb-true, ltb-false}
use Rattle.row_format.specs.Lists.Laws.{by-test, true-false}
use Rattle.text.specs.Same.{same_bytes}
use Rattle.command.specs.Option.{in_front, usage_words, values_in, option_in}

-- the bytes of the first word
unfoldable pub word_size : List ℕ → ℕ
word_size [] = 0
word_size (b ∷ s) = cond (eqb b 32) 0 (suc (word_size s))

-- the words behind the place where one ends
unfoldable pub words_behind : List ℕ → List (List ℕ)
words_behind [] = []
words_behind (b ∷ s) = usage_words s

-- ---- the first word, and those behind it
pub words-cons : (s : List ℕ) → usage_words s ≡ take (word_size s) s ∷ words_behind (drop (word_size s) s)
unfolding usage_words word_size words_behind
words-cons [] = refl
words-cons (b ∷ s) =
    by-test (eqb b 32)
    (λ e. rw e)
    (λ e. rw e (ap (in_front b) (words-cons s)))

-- ---- the first word's end, byte by byte
module _ (s : List ℕ) (i : ℕ) (h : i < length s) where
  pub word-ends : get_or s i 0 ≡ 32 → word_size (drop i s) ≡ 0
  unfolding word_size
  word-ends e = rw (drop-cons s i 0 h, eq-eqb (get_or s i 0) 32 e)

  pub word_on : (get_or s i 0 ≡ 32 → ⊥) → word_size (drop i s) ≡ suc (word_size (drop (i + 1) s))
  unfolding word_size
  word_on n = rw (drop-cons s i 0 h, ne_eqb (get_or s i 0) 32 n, add-one i)

  pub behind-blank : words_behind (drop i s) ≡ usage_words (drop (i + 1) s)
  unfolding words_behind
  behind-blank = rw (drop-cons s i 0 h, add-one i)

none_left : (s : List ℕ) → length s ≡ 0 → s ≡ []
none_left [] e = refl
none_left (x ∷ s) e = absurd (omega arith)

pub nothing-behind : (s : List ℕ) (i : ℕ) → length s ≤ i → drop i s ≡ []
nothing-behind s i h = none_left (drop i s) (omega (arith, length-drop i s))

pub word_none : (s : List ℕ) (i : ℕ) → length s ≤ i → word_size (drop i s) ≡ 0
unfolding word_size
word_none s i h = rw (nothing-behind s i h)

-- ---- values
pub byte-behind : (s : List ℕ) (i : ℕ) → length s ≤ i → eqb (get_or s i 0) 45 ≡ false
byte-behind [] i h = refl
byte-behind (x ∷ s) zero h = absurd (omega arith)
byte-behind (x ∷ s) (suc i) h = byte-behind s i (omega arith)

-- a word begins as the text does
first_byte : (s : List ℕ) → eqb (get_or (take (word_size s) s) 0 0) 45 ≡ eqb (get_or s 0 0) 45
unfolding word_size
first_byte [] = refl
first_byte (b ∷ s) =
    by-test (eqb b 32)
    (λ e. rw (e, eqb-true b 32 e))
    (λ e. rw e)

first-at : (s : List ℕ) (i : ℕ) → eqb (get_or (take (word_size (drop i s)) (drop i s)) 0 0) 45 ≡ eqb (get_or s i 0) 45
first-at s i = first_byte (drop i s) ∙ rw (get_or-drop i s 0 0, add-zero i)

module _ (s : List ℕ) (i : ℕ) (h : i < length s) where
  pub values-none : eqb (get_or s (i + 1) 0) 45 ≡ true → values_in (words_behind (drop i s)) ≡ 0
  unfolding values_in
  values-none e = rw (behind-blank s i h, words-cons (drop (i + 1) s), first-at s (i + 1), e)

  pub values-more : (r : ℕ) → r ≡ i + 1 + word_size (drop (i + 1) s) → eqb (get_or s (i + 1) 0) 45 ≡ false
      → values_in (words_behind (drop i s)) ≡ values_in (words_behind (drop r s)) + 1
  unfolding values_in
  values-more r e n =
      rw (
        behind-blank s i h,
        words-cons (drop (i + 1) s),
        first-at s (i + 1),
        n,
        drop-drop (word_size (drop (i + 1) s)) (i + 1) s,
        ← e,
      )

pub values-end : (s : List ℕ) (i : ℕ) → length s ≤ i → values_in (words_behind (drop i s)) ≡ 0
unfolding values_in words_behind
values-end s i h = rw (nothing-behind s i h)

-- ---- the option
module _ (s w : List ℕ) (i end : ℕ) (e : end ≡ i + word_size (drop i s)) where
  first_word : usage_words (drop i s) ≡ take (end - i) (drop i s) ∷ words_behind (drop end s)
  first_word =
      let n : word_size (drop i s) ≡ end - i = omega arith in
      words-cons (drop i s) ∙ rw (drop-drop (word_size (drop i s)) i s, ← e, n)

  pub option-here : same_bytes (take (end - i) (drop i s)) w ≡ true
      → option_in (usage_words (drop i s)) w ≡ Some (values_in (words_behind (drop end s)))
  unfolding option_in
  option-here t = rw (first_word, t)

  pub option-none : same_bytes (take (end - i) (drop i s)) w ≡ false → length s ≤ end
      → option_in (usage_words (drop i s)) w ≡ None
  unfolding option_in words_behind
  option-none t h = rw (first_word, t, nothing-behind s end h)

  pub option-on : same_bytes (take (end - i) (drop i s)) w ≡ false → end < length s
      → option_in (usage_words (drop i s)) w ≡ option_in (usage_words (drop (end + 1) s)) w
  unfolding option_in
  option-on t h = rw (first_word, t, behind-blank s end h)

-- ---- the same in std's words
front_first : (b : ℕ) (ws : List (List ℕ)) → in_front b ws ≡ onto_first b ws
front_first b [] = refl
front_first b (w ∷ ws) = refl

-- a text's words are what `split` gives
pub words_split : (s : List ℕ) → usage_words s ≡ slice_split (λ b. eqb b 32) s
unfolding usage_words
words_split [] = refl
words_split (b ∷ s) =
    by-test (eqb b 32)
    (λ e. rw (e, words_split s))
    (λ e. rw (e, words_split s) (front_first b (slice_split (λ b. eqb b 32) s)))

-- a word that is no option
abbrev pub is_value : List ℕ → Bool
is_value w = not (starts_with nat_eq w (45 ∷ []))

dash_first : (w : List ℕ) → eqb (get_or w 0 0) 45 ≡ starts_with nat_eq w (45 ∷ [])
dash_first [] = refl
dash_first (x ∷ w) =
    by-test (eqb x 45)
    (λ e. rw (e, eqb-true x 45 e))
    (λ e. rw (e, ne_eqb 45 x (λ h. true-false (eq-eqb x 45 (sym h)) e)))

-- the values of an option are the words behind it, up to the next option
pub values_prefix : (ws : List (List ℕ)) → values_in ws ≡ prefix_len is_value ws
unfolding values_in
values_prefix [] = refl
values_prefix (w ∷ ws) =
    by-test (eqb (get_or w 0 0) 45)
    (λ e. rw (e, sym (dash_first w) ∙ e))
    (λ e. rw (e, sym (dash_first w) ∙ e, values_prefix ws) (omega arith))

abbrev pub behind : List (List ℕ) → ℕ → ℕ
behind ws k = values_in (drop (k + 1) ws)

-- one word more in front
behind-on : (p : List ℕ → Bool) (w : List ℕ) (ws : List (List ℕ)) → p w ≡ false
    → option_map (behind (w ∷ ws)) (position p (w ∷ ws)) ≡ option_map (behind ws) (position p ws)
behind-on p w ws e =
    let n : ℕ = position_or_len p ws in
    let next : 1 + n + 1 ≡ suc (n + 1) = omega arith in
    by-test (ltb n (length ws))
    (λ t. rw (e, t, lt-ltb (1 + n) (suc (length ws)) (omega (arith, ltb-true n (length ws) t)), next) refl)
    (λ t. rw (e, t, le-ltb (1 + n) (suc (length ws)) (omega (arith, ltb-false n (length ws) t))) refl)

-- an option's values stand behind the first word that it is
pub option_position : (s : List ℕ) (ws : List (List ℕ))
    → option_in ws s ≡ option_map (behind ws) (position (λ w. pointwise nat_eq w s) ws)
unfolding option_in
option_position s [] = refl
option_position s (w ∷ ws) =
    by-test (same_bytes w s)
    (λ e. rw (e, same_pointwise w s ∙ e, lt-ltb 0 (suc (length ws)) (omega arith)) refl)
    (λ e. rw e (option_position s ws ∙ sym (behind-on (λ w. pointwise nat_eq w s) w ws (same_pointwise w s ∙ e))))
