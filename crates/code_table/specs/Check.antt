-- What the stages of the table check establish. Definitions only; their laws are in Check/Laws.antt. Assumes nothing.
use Rattle.std.specs.Prelude.{ℕ, ◌+◌, ◌%◌, max, ◌≡◌, Bool, true, false, cond, List, Option, Some, None, map, length, take, drop}
use Rattle.bitstream.specs.Bits.{words_of}
use Rattle.row_format.specs.Lists.{any}
use Rattle.row_format.specs.Table.{wrong_size, wrong_word, codeword, longest, clash, table_number}
use Rattle.answer.specs.declared.Answer.{Answer}
use Rattle.answer.specs.Outcome.{answer_of}
pub mod Laws

-- the table's bytes are whole words and as many as its header says
pub record WholeTable (b : List ℕ) : Type 0 where
  pub whole : length b % 4 ≡ 0
  pub size : wrong_size (words_of b) ≡ false

-- r says whether the table is so; if not, it is refused 1
pub record SizeJudged (b : List ℕ) (r : Bool) : Type 0 where
  pub right : r ≡ true → WholeTable b
  pub wrong : r ≡ false → table_number b ≡ 1

-- n string words of a table, from the raw string's on
abbrev pub codeword_words : List ℕ → ℕ → List ℕ
codeword_words b n = take n (drop 3 (words_of b))

-- what a pass over the string words ws leaves where each is in order: a copy of them, and the longest length
pub record Gathered (ws : List ℕ) (m : ℕ) (out : List ℕ) : Type 0 where
  pub copied : out ≡ ws
  pub right : any wrong_word ws ≡ false
  pub most : m ≡ longest (map codeword ws)

-- and where some word is not in order
abbrev pub AllGathered : List ℕ → Option ℕ → List ℕ → Type 0
AllGathered ws None out = any wrong_word ws ≡ true
AllGathered ws (Some m) out = Gathered ws m out

-- what is answered of string words that are in order, by their longest length and the escape's
unfoldable pub codewords_judged : List ℕ → ℕ → ℕ → Answer
codewords_judged ws most escape = cond (clash (map codeword ws)) (answer_of 3 0) (answer_of 0 (max most (escape + 12)))
