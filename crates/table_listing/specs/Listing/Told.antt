-- What a caller learns from what a call left. Assumes nothing.
use Rattle.std.specs.Prelude.{ℕ, ◌+◌, ◌≤◌, ◌≡◌, List, length, take, drop}
use Rattle.std.proofs.Common.{sym, ap, ◌∙◌}
use Rattle.answer.specs.Outcome.{Outcome, outcome}
use Rattle.row_format.specs.Table.{table_number}
use Rattle.table_listing.specs.Listed.{ListedLines}
use Rattle.table_listing.specs.Listing.{lines, joined, block}
use Rattle.table_listing.specs.Listing.Answers.{block-bytes, block-text, block_room, accepted-within, accepted-ended}

module _ (b : List ℕ) (first : ℕ) (m : List ℕ) {r : ListedLines} {m' : List ℕ} (e : outcome r m' ≡ block b first m) where
  answer : r ≡ (block b first m).answer
  answer = ap (λ (o : Outcome ListedLines). o.answer) e

  number : r.number ≡ (block b first m).answer.number
  number = ap (λ (a : ListedLines). a.number) answer

  pub told-bytes : r.bytes ≤ length m
  told-bytes = rw answer (block-bytes b first m)

  pub told_text : take r.bytes m' ≡ joined (take r.lines (drop first (lines b)))
  told_text = rw (answer, ap (λ (o : Outcome ListedLines). o.memory) e) (block-text b first m)

  module _ (room : 128 ≤ length m) where
    pub told-number : r.number ≡ table_number b
    told-number = number ∙ block_room b first m room

    -- of an accepted table
    module _ (none : r.number ≡ 0) where
      ok : table_number b ≡ 0
      ok = sym told-number ∙ none

      pub told-lines : first ≤ length (lines b) → first + r.lines ≤ length (lines b)
      told-lines h = rw answer (accepted-within b first m ok h (sym number ∙ none))

      pub told-ended : r.lines ≡ 0 → length (lines b) ≤ first
      told-ended z =
          (accepted-ended b first m ok).0 (sym number ∙ none, sym (ap (λ (a : ListedLines). a.lines) answer) ∙ z)
