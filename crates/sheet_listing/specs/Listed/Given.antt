-- What a caller learns of a line that was given to memory with room for it. Assumes nothing.
use Rattle.std.specs.Prelude.{ℕ, ◌≤◌, ◌≡◌, refl, List, ◌++◌, length, take, drop}
use Rattle.std.proofs.Common.{arith, ap, length-append, take_at, le-ltb}
use Rattle.answer.specs.declared.Answer.{Answer}
use Rattle.answer.specs.Outcome.{Outcome, outcome, wrote}
use Rattle.sheet_listing.specs.Listed.{line_given}

module _ (l m : List ℕ) (room : 128 ≤ length m) {a : Answer} {y : List ℕ} (given : outcome a y ≡ line_given l m)
    (most : length l ≤ 128) where
  fits : outcome a y ≡ wrote (length l) l m
  unfolding line_given
  fits = rw (le-ltb (length m) (length l) (omega arith)) at given

  pub given-count : a.count ≡ length l
  given-count = ap (λ (o : Outcome Answer). o.answer.count) fits

  memory : y ≡ l ++ drop (length l) m
  memory = ap (λ (o : Outcome Answer). o.memory) fits

  pub given-line : take a.count y ≡ l
  given-line = rw (given-count, memory) (take_at l (drop (length l) m) (length l) refl)

  pub given-within : a.count ≤ length y
  given-within = rw (given-count, memory, length-append l (drop (length l) m)) (omega arith)
