-- `fits_reader::cards::end_place` meets its contract: the first card that has the keyword. Assumes nothing.
use Rattle.std.proofs.Common.{rules, arith, ℕ, ◌≡◌, refl, Bool, true, false, List, length}
use Rattle.std.proofs.lemmas.Iterator.{index_from_first, IsFirst-from_position, YieldsList-from_slice}
use borrow.Author.Tests.{tests}
use Rattle.text.specs.Text.{ascii}
use Rattle.fits_format.specs.Card.{has_keyword}
use Rattle.fits_format.specs.Header.{before_end}
use Rattle.fits_reader.proofs.cards.end_place.Goals as goal

abbrev is_end : List ℕ → Bool
is_end x = has_keyword (ascii "END     ") x

pub returns-clause-place : goal.returns-clause-place
unfolding before_end
returns-clause-place c =
    let first = IsFirst-from_position _ _ c.position.result (λ (x : List ℕ). is_end x ≡ true) (λ (x : List ℕ). is_end x ≡ false)
    c.position.ensures.ran (YieldsList-from_slice c.args.cards.now cc) (λ x q k. search (rules, tests)) (λ x q k. search (rules, tests)) in
    index_from_first (λ xs. length (before_end xs)) (λ (x : List ℕ). is_end x ≡ true) (λ (x : List ℕ). is_end x ≡ false)
    refl (λ x xs e. rw e) (λ x xs e. rw e (omega arith)) c.args.cards.now c.position.result first
