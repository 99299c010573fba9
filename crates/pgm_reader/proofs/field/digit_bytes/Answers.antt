-- `pgm_reader::field::digit_bytes` meets its contract: the first byte that is no digit. Assumes nothing.
use Rattle.std.proofs.Common.{rules, arith, ◌∙◌, sym, refl, ◌≡◌, ℕ, true, false}
use Rattle.std.proofs.lemmas.Iterator.{index_from_first, IsFirst-from_position, YieldsList-from_slice}
use borrow.Author.Tests.{tests}
use Rattle.text.specs.Number.{is_digit}
use Rattle.pgm_format.specs.Header.{digit_bytes}
use Rattle.pgm_reader.proofs.field.digit_bytes.Goals as goal

pub returns-clause-digits : goal.returns-clause-digits
unfolding digit_bytes
returns-clause-digits c =
    let first = IsFirst-from_position _ _ c.position.result (λ (x : ℕ). is_digit x ≡ false) (λ (x : ℕ). is_digit x ≡ true)
    c.position.ensures.ran (YieldsList-from_slice c.args.s.now cc) (λ x q k. search (rules, tests)) (λ x q k. search (rules, tests)) in
    c.unwrap_or.ensures
    ∙ sym (index_from_first digit_bytes (λ (x : ℕ). is_digit x ≡ false) (λ (x : ℕ). is_digit x ≡ true)
    refl (λ x xs e. rw e) (λ x xs e. rw e (omega arith)) c.args.s.now c.position.result first)
