-- `fits_reader::header::judge` meets its contract: too few cards, no END, the number that they give, or the image. Assumes nothing.
use Rattle.std.proofs.Common.{arith, ℕ, ◌≤◌, ◌<◌, ◌≡◌, List, [], sym, ◌∙◌, length, get_or}
use Rattle.std.proofs.lemmas.Result.{err_from_is_err_and}
use lib.Arith.{lt_of_le-ne}
use Rattle.answer.specs.Refusal.Laws.{refusal_not_done}
use Rattle.text.specs.Text.{ascii}
use Rattle.fits_format.specs.Card.{integer_of}
use Rattle.fits_format.specs.Header.{header_cards, card_integer, end_card}
use Rattle.fits_format.specs.Header.Laws.{end_card-most, before_end-most}
use Rattle.fits_reader.specs.Clipped.{clipped}
use Rattle.fits_reader.specs.Judged.{CardsRead}
use Rattle.fits_reader.proofs.header.Laws.{too_short, no_end, judged-first, judged-second, judged_none, judged-done}
use Rattle.fits_reader.proofs.header.judge.Goals as goal

-- n is their count
cards-read : (s : List ℕ) (cs : List (List ℕ)) (w r e : ℕ) {n : ℕ} → cs ≡ header_cards s → n ≡ length (header_cards s) → 5 ≤ n
    → w ≡ clipped (integer_of (ascii "NAXIS1  ") (get_or cs 3 [])) → r ≡ clipped (integer_of (ascii "NAXIS2  ") (get_or cs 4 []))
    → e ≡ end_card s → CardsRead s w r e
unfolding card_integer
cards-read s cs w r e is count few width rows end =
    record { five = rw count at few; width = rw is at width; rows = rw is at rows; end = end }

-- END's place is not their count
end-stands : (s : List ℕ) {e n : ℕ} → e ≡ end_card s → n ≡ length (header_cards s) → (e ≡ n → ⊥) → e < length (header_cards s)
unfolding end_card
end-stands s {e} {n} end count other =
    let most : e ≤ n = omega (arith, end, count, before_end-most (header_cards s)) in
    let less : e < n = lt_of_le-ne most other in
    omega (arith, less, count)

pub returns-then-count-lt5 : goal.returns-then-count-lt5
returns-then-count-lt5 c = rw (too_short c.args.fits.now (rw c.count_cards-count.ensures at c.if-count-lt5.true))

pub returns-then-end-count : goal.returns-then-end-count
returns-then-end-count c =
    judged-first c.args.fits.now 17 (λ e. absurd (omega arith))
    (no_end c.args.fits.now (sym c.find_end-end.ensures ∙ c.if-end-count.true ∙ c.count_cards-count.ensures))

pub check_fit-requires-clause-cards_read : goal.check_fit-requires-clause-cards_read
check_fit-requires-clause-cards_read c =
    cards-read c.args.fits.now _ _ _ _ c.header_cards-cards.ensures c.count_cards-count.ensures c.if-count-lt5.false
    c.card_integer-width.ensures c.card_integer-rows.ensures c.find_end-end.ensures

pub check_fit-requires-clause-end_stands : goal.check_fit-requires-clause-end_stands
check_fit-requires-clause-end_stands c =
    end-stands c.args.fits.now c.find_end-end.ensures c.count_cards-count.ensures c.if-end-count.false

pub returns-in_err-check_fit : goal.returns-in_err-check_fit
returns-in_err-check_fit c =
    let p = err_from_is_err_and c.from_residual.result c.from_residual.ensures.1 in
    rw (p.1, p.2)
    (judged-first c.args.fits.now _ (λ e. absurd (omega (arith, refusal_not_done c.in_err-check_fit.field-0.0, e))) c.in_err-check_fit.ensures)

pub returns-in_err-check_axes : goal.returns-in_err-check_axes
returns-in_err-check_axes c =
    let cards = cards-read c.args.fits.now _ _ _ _ c.header_cards-cards.ensures c.count_cards-count.ensures c.if-count-lt5.false
    c.card_integer-width.ensures c.card_integer-rows.ensures c.find_end-end.ensures in
    let p = err_from_is_err_and c.from_residual-in_err-check_axes.result c.from_residual-in_err-check_axes.ensures.1 in
    rw (p.1, p.2)
    (judged-second c.args.fits.now _ _ _ cards _ (λ e. absurd (omega (arith, refusal_not_done c.in_err-check_axes.field-0.0, e)))
    c.in_ok-check_fit.ensures c.in_err-check_axes.ensures)

pub overflow_cast-result : goal.overflow_cast-result
overflow_cast-result c =
    let cards = cards-read c.args.fits.now _ _ _ _ c.header_cards-cards.ensures c.count_cards-count.ensures c.if-count-lt5.false
    c.card_integer-width.ensures c.card_integer-rows.ensures c.find_end-end.ensures in
    record { fits = omega (arith, cards.end, end_card-most c.args.fits.now) }

pub overflow_mul-start : goal.overflow_mul-start
overflow_mul-start c = record { fits = omega (arith, c.find_end-end.ensures, end_card-most c.args.fits.now) }

pub returns : goal.returns
returns c =
    let cards = cards-read c.args.fits.now _ _ _ _ c.header_cards-cards.ensures c.count_cards-count.ensures c.if-count-lt5.false
    c.card_integer-width.ensures c.card_integer-rows.ensures c.find_end-end.ensures in
    judged-done c.args.fits.now _ _ _ cards (judged_none c.args.fits.now _ _ _ cards c.in_ok-check_fit.ensures c.in_ok-check_axes.ensures)
