-- `fits_reader::header::check_fit` meets its contract: each way out is a clause, and the last is none. Assumes nothing.
use Rattle.std.proofs.Common.{arith, true, false, ◌≡◌, sym, ◌∙◌, take}
use Rattle.fits_format.specs.Header.{header_cards, stands}
use Rattle.fits_reader.proofs.header.Laws.{no-width, no_rows, scaled-refused, image-refused, unfit-none, or_true_right}
use Rattle.fits_reader.proofs.header.check_fit.Goals as goal
use Rattle.fits_reader.proofs.header.check_fit.Goals.{then-width-eq0-via-then-width-eq0, then-width-eq0-via-else-width-eq0+then-rows-eq0}
use Rattle.fits_reader.proofs.header.check_fit.Goals.{then-stands-via-then-stands, then-stands-via-else-stands+then-stands-2}

pub returns-then-width-eq0 : goal.returns-then-width-eq0
returns-then-width-eq0 c =
    elim c.then-width-eq0.branch [
      | then-width-eq0-via-then-width-eq0 w ↦ no-width c.args.fits.now (sym c.requires.cards_read.width ∙ w.if-width-eq0.true)
      | then-width-eq0-via-else-width-eq0+then-rows-eq0 w ↦ no_rows c.args.fits.now (sym c.requires.cards_read.rows ∙ w.if-rows-eq0.true)
    ]

pub returns-then-stands : goal.returns-then-stands
returns-then-stands c =
    let cs = take c.args.end (header_cards c.args.fits.now) in
    elim c.then-stands.branch [
      | then-stands-via-then-stands w ↦
          let hit : stands "BSCALE  " cs ≡ true = sym (rw c.header_cards-cards.ensures at c.stands.ensures) ∙ w.if-stands.true in
          scaled-refused c.args.fits.now c.args.end c.requires.cards_read.end (rw hit)
      | then-stands-via-else-stands+then-stands-2 w ↦
          let hit : stands "BZERO   " cs ≡ true = sym (rw c.header_cards-cards.ensures at w.stands-else-stands.ensures) ∙ w.if-stands-2.true in
          scaled-refused c.args.fits.now c.args.end c.requires.cards_read.end (or_true_right (stands "BSCALE  " cs) (stands "BZERO   " cs) hit)
    ]

pub returns-then-is_image : goal.returns-then-is_image
returns-then-is_image c =
    let cs = take c.args.end (header_cards c.args.fits.now) in
    let first : stands "BSCALE  " cs ≡ false = sym (rw c.header_cards-cards.ensures at c.stands.ensures) ∙ c.if-stands.false in
    let second : stands "BZERO   " cs ≡ false = sym (rw c.header_cards-cards.ensures at c.stands-else-stands.ensures) ∙ c.if-stands-2.false in
    unfit-none c.args.fits.now
    (λ e. c.if-width-eq0.false (c.requires.cards_read.width ∙ e))
    (λ e. c.if-rows-eq0.false (c.requires.cards_read.rows ∙ e))
    (λ e. absurd (omega (arith, c.requires.end_stands, c.requires.cards_read.end, e)))
    c.args.end c.requires.cards_read.end (rw (first, second)) (sym c.is_image.ensures ∙ c.if-is_image.true)

pub returns-else-is_image : goal.returns-else-is_image
returns-else-is_image c = image-refused c.args.fits.now (sym c.is_image.ensures ∙ c.if-is_image.false)
