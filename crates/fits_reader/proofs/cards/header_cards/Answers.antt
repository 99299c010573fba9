-- `fits_reader::cards::header_cards` meets its contract. Assumes nothing.
use Rattle.fits_reader.proofs.cards.Laws.{header-part}
use Rattle.fits_reader.proofs.cards.header_cards.Goals as goal

pub returns : goal.returns
returns c = header-part c.args.fits.now c.min.result _ c.as_chunks.ensures.front c.as_chunks.ensures.front_len c.min.ensures
