-- `fits_reader::cards::stands` meets its contract. Assumes nothing.
use Rattle.std.proofs.Common.{rules, ◌∙◌}
use Rattle.std.proofs.lemmas.Iterator.{YieldsList-from_slice}
use Rattle.std.proofs.lemmas.Iterator.Search.{any_from_yields_List}
use borrow.Author.Tests.{tests}
use Rattle.fits_format.specs.Card.{has_keyword}
use Rattle.fits_reader.proofs.cards.Laws.{any_is}
use Rattle.fits_reader.proofs.cards.stands.Goals as goal

pub returns : goal.returns
returns c =
    any_from_yields_List (has_keyword c.args.keyword.now) _ _ _ c.any.ensures.ran (YieldsList-from_slice c.args.cards.now cc)
    (λ x b q k. search (rules, tests))
    ∙ any_is (has_keyword c.args.keyword.now) c.args.cards.now
