-- `fits_to_sheet::header::has_end` meets its contract. Assumes nothing.
use Rattle.fits_to_sheet.specs.Scan.Header.{stands-place}
use Rattle.fits_to_sheet.proofs.header.has_end.Goals as goal

pub returns : goal.returns
returns c = rw (c.find_end.ensures, c.count_cards.ensures) (stands-place c.args.fits.now)
