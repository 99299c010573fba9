-- `pgm_to_sheet::rest::hint_rest` is safe: a picture has at most 65536 rows. Assumes nothing.
use Rattle.pgm_to_sheet.specs.Picture.Calls.{stands-fits}
use Rattle.pgm_to_sheet.proofs.rest.hint_rest.Goals as goal

pub row_place-end-requires : goal.row_place-end-requires
row_place-end-requires c = (stands-fits c.args.picture.stands).rows-most
