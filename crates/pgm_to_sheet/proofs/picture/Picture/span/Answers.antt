-- `pgm_to_sheet::picture::Picture::span` meets its contract. Assumes nothing.
use native.Mathlib.Omega.{arith}
use Rattle.pgm_to_sheet.specs.Picture.Calls.{stands-fits}
use Rattle.pgm_to_sheet.proofs.picture.Picture.span.Goals as goal

pub returns-clause-within : goal.returns-clause-within
returns-clause-within c = omega (arith, (stands-fits c.args.self.stands).width-most)
