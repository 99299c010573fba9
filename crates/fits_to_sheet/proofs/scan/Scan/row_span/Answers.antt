-- `fits_to_sheet::scan::Scan::row_span` meets its contract: the block that has END is cut short, or it is whole. Assumes nothing.
use native.Mathlib.Omega.{arith}
use Rattle.fits_to_sheet.specs.Scan.Calls.{stands-narrow, stands-cut, stands-whole}
use Rattle.fits_to_sheet.proofs.scan.Scan.row_span.Goals as goal

pub returns-then-self-clause-spans : goal.returns-then-self-clause-spans
returns-then-self-clause-spans c = stands-cut c.args.self.stands c.if-self.true

pub returns-clause-spans : goal.returns-clause-spans
returns-clause-spans c = stands-whole c.args.self.stands c.if-self.false

pub returns-clause-within : goal.returns-clause-within
returns-clause-within c = omega (arith, stands-narrow c.args.self.stands)
