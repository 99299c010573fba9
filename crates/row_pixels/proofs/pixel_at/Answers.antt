-- `row_pixels::pixel_at` meets its contract: pixel i is the number of two bytes. Assumes nothing.
use mathlib.Core.Path.{sym, ◌∙◌}
use Rattle.row_pixels.proofs.PixelAtLaws.{get_d-halves}
use Rattle.row_pixels.proofs.pixel_at.Goals as goal

pub returns : goal.returns
returns c = c.read_u16.ensures ∙ sym (get_d-halves c.args.pixels.now c.args.i c.requires)
