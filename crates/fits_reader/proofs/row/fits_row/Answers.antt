-- `fits_reader::row::fits_row` meets its contract: a refusal before a pixel is looked at, or the row's answer. Assumes nothing.
use Rattle.std.proofs.Common.{arith, sym, ◌∙◌, length}
use Rattle.answer.specs.Refusal.Laws.{refusal_not_done}
use Rattle.fits_format.specs.Image.Call.{before_pixels-zero, image_row-before}
use Rattle.fits_reader.proofs.row.fits_row.Goals as goal

pub returns-in-Err : goal.returns-in-Err
returns-in-Err c =
    rw (c.into.ensures, c.in-Err.ensures)
    (sym (image_row-before c.args.width c.args.row c.args.image.now c.args.out.now
    (λ e. absurd (omega (arith, refusal_not_done c.in-Err.refusal, c.in-Err.ensures ∙ e)))))

pub overflow_cast-row : goal.overflow_cast-row
overflow_cast-row c =
    let stands = before_pixels-zero c.args.width c.args.row (length c.args.image.now) (sym c.in_default.ensures) in
    record { fits = omega (arith, stands.low) }
