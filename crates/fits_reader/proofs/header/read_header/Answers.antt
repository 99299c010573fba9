-- `fits_reader::header::read_header` meets its contract: refused for its header or for room, or done. Assumes nothing.
use Rattle.std.proofs.Common.{arith, refl}
use Rattle.std.proofs.lemmas.Result.{err_from_is_err_and}
use Rattle.answer.specs.Refusal.Laws.{refusal_not_done}
use Rattle.fits_reader.proofs.header.Written.{header_refused_lem, header-full, header-done}
use Rattle.fits_reader.proofs.header.read_header.Goals as goal

pub returns-in_err-image : goal.returns-in_err-image
returns-in_err-image c =
    let p = err_from_is_err_and c.from_residual.result c.from_residual.ensures.1 in
    rw (p.1, p.2)
    (header_refused_lem c.args.fits.now c.args.out.now _ c.in_err-image.ensures
    (λ e. absurd (omega (arith, refusal_not_done c.in_err-image.field-0.0, e))))

pub returns-in_err-write_table_record : goal.returns-in_err-write_table_record
returns-in_err-write_table_record c =
    let p = err_from_is_err_and c.from_residual-in_err-write_table_record.result c.from_residual-in_err-write_table_record.ensures.1 in
    rw (p.1, p.2)
    (header-full c.args.fits.now c.args.out.now _ c.in_ok-image.ensures _ c.write_table_record.new.out refl
    c.in_err-write_table_record.ensures _ (λ e. absurd (omega (arith, refusal_not_done c.in_err-write_table_record.field-0.0, e))) refl)

pub returns : goal.returns
returns c =
    header-done c.args.fits.now c.args.out.now _ c.in_ok-image.ensures _ c.write_table_record.new.out refl
    c.in_ok-write_table_record.ensures refl
