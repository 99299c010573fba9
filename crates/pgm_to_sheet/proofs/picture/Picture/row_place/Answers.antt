-- `pgm_to_sheet::picture::Picture::row_place` meets its contract. Assumes nothing.
use Prim.Native.Nat.{◌*◌, ◌≤◌}
use native.Mathlib.Nat.{mul-le-mul}
use native.Mathlib.Omega.{arith}
use Rattle.pgm_to_sheet.specs.Picture.Calls.{stands-fits}
use Rattle.pgm_to_sheet.proofs.picture.Picture.row_place.Goals as goal

pub overflow_mul-result : goal.overflow_mul-result
overflow_mul-result c =
    let most : c.span.result * c.args.r ≤ 8192 * 65536 = mul-le-mul c.span.ensures.within c.requires in
    omega (arith, most)

pub overflow_add-result : goal.overflow_add-result
overflow_add-result c =
    let most : c.span.result * c.args.r ≤ 8192 * 65536 = mul-le-mul c.span.ensures.within c.requires in
    omega (arith, most, (stands-fits c.args.self.stands).start-most)
