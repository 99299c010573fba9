-- `pgm_to_sheet::row::copy_rest` meets its contract. Assumes nothing.
use Prim.Native.Nat.{min}
use native.Mathlib.Omega.{arith}
use mathlib.Core.Path.{◌≡◌, refl, ap, ◌∙◌}
use lib.ListN.{length, take, drop, length-drop}
use lib.Seq.{take_at, length-take-le}
use borrow.Author.Rules.{part_to_end}
use Rattle.pgm_to_sheet.proofs.row.copy_rest.Goals as goal

pub returns-then-front-place : goal.returns-then-front-place
returns-then-front-place c = record { count = omega (arith, length-drop c.args.place c.args.front.now); bytes = refl }

pub returns : goal.returns
returns c = let rest = drop c.args.place c.args.front.now in
    let count : c.min-n.result ≡ min c.args.span (length rest) = rw (length-drop c.args.place c.args.front.now) c.min-n.ensures in
    let size : length (take c.min-n.result rest) ≡ c.min-n.result = length-take-le c.min-n.result rest (omega (arith, count)) in record {
      count = count;
      bytes = ap (take c.min-n.result) c.copy.ensures
          ∙ rw (part_to_end c.args.front.now c.args.place) (take_at (take c.min-n.result rest) (drop c.min-n.result c.args.row.now) c.min-n.result size);
    }
