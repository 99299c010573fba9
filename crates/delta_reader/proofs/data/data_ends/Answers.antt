-- `delta_reader::data::data_ends` meets its contract. Assumes nothing.
use Prim.Native.Nat.{ℕ}
use mathlib.Core.Path.{ap}
use lib.Dec.{leb}
use Rattle.delta_reader.proofs.data.data_ends.Goals as goal

pub returns : goal.returns
returns c = ap (λ (n : ℕ). leb n c.args.at.0) c.count.ensures
