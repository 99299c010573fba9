-- `adaptive::write::write_bytes` meets its contract. Assumes nothing.
use native.Mathlib.Omega.{arith}
use Prim.Native.Nat.{suc}
use lib.ListN.{length}
use mathlib.Core.Path.{◌≡◌, sym}
use Rattle.adaptive.specs.Number.{data_bytes}
use Rattle.adaptive.specs.Number.Laws.{length-data_bytes}
use Rattle.adaptive.proofs.write.WriteBytesLaws.{written-refused, done-written}
use Rattle.adaptive.proofs.write.write_bytes.Goals as goal

pub returns-then-out-k : goal.returns-then-out-k
returns-then-out-k c = sym (written-refused (data_bytes c.args.k c.args.d) c.args.out.now (omega (arith, length-data_bytes c.args.k c.args.d)))

pub returns : goal.returns
returns c = let b = data_bytes c.args.k c.args.d in
    let long : length b ≡ suc c.args.k = length-data_bytes c.args.k c.args.d in
    done-written b c.args.out.now _ _ (omega arith) (omega arith) (rw long c.put_bytes.ensures)
