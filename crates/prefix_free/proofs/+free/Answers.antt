use Rattle.std.proofs.Common.{arith, sym, ap, not}
use Rattle.prefix_free.proofs.FreeLaws.{clashes-few, clashes-ended}
use Rattle.prefix_free.proofs.+free.Goals as goal

-- fewer than two words
pub returns-then-s-lt2 : goal.returns-then-s-lt2
returns-then-s-lt2 t c = sym (ap not (clashes-few c.args.s.now c.if-s-lt2.true))

-- a codeword has ended
pub returns-then-shortest-d : goal.returns-then-shortest-d
returns-then-shortest-d t c =
    sym (ap not (clashes-ended c.args.d c.requires.agree c.if-s-lt2.false c.shortest.ensures (omega arith) c.requires.d_bound))
