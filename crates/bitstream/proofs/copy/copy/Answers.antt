use Rattle.std.proofs.Common.{◌≡◌, ℕ, ◌+◌, List, arith, take, get_or, set, ap, ◌∙◌}
use Rattle.std.proofs.Math.Seq.{paste}
use Rattle.std.proofs.lemmas.List.{length-take-le}
use Rattle.std.proofs.lemmas.List.Edits.{paste_more}
use Rattle.bitstream.proofs.copy.copy.Goals as goal

pub loop-i-preserved : goal.loop-i-preserved
loop-i-preserved c =
    let part : List ℕ = take c.args.n c.args.from.now in
    let i : ℕ = c.loop-i.i in
    let place : i ≡ 0 + i = omega arith in
    rw c.loop-i.invariant
    (ap (λ (k : ℕ). set (paste c.args.to.now 0 part i) k (get_or part i 0)) place
    ∙ paste_more c.args.to.now 0 part i 0 (omega (arith, length-take-le c.args.n c.args.from.now c.requires.n_in_bounds)) c.loop-i-test.true)
