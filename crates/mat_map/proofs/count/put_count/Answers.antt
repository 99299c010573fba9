-- `count::put_count`: two bytes written over are one count. Assumes nothing.
use Prim.Native.Nat.{ℕ}
use mathlib.Core.List.{List}
use mathlib.Core.Path.{ap, ◌∙◌}
use Rattle.bitstream.specs.Bits.{halves_of}
use Rattle.mat_map.specs.Step.Memory.{halves-put}
use Rattle.mat_map.proofs.count.put_count.Goals as goal

pub returns : goal.returns
returns c = ap (λ (l : List ℕ). halves_of l) c.put_u16.ensures ∙ halves-put c.args.counts.now c.args.i c.args.v c.requires.i_in_bounds
    c.requires.v_bound
