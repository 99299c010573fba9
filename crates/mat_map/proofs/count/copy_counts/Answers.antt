-- `count::copy_counts`: the bytes of all counts are the bytes they stand in. Assumes nothing.
use Prim.Native.Nat.{ℕ}
use mathlib.Core.List.{List, ◌++◌}
use mathlib.Core.Path.{ap, ◌∙◌}
use lib.ListN.{drop}
use Rattle.mat_map.specs.Step.Map.{bytes_back}
use Rattle.mat_map.proofs.count.copy_counts.Goals as goal

pub returns : goal.returns
returns c = c.copy.ensures ∙ ap (λ (l : List ℕ). l ++ drop 32768 c.args.counts.now)
    (bytes_back c.args.own.now record { below = λ i. (c.shared_slice_known-1.given i).fits } c.requires.own_len)
