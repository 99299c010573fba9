-- `count::add_photon`: the count is read, and one more put. Assumes nothing.
use Prim.Native.Nat.{ℕ, ◌+◌}
use mathlib.Core.Path.{ap, ◌∙◌}
use lib.ListN.{set}
use Rattle.bitstream.specs.Bits.{halves_of}
use Rattle.mat_map.proofs.count.add_photon.Goals as goal

pub returns : goal.returns
returns c = c.put_count.ensures ∙ ap (λ (v : ℕ). set (halves_of c.args.counts.now) c.args.i (v + 1)) c.pixel_at-v.ensures
