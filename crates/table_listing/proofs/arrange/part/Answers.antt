-- `table_listing::arrange::part`: the places are copied and picked out of the copy. Assumes nothing.
use mathlib.Core.Path.{◌≡◌, sym}
use mathlib.Core.List.{List}
use Prim.Native.Nat.{ℕ, ◌≤◌}
use lib.ListN.{length, take}
use lib.Seq.{length-take-le}
use Rattle.table_listing.proofs.arrange.part.Goals as goal

-- the part of `scratch` that is lent is as long as the list
part-is : (list scratch : List ℕ) → length list ≤ length scratch → length list ≡ length (take (length list) scratch)
part-is list scratch h = sym (length-take-le (length list) scratch h)

pub slice_bounds-from-end-2 : goal.slice_bounds-from-end-2
slice_bounds-from-end-2 c = part-is c.args.list.now c.args.scratch.now c.requires.list_in_bounds

pub copy_from_slice-requires : goal.copy_from_slice-requires
copy_from_slice-requires c = sym (part-is c.args.list.now c.args.scratch.now c.requires.list_in_bounds)

pub returns : goal.returns
returns c = rw c.copy_from_slice.ensures.after at c.pick_each.ensures
