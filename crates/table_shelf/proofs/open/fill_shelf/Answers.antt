-- `table_shelf::open::fill_shelf` meets its contract. Assumes nothing.
use Prim.Native.Nat.{◌≤◌}
use lib.ListN.{length}
use borrow.Rule.Slice.PartMut.{mid_of, mid_len}
use Rattle.table_shelf.proofs.open.Laws.{sizes, filled_none, filled_more, cleared-part, shelf-filled}
use native.Mathlib.Omega.{arith}
use Rattle.table_shelf.proofs.open.fill_shelf.Goals as goal

pub fill_place-requires : goal.fill_place-requires
fill_place-requires c = let small = sizes c.args.table0.now c.args.table1.now c.args.table2.now c.args.table3.now c.requires.table3_value in
    record { place_in_bounds = omega (arith, c.requires.in_bounds); table_len_bound = small.size0 }

pub fill_place-requires-2 : goal.fill_place-requires-2
fill_place-requires-2 c = let small = sizes c.args.table0.now c.args.table1.now c.args.table2.now c.args.table3.now c.requires.table3_value in
    record { place_in_bounds = omega (arith, c.requires.in_bounds, c.fill_place.auto.shelf); table_len_bound = small.size1 }

pub fill_place-requires-3 : goal.fill_place-requires-3
fill_place-requires-3 c = let small = sizes c.args.table0.now c.args.table1.now c.args.table2.now c.args.table3.now c.requires.table3_value in
    record { place_in_bounds = omega (arith, c.requires.in_bounds, c.fill_place.auto.shelf, c.fill_place-2.auto.shelf); table_len_bound = small.size2 }

pub fill_place-requires-4 : goal.fill_place-requires-4
fill_place-requires-4 c = let small = sizes c.args.table0.now c.args.table1.now c.args.table2.now c.args.table3.now c.requires.table3_value in record { place_in_bounds = omega (arith, c.requires.in_bounds, c.fill_place.auto.shelf, c.fill_place-2.auto.shelf, c.fill_place-3.auto.shelf); table_len_bound = small.size3 }

pub returns : goal.returns
returns c = let small = sizes c.args.table0.now c.args.table1.now c.args.table2.now c.args.table3.now c.requires.table3_value in
    let one = filled_more c.args.table0.now (filled_none c.args.shelf.now) small.size0 c.fill_place.ensures in
    let two = filled_more c.args.table1.now one small.size1 c.fill_place-2.ensures in
    let three = filled_more c.args.table2.now two small.size2 c.fill_place-3.ensures in
    let four = filled_more c.args.table3.now three small.size3 c.fill_place-4.ensures in
    let long : 393264 ≤ length c.fill_place-4.new.shelf = omega (
      arith,
      c.requires.in_bounds,
      c.fill_place.auto.shelf,
      c.fill_place-2.auto.shelf,
      c.fill_place-3.auto.shelf,
      c.fill_place-4.auto.shelf,
    ) in
    shelf-filled c.args.table0.now c.args.table1.now c.args.table2.now c.args.table3.now four
    (cleared-part (mid_of 131088 262176 c.fill_place-4.new.shelf) 262176 (mid_len 131088 393264 c.fill_place-4.new.shelf long) (c.fill.ensures.after (λ y e. e)))
