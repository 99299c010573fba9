-- `table_listing::list_strings`: the places are numbered, arranged and listed. Assumes nothing.
use Prim.Native.Nat.{ℕ, ◌-◌, ◌/◌, ◌≤◌}
use native.Mathlib.Omega.{arith}
use mathlib.Core.Path.{◌≡◌, sym, ap, ◌∙◌}
use mathlib.Core.List.{List}
use lib.ListN.{length, take}
use lib.Seq.{length-take-le}
use Rattle.bitstream.specs.Bits.{words_of}
use Rattle.row_format.specs.Table.{codeword_at, table_number}
use Rattle.table_listing.specs.Order.{order, places}
use Rattle.table_listing.specs.Listing.Laws.{accepted-whole}
use Rattle.table_listing.proofs.ListStringsLaws.{strings-most, strings-least, arranged-below, arranged-block}
use Rattle.table_listing.proofs.list_strings.Goals as goal

-- the part of the list that is lent has a place for each string
part-is : (b l : List ℕ) → table_number b ≡ 0 → 8190 ≤ length l → length (take (length b / 4 - 3) l) ≡ length b / 4 - 3
part-is b l ok h = length-take-le (length b / 4 - 3) l (omega (arith, strings-most b ok))

-- the first places in tree order
arranged : (b l numbered new : List ℕ) → numbered ≡ places (length (take (length b / 4 - 3) l))
    → new ≡ order (codeword_at (words_of b)) 27 0 numbered
    → new ≡ order (codeword_at (words_of b)) 27 0 (places (length (take (length b / 4 - 3) l)))
arranged b l numbered new e f = f ∙ ap (order (codeword_at (words_of b)) 27 0) e

pub overflow_sub-count : goal.overflow_sub-count
overflow_sub-count c = omega (arith, strings-least c.args.table.now c.requires.table_value)

pub slice_bounds-places-end : goal.slice_bounds-places-end
slice_bounds-places-end c = omega (arith, strings-most c.args.table.now c.requires.table_value)

pub slice_bounds-places-end-2 : goal.slice_bounds-places-end-2
slice_bounds-places-end-2 c = sym (part-is c.args.table.now c.args.list.now c.requires.table_value c.requires.in_bounds)

pub number-requires : goal.number-requires
number-requires c =
    omega (
      arith,
      part-is c.args.table.now c.args.list.now c.requires.table_value c.requires.in_bounds,
      strings-most c.args.table.now c.requires.table_value,
    )

pub arrange-requires : goal.arrange-requires
arrange-requires c =
    record {
      left_bound = omega arith;
      list_in_bounds = omega (
        arith,
        c.number.auto.list,
        part-is c.args.table.now c.args.list.now c.requires.table_value c.requires.in_bounds,
        strings-most c.args.table.now c.requires.table_value,
      );
    }

pub list_lines-requires : goal.list_lines-requires
list_lines-requires c =
    let b = c.args.table.now in
    record {
      whole_table = accepted-whole b c.requires.table_value;
      below = arranged-below b c.requires.table_value _ _ (part-is b c.args.list.now c.requires.table_value c.requires.in_bounds)
          (arranged b c.args.list.now c.number.new.list c.arrange.new.list c.number.ensures c.arrange.ensures);
    }

pub returns : goal.returns
returns c =
    let b = c.args.table.now in
    c.list_lines.ensures
    ∙ arranged-block b c.requires.table_value _ _ (part-is b c.args.list.now c.requires.table_value c.requires.in_bounds)
    (arranged b c.args.list.now c.number.new.list c.arrange.new.list c.number.ensures c.arrange.ensures)
    c.args.first c.args.out.now
