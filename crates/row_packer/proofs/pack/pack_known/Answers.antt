-- `row_packer::pack::pack_known` meets its contract: packing with the check, or under a known table. Assumes nothing.
use mathlib.Core.Path.{sym, refl}
use Rattle.row_packer.proofs.Laws.{checked_zero, checked-count}
use Rattle.row_packer.proofs.pack.pack_known.Goals as goal

pub pack_row-requires : goal.pack_row-requires
pack_row-requires c = let known = sym (c.requires c.if-most-eq0.false) in
    record { table_value = checked_zero c.args.table.now known refl; most_value = checked-count c.args.table.now known refl }
