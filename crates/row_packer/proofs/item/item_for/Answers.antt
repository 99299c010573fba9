-- `row_packer::item::item_for` meets its contract: each way out is the papers' case for the pixel. Assumes nothing.
use Rattle.row_packer.proofs.item.Laws.{chosen-bad-pixel, chosen-bad-bias, chosen-below, chosen-difference, chosen-above}
use Rattle.row_packer.proofs.item.item_for.Goals as goal

pub returns-then-pixel-eq4095 : goal.returns-then-pixel-eq4095
returns-then-pixel-eq4095 c = chosen-bad-pixel c.if-pixel-eq4095.true

pub returns-then-pixel-eq4094 : goal.returns-then-pixel-eq4094
returns-then-pixel-eq4094 c = chosen-bad-bias c.if-pixel-eq4095.false c.if-pixel-eq4094.true

pub returns-then-k-header : goal.returns-then-k-header
returns-then-k-header c = chosen-below c.if-pixel-eq4095.false c.if-pixel-eq4094.false c.if-k-header.true

pub returns-then-k-header-2 : goal.returns-then-k-header-2
returns-then-k-header-2 c = chosen-difference c.if-pixel-eq4095.false c.if-pixel-eq4094.false c.usable_differences.ensures c.if-k-header.false
    c.signed_difference.ensures c.requires.pixel_bound c.if-k-header-2.true

pub returns-else-k-header-2 : goal.returns-else-k-header-2
returns-else-k-header-2 c = chosen-above c.if-pixel-eq4095.false c.if-pixel-eq4094.false c.usable_differences.ensures c.if-k-header.false
    c.if-k-header-2.false
