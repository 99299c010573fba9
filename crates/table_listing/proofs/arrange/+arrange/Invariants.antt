-- The measure of the cycle of calls {arrange} is the bits that the tree still goes deeper. Assumes nothing.
use Rattle.table_listing.proofs.arrange.+arrange.Given as goal

abbrev pub decreases-arrange : goal.decreases-arrange
decreases-arrange l = l.left
