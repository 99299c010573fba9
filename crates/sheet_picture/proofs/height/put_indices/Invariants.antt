-- `sheet_picture::height::put_indices` meets its contract: before each turn the indices below h are right. Assumes nothing.
use Rattle.sheet_picture.specs.View.{IndexedTo}
use Rattle.sheet_picture.proofs.height.put_indices.Given as goal

abbrev pub invariant-loop-h : goal.invariant-loop-h
invariant-loop-h l = IndexedTo record { low = l.low; high = l.high } l.indices l.h
