use Rattle.delta_format.specs.Numbers.{elements_of}
use Rattle.delta_reader.specs.Stretch.{Stretching}
use Rattle.delta_reader.proofs.stretch.differences.Given as goal

abbrev pub invariant-loop-left : goal.invariant-loop-left
invariant-loop-left l =
    Stretching l.write l.n l.«data».bits (elements_of l.«data».bits l.«data».bytes.now)
    (record { at = l.initial.at; previous = l.initial.previous; left = l.initial.left }) l.initial.row l.initial.marks
    l.at.0 l.previous l.left l.row l.marks

abbrev pub decreases-loop-left : goal.decreases-loop-left
decreases-loop-left l = l.left
