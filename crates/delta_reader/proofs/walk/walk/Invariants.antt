use Rattle.delta_format.specs.Numbers.{max_of, elements_of}
use Rattle.delta_reader.specs.Walk.{delta_row_of, Walking}
use Rattle.delta_reader.proofs.walk.walk.Given as goal

abbrev pub invariant-loop-left : goal.invariant-loop-left
invariant-loop-left l =
    Walking l.write l.n
    (delta_row_of l.n l.«data».bits l.«data».bytes.now l.value.bits l.value.bytes.now l.repeat l.initial.at l.initial.from l.initial.counts)
    (max_of l.«data».bits) (elements_of l.«data».bits l.«data».bytes.now) (elements_of l.value.bits l.value.bytes.now) (elements_of 32 l.repeat)
    l.initial.row l.initial.marks l.at.0 l.from.0 l.counts.0 l.previous l.left l.row l.marks

abbrev pub decreases-loop-left : goal.decreases-loop-left
decreases-loop-left l = l.left
