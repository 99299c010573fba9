-- `sheet_picture::colour::put_palette` meets its contract: before each turn the colours of i indices are put. Assumes nothing.
use Rattle.text.specs.Put.{Put}
use Rattle.sheet_picture.specs.Colour.{colours_from}
use Rattle.sheet_picture.proofs.colour.put_palette.Given as goal

abbrev pub invariant-loop-i : goal.invariant-loop-i
invariant-loop-i l = Put l.initial.out 0 (colours_from l.i 0) l.at l.out
