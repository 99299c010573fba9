use native.Mathlib.Omega.{arith}
use mathlib.Core.Path.{ap, ◌∙◌}
use borrow.Author.Rules.{rules}
use mir.Syntax.{w32}
use mir.Val.{SFits}
use mir.Facts.{to_z-of_z}
use Rattle.sheet_format.specs.Line.{word_of}
use Rattle.sheet_reader.proofs.numbers.Laws.{keep-start, keep-more, keep_all}
use Rattle.sheet_reader.proofs.numbers.keep_numbers.Goals as goal

pub loop-i-init : goal.loop-i-init
loop-i-init c = keep-start

pub loop-i-preserved : goal.loop-i-preserved
loop-i-preserved c = let value : SFits w32 c.read_signed-read.result.value =
    search rules in
    keep-more c.loop-i.invariant c.loop-i-test.true (omega (arith, c.requires.count_bound, c.if-content-room.false))
    c.requires.line_value c.read_signed-read.ensures (c.word_of.ensures ∙ ap word_of (to_z-of_z value))
    c.put_u32.ensures

pub returns : goal.returns
returns c = λ enough. keep_all c.loop-i.invariant c.loop-i-test.false
