-- `fits_to_sheet::verdict::end` is safe: what it says is the verdict of what was taken. Assumes nothing.
use native.Mathlib.Omega.{arith}
use mathlib.Core.Path.{sym}
use lib.Seq.{length-take-le}
use Rattle.text.specs.Put.Laws.{put_front}
use Rattle.fits_to_sheet.specs.Scan.Laws.{verdict-ended}
use Rattle.fits_to_sheet.proofs.verdict.end.Goals as goal

pub slice_bounds-say_verdict-end : goal.slice_bounds-say_verdict-end
slice_bounds-say_verdict-end c = sym (length-take-le c.put_verdict-n.result c.put_verdict-n.new.out (omega (arith, c.put_verdict-n.ensures.most, c.put_verdict-n.auto.out)))

pub say_verdict-requires : goal.say_verdict-requires
say_verdict-requires c = verdict-ended c.requires (put_front c.put_verdict-n.ensures.put)
