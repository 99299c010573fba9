-- `text_to_map::verdict::end` is safe: what it says is the verdict of the conversion. Assumes nothing.
use native.Mathlib.Omega.{arith}
use mathlib.Core.Path.{sym}
use lib.Seq.{length-take-le}
use Rattle.text.specs.Put.Laws.{put_front}
use Rattle.text_to_map.specs.Made.Laws.{length-held, verdict-of}
use Rattle.text_to_map.proofs.verdict.end.Goals as goal

pub photons-requires : goal.photons-requires
photons-requires c = length-held c.requires.converted.of

pub slice_bounds-say_verdict-end : goal.slice_bounds-say_verdict-end
slice_bounds-say_verdict-end c = sym (length-take-le c.put_verdict-n.result c.put_verdict-n.new.out (omega (arith, c.put_verdict-n.auto.out)))

pub say_verdict-requires : goal.say_verdict-requires
say_verdict-requires c = verdict-of c.args.number c.args.bytes c.requires (rw c.photons.ensures at (put_front c.put_verdict-n.ensures.put))
