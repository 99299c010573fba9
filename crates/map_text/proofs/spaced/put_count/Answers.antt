-- `map_text::spaced::put_count` meets its contract: a count has at most 5 digits. Assumes nothing.
use native.Mathlib.Omega.{arith}
use lib.ListN.{get_or, length-append}
use Rattle.bitstream.specs.Bits.{halves_of}
use Rattle.text.specs.Text.{decimal}
use Rattle.map_text.specs.MapText.Laws.{count-short}
use Rattle.map_text.proofs.spaced.put_count.Goals as goal

pub returns : goal.returns
returns c = let short = count-short c.args.counts.now c.args.i in
    let text = decimal (get_or (halves_of c.args.counts.now) c.args.i 0) in
    let is = rw c.pixel_at-count.ensures at c.put_field.ensures.put in
    record { put = is; most = omega (arith, is.next, length-append c.args.words.now text) }
