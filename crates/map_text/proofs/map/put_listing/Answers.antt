-- `map_text::map::put_listing` meets its contract. Assumes nothing.
use native.Mathlib.Omega.{arith}
use Rattle.bitstream.specs.Bits.{halves_of}
use Rattle.text.specs.Put.Laws.{put-put}
use Rattle.map_text.specs.MapText.Laws.{listing-refused, listing-done}
use borrow.Author.Rules.{rules}
use Rattle.map_text.proofs.map.put_listing.Goals as goal

pub returns-then-number-ne0 : goal.returns-then-number-ne0
returns-then-number-ne0 c = record {
  put = rw (listing-refused c.args.number c.args.bits (halves_of c.args.counts.now) c.if-number-ne0.true)
      c.put_refused_line.ensures.put;
  most = search rules;
}

pub returns : goal.returns
returns c = record {
  put = rw (listing-done c.args.number c.args.bits (halves_of c.args.counts.now) c.if-number-ne0.false)
      (put-put (omega arith) c.put_map-next.ensures.put c.put_done_bits.ensures.put);
  most = search rules;
}
