-- `text_to_map::verdict::put_verdict` meets its contract, by the number. Assumes nothing.
use Rattle.text_to_map.specs.Made.Laws.{verdict-refused, verdict-done}
use borrow.Author.Rules.{rules}
use Rattle.text_to_map.proofs.verdict.put_verdict.Goals as goal

pub returns-then-number-ne0 : goal.returns-then-number-ne0
returns-then-number-ne0 c = record { put = rw (verdict-refused c.args.number c.args.bytes c.args.photons c.if-number-ne0.true) c.put_refused_line.ensures.put; most = search rules }

pub returns : goal.returns
returns c = record { put = rw (verdict-done c.args.number c.args.bytes c.args.photons c.if-number-ne0.false) c.put_done.ensures.put; most = search rules }
