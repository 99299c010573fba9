-- `sheet_listing::line::put_last_line`: the sheet is done, or refused, with a bit or without. Assumes nothing.
use mathlib.Core.Path.{sym, ◌∙◌}
use Rattle.sheet_listing.specs.Line.Laws.{last_done, last_bit, last-placeless}
use borrow.Author.Rules.{rules}
use Rattle.sheet_listing.proofs.line.put_last_line.Goals as goal

pub returns-then-number-eq0 : goal.returns-then-number-eq0
returns-then-number-eq0 c = let line = last_done c.args.bit c.args.index c.args.rows in
    record { put = rw c.if-number-eq0.true (rw line at c.put_done_line.ensures.put); most = search rules }

pub returns-then-has_place : goal.returns-then-has_place
returns-then-has_place c = let place = sym c.has_place.ensures ∙ c.if-has_place.true in
    let line = last_bit c.args.number c.args.bit c.args.index c.args.rows c.if-number-eq0.false place in
    record { put = rw line at c.put_refused_bit_line.ensures.put; most = search rules }

pub returns : goal.returns
returns c = let place = sym c.has_place.ensures ∙ c.if-has_place.false in
    let line = last-placeless c.args.number c.args.bit c.args.index c.args.rows c.if-number-eq0.false place in
    record { put = rw line at c.put_refused_at_line.ensures.put; most = search rules }
