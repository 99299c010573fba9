-- `fits_reader::verdict::put_verdict`: the header is refused, a row is, or all rows are written. Assumes nothing.
use Rattle.fits_reader.specs.Verdict.Laws.{verdict-header, verdict-row, verdict-done}
use borrow.Author.Rules.{rules}
use Rattle.fits_reader.proofs.verdict.put_verdict.Goals as goal

pub returns-then-number-ne0 : goal.returns-then-number-ne0
returns-then-number-ne0 c = let line = verdict-header c.args.number c.args.fault c.args.rows c.if-number-ne0.true in
    record { put = rw line c.put_refused_line.ensures.put; most = search rules }

pub returns-then-fault-ne0 : goal.returns-then-fault-ne0
returns-then-fault-ne0 c = let line = verdict-row c.args.fault c.args.rows c.if-fault-ne0.true in
    record { put = rw (c.if-number-ne0.false, line) c.put_refused_row_line.ensures.put; most = search rules }

pub returns : goal.returns
returns c = record { put = rw (c.if-number-ne0.false, c.if-fault-ne0.false, verdict-done c.args.rows) c.put_done_line.ensures.put; most = search rules }
