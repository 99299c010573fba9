-- `sheet_to_text::line::put_record_text` meets its contract: no row, a row that is not asked for, one that is. Assumes nothing.
use Rattle.std.proofs.Common.{◌*◌, arith, sym, ◌∙◌, length-take-le}
use Rattle.text.specs.Put.Laws.{put-none}
use Rattle.sheet_format.specs.Kinds.{kind_of}
use Rattle.sheet_stream.specs.AcceptedRecord.{row_answered}
use Rattle.sheet_to_text.specs.SheetText.Laws.{text-rowless, text-unasked, text-asked}
use Rattle.sheet_to_text.proofs.line.put_record_text.Goals as goal

pub returns-then-not-is_row-clause-put : goal.returns-then-not-is_row-clause-put
returns-then-not-is_row-clause-put c =
    let rowless = sym c.is_row.ensures ∙ c.if-not-is_row.true in
    let none = text-rowless c.args.range (row_answered c.args.step.read c.args.content.now) (kind_of c.args.step.read.kind).holds rowless in
    rw none (put-none c.args.out.now 0)

pub returns-then-not-has-clause-put : goal.returns-then-not-has-clause-put
returns-then-not-has-clause-put c =
    let row = sym c.is_row.ensures ∙ c.if-not-is_row.false in
    let unasked = sym c.has.ensures ∙ c.if-not-has.true in
    let none = text-unasked c.args.range (row_answered c.args.step.read c.args.content.now) (kind_of c.args.step.read.kind).holds row unasked in
    rw none (put-none c.args.out.now 0)

pub slice_bounds-put_row_line-end : goal.slice_bounds-put_row_line-end
slice_bounds-put_row_line-end c = let size = c.requires.count_bound (sym c.is_row.ensures ∙ c.if-not-is_row.false) in
    sym (length-take-le (2 * c.args.step.read.count) c.args.content.now size.1)

pub put_row_line-requires-clause-pixels_len_bound : goal.put_row_line-requires-clause-pixels_len_bound
put_row_line-requires-clause-pixels_len_bound c = let size = c.requires.count_bound (sym c.is_row.ensures ∙ c.if-not-is_row.false) in
    omega (arith, size.0, length-take-le (2 * c.args.step.read.count) c.args.content.now size.1)

pub returns-clause-put : goal.returns-clause-put
returns-clause-put c =
    let row = sym c.is_row.ensures ∙ c.if-not-is_row.false in
    let asked = sym c.has.ensures ∙ c.if-not-has.false in
    let line = text-asked c.args.range (row_answered c.args.step.read c.args.content.now) (kind_of c.args.step.read.kind).holds row asked in
    rw line c.put_row_line.ensures.put
