-- `sheet_listing::list_record`: the record is refused, or its body is there and is listed. Assumes nothing.
use mathlib.Core.Path.{ap, ◌∙◌}
use Rattle.sheet_listing.specs.Listed.Laws.{listed-refused, body-start, body-there, body-table, line-is, listed-accepted}
use Rattle.sheet_listing.proofs.list_record.Goals as goal

pub returns-then-number-ne0 : goal.returns-then-number-ne0
returns-then-number-ne0 c = record {
  listed = listed-refused c.args.table.now c.args.sheet.now c.args.state c.args.out.now _
      c.judge_record-read.ensures c.if-number-ne0.true;
  most = λ ok. absurd (c.if-number-ne0.true (ap (λ a. a.number) c.judge_record-read.ensures ∙ ok));
}

pub slice_bounds-body-count : goal.slice_bounds-body-count
slice_bounds-body-count c = body-start c.args.table.now c.args.sheet.now c.args.state c.args.out.now _
    c.judge_record-read.ensures c.if-number-ne0.false

pub slice_bounds-body-start : goal.slice_bounds-body-start
slice_bounds-body-start c = body-start c.args.table.now c.args.sheet.now c.args.state c.args.out.now _
    c.judge_record-read.ensures c.if-number-ne0.false

pub slice_bounds-body-end : goal.slice_bounds-body-end
slice_bounds-body-end c = body-there c.args.table.now c.args.sheet.now c.args.state c.args.out.now _
    c.judge_record-read.ensures c.if-number-ne0.false

pub list_accepted-requires : goal.list_accepted-requires
list_accepted-requires c = body-table c.args.table.now c.args.sheet.now c.args.state c.args.out.now _
    c.judge_record-read.ensures c.if-number-ne0.false

pub returns : goal.returns
returns c = let line = line-is c.args.table.now c.args.sheet.now c.args.state c.args.out.now _ c.judge_record-read.ensures c.if-number-ne0.false in record {
  listed = c.list_accepted.ensures.listed
      ∙ listed-accepted c.args.table.now c.args.sheet.now c.args.state c.args.out.now _ c.judge_record-read.ensures c.if-number-ne0.false;
  most = λ ok. rw line at c.list_accepted.ensures.most;
}
