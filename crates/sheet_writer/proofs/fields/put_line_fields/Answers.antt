-- `sheet_writer::fields::put_line_fields` meets its contract: a record's fields, and one more behind them. Assumes nothing.
use Rattle.sheet_format.specs.Kinds.{kind_code}
use Rattle.sheet_writer.proofs.fields.Laws.{put-line-done}
use Rattle.sheet_writer.proofs.fields.put_line_fields.Goals as goal

pub returns : goal.returns
returns c = put-line-done c.args.out.now c.put_record_fields.new.out c.put_u16.new.s (kind_code c.args.kind)
    c.args.numbers c.args.record_bytes c.put_record_fields.ensures c.put_u16.ensures
