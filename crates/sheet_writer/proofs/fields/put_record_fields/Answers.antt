-- `sheet_writer::fields::put_record_fields` meets its contract: two fields, one behind the other. Assumes nothing.
use Rattle.sheet_writer.proofs.fields.Laws.{put-record-done}
use Rattle.sheet_writer.proofs.fields.put_record_fields.Goals as goal

pub returns : goal.returns
returns c = rw (← c.code.ensures)
    (put-record-done c.args.out.now c.put_u32.new.s c.put_u16.new.s c.code.result c.args.record_bytes
    c.put_u32.ensures c.put_u16.ensures)
