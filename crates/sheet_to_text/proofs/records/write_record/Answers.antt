-- `sheet_to_text::records::write_record` meets its contract: what is printed is what the text gains. Assumes nothing.
use Rattle.text.specs.Put.Laws.{put_front}
use Rattle.sheet_stream.specs.AcceptedRecord.Laws.{next-stands}
use Rattle.sheet_to_text.specs.SheetText.Laws.{text-next}
use Rattle.sheet_to_text.proofs.records.write_record.Goals as goal

pub put_record_text-n-requires-clause-count_bound : goal.put_record_text-n-requires-clause-count_bound
put_record_text-n-requires-clause-count_bound c =
    λ row. let stands = next-stands c.requires.accepted_record row in (stands.few, stands.there)

pub print_text-requires : goal.print_text-requires
print_text-requires c = text-next c.args.range c.requires.accepted_record (put_front c.put_record_text-n.ensures.put)
