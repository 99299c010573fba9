-- `sheet_stream::step::take_record` meets its contract: reading failed, the sheet has ended, or there is a record. Assumes nothing.
use Rattle.sheet_stream.specs.Step.Laws.{end-made}
use Rattle.sheet_stream.proofs.step.take_record.Goals as goal

pub returns-then-count-eq0-clause-made : goal.returns-then-count-eq0-clause-made
returns-then-count-eq0-clause-made c =
    end-made c.args.at c.args.table.now c.args.content.now c.fill_record.new.bytes c.number_at_end.ensures c.refused.ensures c.end.ensures
