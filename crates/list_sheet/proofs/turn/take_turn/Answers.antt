-- `list_sheet::turn::take_turn` meets its contract: nothing is left to read, and the last line follows. Assumes nothing.
use Rattle.list_sheet.specs.Step.Laws.{end-made}
use Rattle.list_sheet.proofs.turn.take_turn.Goals as goal

pub returns-then-count-eq0-clause-made : goal.returns-then-count-eq0-clause-made
returns-then-count-eq0-clause-made c =
    end-made c.args.at c.args.table.now c.fill_record.new.bytes c.number_at_end.ensures c.end.ensures.turn c.end.ensures.line
