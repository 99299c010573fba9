-- `sheet_to_pgm::reason::say_missing` meets its contract. Assumes nothing.
use Rattle.std.proofs.Common.{arith, ◌∙◌}
use Rattle.text.specs.Put.Laws.{put-put, put_front}
use Rattle.sheet_to_pgm.specs.Written.Laws.{reason-fault, text-missing}
use Rattle.sheet_to_pgm.proofs.reason.say_missing.Goals as goal

pub say_reason-requires : goal.say_reason-requires
say_reason-requires c = let all = put-put (omega arith) c.put_field-next.ensures.put c.put_bytes-end.ensures in
    reason-fault c.requires (put_front all ∙ text-missing c.args.row)
