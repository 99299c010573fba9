-- `sheet_to_pgm::reason::say_unequal` meets its contract. Assumes nothing.
use Rattle.std.proofs.Common.{arith, ◌∙◌}
use Rattle.text.specs.Put.Laws.{put-put, put_front}
use Rattle.sheet_to_pgm.specs.Written.Laws.{reason-fault, text-unequal}
use Rattle.sheet_to_pgm.proofs.reason.say_unequal.Goals as goal

pub say_reason-requires : goal.say_reason-requires
say_reason-requires c = let all = put-put (omega arith) c.put_fields-next.ensures.put c.put_field-end.ensures.put in
    reason-fault c.requires (put_front all ∙ text-unequal c.args.row c.args.heights c.args.first)
