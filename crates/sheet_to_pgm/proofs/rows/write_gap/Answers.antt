use Rattle.std.proofs.Common.{arith}
use Rattle.text.specs.Put.Laws.{put_front}
use Rattle.sheet_to_pgm.specs.Written.Laws.{absent-written}
use Rattle.sheet_to_pgm.proofs.rows.write_gap.Goals as goal

pub print-requires-clause-line_written : goal.print-requires-clause-line_written
print-requires-clause-line_written c =
    let settled = c.requires.by_index c.loop.out.next (omega (arith, c.loop.invariant)) (omega (arith, c.loop.invariant)) in
    absent-written settled (put_front c.put_line-n.ensures.put)
