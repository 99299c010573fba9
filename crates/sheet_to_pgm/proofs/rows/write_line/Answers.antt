-- `sheet_to_pgm::rows::write_line` meets its contract. Assumes nothing.
use Rattle.std.proofs.Common.{arith}
use Rattle.row_pixels.specs.Laws.{length-halves}
use Rattle.text.specs.Put.Laws.{put_front}
use Rattle.sheet_to_pgm.specs.Written.Laws.{present-written}
use Rattle.sheet_to_pgm.proofs.rows.write_line.Goals as goal

pub put_line-n-requires-clause-pixels_len_bound : goal.put_line-n-requires-clause-pixels_len_bound
put_line-n-requires-clause-pixels_len_bound c = omega (arith, length-halves c.args.pixels.now, c.requires.pixels_len_bound)

pub print-requires-clause-line_written : goal.print-requires-clause-line_written
print-requires-clause-line_written c = present-written c.args.pixels.now c.requires.pixels_len_bound.0 c.requires.row_settled (put_front c.put_line-n.ensures.put)
