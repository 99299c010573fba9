-- `draw_sheet::side::put_map_line` meets its contract: its parts one after the other. Assumes nothing.
use Rattle.std.proofs.Common.{◌≤◌, length, arith}
use Rattle.text.specs.Put.Laws.{put-put}
use Rattle.draw_sheet.proofs.side.put_map_line.Goals as goal

pub returns-clause-put : goal.returns-clause-put
returns-clause-put c = let room : 0 ≤ length c.args.out.now = omega arith in
    put-put room c.put_bytes-next.ensures c.put_refused_line.ensures.put
