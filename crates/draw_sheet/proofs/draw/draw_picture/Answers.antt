-- `draw_sheet::draw::draw_picture` is safe, and what goes out first is the front of the picture. Assumes nothing.
use Rattle.std.proofs.Common.{arith}
use Rattle.draw_sheet.specs.Drawn.Laws.{palette-size, front_out}
use Rattle.draw_sheet.proofs.draw.draw_picture.Goals as goal

pub print_front-requires : goal.print_front-requires
print_front-requires c =
    let wide = c.picture_width.ensures c.args.scene.counts.now in
    let tall = c.picture_height.ensures c.args.scene.counts.now in
    front_out c.requires wide tall c.palette_bytes.ensures c.put_front-n.ensures.put
