-- `list_map::list::list_map`: what it prints is the listing of what reading left. Assumes nothing.
use Rattle.text.specs.Put.Laws.{put_front}
use Rattle.list_map.specs.Listed.Laws.{listed-map}
use Rattle.list_map.proofs.list.list_map.Goals as goal

pub print_map-requires : goal.print_map-requires
print_map-requires c = listed-map c.args.group c.args.bytes.now c.args.total c.args.counts.now c.read_map-answer.result
    c.told-counts c.read_map-answer.ensures (put_front c.put_listing-n.ensures.put)
