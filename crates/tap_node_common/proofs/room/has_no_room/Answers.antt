use Rattle.tap_node_common.proofs.Counting.{known_one}
use Rattle.tap_node_common.proofs.room.has_no_room.Goals as goal

pub returns : goal.returns
returns c = rw (c.links.ensures, c.new_links.ensures) (known_one c.args.known c.requires.valid c.args.name.now)
