use Rattle.std.proofs.Common.{arith}
use Rattle.tap_node_common.proofs.Counting.{apart_links, known_few, known_hello}
use Rattle.tap_node_common.proofs.room.has_no_room_for.Goals as goal

pub returns-then-with_sender-links-le-MOST_LINKS : goal.returns-then-with_sender-links-le-MOST_LINKS
returns-then-with_sender-links-le-MOST_LINKS c =
    known_few c.args.known c.requires.valid c.args.from.now c.args.links.now
    (apart_links c.args.links.now c.requires.links.ascending) (omega (arith, c.links.ensures, c.new_links.ensures))

pub returns : goal.returns
returns c =
    rw (c.links.ensures, c.new_links.ensures, c.others_new.ensures)
    (known_hello c.args.known c.requires.valid c.args.from.now c.args.links.now
    (apart_links c.args.links.now c.requires.links.ascending))
