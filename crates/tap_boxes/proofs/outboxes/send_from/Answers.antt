use Rattle.std.proofs.Common.{Some, is_some, ap, sym}
use Rattle.tap_packets.specs.Matching.{no_frames}
use Rattle.tap_boxes.proofs.Lookups.{box-found, sends-in}
use Rattle.tap_boxes.proofs.outboxes.send_from.Goals as goal

pub returns-in-Some-clause-after : goal.returns-in-Some-clause-after
returns-in-Some-clause-after c =
    sends-in c.args.boxes.now.entries (c.get_mut.follows.lender c.send.new.self).entries c.args.from c.args.to c.args.frame
    c.in-Some.outbox.now c.send.new.self
    (box-found no_frames c.args.boxes.now.entries c.args.from (Some c.in-Some.outbox.now) (sym c.in-Some.ensures.value))
    ((c.get_mut.follows.holds c.send.new.self).3 (ap is_some (sym c.in-Some.ensures.value))).0 c.in_ok-send.ensures.after
