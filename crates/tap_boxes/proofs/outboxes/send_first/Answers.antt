use Rattle.std.proofs.Common.{None, sym, ◌∙◌}
use Rattle.tap_packets.specs.Matching.{no_frames}
use Rattle.tap_boxes.proofs.Lookups.{box-found, sends-in}
use Rattle.tap_boxes.proofs.outboxes.send_first.Goals as goal

pub returns-clause-after : goal.returns-clause-after
returns-clause-after c =
    sends-in c.args.boxes.now.entries c.insert.new.self.entries c.args.from c.args.to c.args.frame c.new-outbox.result c.send.new.self
    (box-found no_frames c.args.boxes.now.entries c.args.from None c.requires.none ∙ sym c.new-outbox.ensures)
    c.in_ok-insert.ensures.updates.0
    c.in_ok-seq.ensures.after
