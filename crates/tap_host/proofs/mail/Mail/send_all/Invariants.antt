use Rattle.std.proofs.Common.{◌≡◌, ◌+◌, ◌≤◌, length}
use Rattle.std.specs.Vec.Iter.{into_iter_items}
use Rattle.tap_carry.specs.Outbox.{most_frames}
use Rattle.tap_host.specs.Mail.{mail_seen, posts}
use Rattle.tap_host.proofs.mail.Mail.send_all.Given as goal

abbrev pub invariant-loop-frame : goal.invariant-loop-frame
invariant-loop-frame l = record {
  posted : posts l.settings (mail_seen l.self, l.out.items) (into_iter_items l.frame-iterator)
      ≡ posts l.settings (mail_seen l.initial.self, l.initial.out.items) l.fn.frames.items;
  room : l.self.sent + length (into_iter_items l.frame-iterator) ≤ most_frames;
}
