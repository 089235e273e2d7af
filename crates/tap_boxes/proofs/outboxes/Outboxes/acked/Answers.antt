use Rattle.std.proofs.Common.{◌≡◌, ◌≤◌, ℕ, true, List, Some, IsTrue, is_some, ap, sym, ◌∙◌, subst}
use Rattle.tap_carry.specs.Outbox.{OutboxValue, awaits_one}
use Rattle.tap_packets.specs.Matching.{no_frames}
use Rattle.tap_boxes.specs.Boxes.{OutboxesValue, outbox_of}
use Rattle.tap_boxes.proofs.Lookups.{acked-in, box-found}
use Rattle.tap_boxes.proofs.outboxes.Outboxes.acked.Goals as goal

-- if the outbox awaits it, it is counted
counted : (outboxes : OutboxesValue) (name from : List ℕ) (seq : ℕ) (box : OutboxValue) → outbox_of outboxes name ≡ box
    → awaits_one box from seq ≡ true → (IsTrue (awaits_one (outbox_of outboxes name) from seq) → 1 ≤ outboxes.awaiting)
    → 1 ≤ outboxes.awaiting
counted outboxes name from seq box is awaits count = count (ap (λ b. awaits_one b from seq) is ∙ awaits)

pub overflow_sub-self : goal.overflow_sub-self
overflow_sub-self c =
    let inside : OutboxesValue = record { boxes = c.self.inside.boxes.entries; awaiting = c.self.inside.awaiting } in
    counted inside c.args.name.now c.args.from c.args.seq c.in-Some.outbox.now (box-found no_frames c.self.inside.boxes.entries c.args.name.now (Some c.in-Some.outbox.now) (sym c.in-Some.ensures.value))
    (sym c.acked.ensures.awaited ∙ c.if-acked.true)
    (subst (λ (o : OutboxesValue). IsTrue (awaits_one (outbox_of o c.args.name.now) c.args.from c.args.seq) → 1 ≤ o.awaiting)
    (sym c.self.view_is) c.requires)

pub returns-then-acked-clause-after : goal.returns-then-acked-clause-after
returns-then-acked-clause-after c = rw (← c.self.view_is)
    (acked-in c.self.inside.boxes.entries (c.get_mut.follows.lender c.acked.new.self).entries c.args.name.now c.args.from c.args.seq
    c.in-Some.outbox.now c.acked.new.self (box-found no_frames c.self.inside.boxes.entries c.args.name.now (Some c.in-Some.outbox.now) (sym c.in-Some.ensures.value))
    ((c.get_mut.follows.holds c.acked.new.self).3 (ap is_some (sym c.in-Some.ensures.value))).0 c.acked.ensures.after)

pub returns-else-acked-clause-after : goal.returns-else-acked-clause-after
returns-else-acked-clause-after c = rw (← c.self.view_is)
    (acked-in c.self.inside.boxes.entries (c.get_mut.follows.lender c.acked.new.self).entries c.args.name.now c.args.from c.args.seq
    c.in-Some.outbox.now c.acked.new.self (box-found no_frames c.self.inside.boxes.entries c.args.name.now (Some c.in-Some.outbox.now) (sym c.in-Some.ensures.value))
    ((c.get_mut.follows.holds c.acked.new.self).3 (ap is_some (sym c.in-Some.ensures.value))).0 c.acked.ensures.after)
