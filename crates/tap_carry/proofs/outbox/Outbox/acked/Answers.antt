use Rattle.std.proofs.Common.{false, List, ap, ◌∙◌}
use Rattle.std.specs.List.{list_any}
use Rattle.tap_carry.specs.declared.outbox.Await.{Await}
use Rattle.tap_carry.specs.Outbox.{is_await}
use Rattle.tap_carry.specs.OutboxKept.{awaits_of}
use Rattle.tap_carry.proofs.Ways.{pair-updated}
use Rattle.tap_carry.proofs.Awaits.{acked-same, among-awaits, awaits-acked, box_of, found-less, left-awaits, outbox-acked, outbox-left}
use Rattle.tap_carry.proofs.outbox.Outbox.acked.Goals as goal

pub invariant_of-self : goal.invariant_of-self
invariant_of-self c =
    outbox-left c.self.inside.sent.items c.swap_remove-awaited.new.self.keys c.self.inside.last.entries c.self.inside.next
    (outbox-acked c.self.inside.sent.items c.self.inside.ways.keys c.self.inside.last.entries c.self.inside.next c.self.invariant
    c.swap_remove-awaited.new.self.keys c.args.from c.args.seq
    (pair-updated c.self.inside.ways.keys c.swap_remove-awaited.new.self.keys c.args.from c.args.seq false c.swap_remove-awaited.ensures.updates.0)
    c.swap_remove-awaited.result c.swap_remove-awaited.ensures.found c.swap_remove-awaited.ensures.len)
    c.leave_out.new.sent.items c.leave_out.ensures

pub returns-clause-awaited : goal.returns-clause-awaited
returns-clause-awaited c = rw (← c.self.view_is)
    (c.swap_remove-awaited.ensures.found
    ∙ among-awaits c.self.inside.sent.items c.self.inside.ways.keys c.self.inside.last.entries c.self.inside.next c.self.invariant c.args.from c.args.seq)

pub returns-clause-after : goal.returns-clause-after
returns-clause-after c = rw (← c.self.view_is)
    (ap (λ (l : List Await). box_of l c.self.inside.last.entries c.self.inside.next)
    (left-awaits c.self.inside.sent.items c.swap_remove-awaited.new.self.keys c.leave_out.new.sent.items c.leave_out.ensures
    ∙ awaits-acked c.self.inside.sent.items c.self.inside.ways.keys c.self.inside.last.entries c.self.inside.next c.self.invariant
    c.swap_remove-awaited.new.self.keys c.args.from c.args.seq
    (pair-updated c.self.inside.ways.keys c.swap_remove-awaited.new.self.keys c.args.from c.args.seq false c.swap_remove-awaited.ensures.updates.0)))

pub returns-clause-look_up : goal.returns-clause-look_up
returns-clause-look_up c = λ x k. rw (← c.self.view_is)
    (ap (λ (l : List Await). list_any (is_await x k) l)
    (left-awaits c.self.inside.sent.items c.swap_remove-awaited.new.self.keys c.leave_out.new.sent.items c.leave_out.ensures
    ∙ awaits-acked c.self.inside.sent.items c.self.inside.ways.keys c.self.inside.last.entries c.self.inside.next c.self.invariant
    c.swap_remove-awaited.new.self.keys c.args.from c.args.seq
    (pair-updated c.self.inside.ways.keys c.swap_remove-awaited.new.self.keys c.args.from c.args.seq false c.swap_remove-awaited.ensures.updates.0))
    ∙ found-less (awaits_of c.self.inside.sent.items c.self.inside.ways.keys) c.args.from c.args.seq x k)

pub returns-clause-same : goal.returns-clause-same
returns-clause-same c = rw (← c.self.view_is)
    (acked-same c.self.inside.sent.items c.self.inside.ways.keys c.self.inside.last.entries c.self.inside.next c.self.invariant
    c.swap_remove-awaited.new.self.keys c.args.from c.args.seq
    (pair-updated c.self.inside.ways.keys c.swap_remove-awaited.new.self.keys c.args.from c.args.seq false c.swap_remove-awaited.ensures.updates.0)
    c.leave_out.new.sent.items c.leave_out.ensures c.swap_remove-awaited.result c.swap_remove-awaited.ensures.found)
