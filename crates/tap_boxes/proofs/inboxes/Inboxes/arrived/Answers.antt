use Rattle.std.proofs.Common.{Some, is_some, not, ap, sym, ◌∙◌}
use Rattle.tap_carry.specs.Arrivals.{no_arrivals}
use Rattle.tap_carry.specs.Inbox.{has_arrived}
use Rattle.tap_boxes.proofs.Lookups.{arrives-in, box-found}
use Rattle.tap_boxes.proofs.inboxes.Inboxes.arrived.Goals as goal

pub returns-in-Some-clause-first : goal.returns-in-Some-clause-first
returns-in-Some-clause-first c = rw (← c.self.view_is)
    (c.in_ok-arrived.ensures.first
    ∙ ap (λ box. not (has_arrived box c.args.from c.args.seq))
    (sym (box-found no_arrivals c.self.inside.boxes.entries c.args.name (Some c.in-Some.inbox.now) (sym c.in-Some.ensures.value))))

pub returns-in-Some-clause-after : goal.returns-in-Some-clause-after
returns-in-Some-clause-after c = rw (← c.self.view_is)
    (arrives-in c.self.inside.boxes.entries (c.get_mut.follows.lender c.arrived.new.self).entries c.args.name c.args.from c.args.seq
    c.in-Some.inbox.now c.arrived.new.self
    (box-found no_arrivals c.self.inside.boxes.entries c.args.name (Some c.in-Some.inbox.now) (sym c.in-Some.ensures.value))
    ((c.get_mut.follows.holds c.arrived.new.self).3 (ap is_some (sym c.in-Some.ensures.value))).0 c.in_ok-arrived.ensures.after)
