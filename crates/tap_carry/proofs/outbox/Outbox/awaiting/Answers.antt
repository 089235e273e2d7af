use Rattle.tap_carry.proofs.Awaits.{are_awaiting}
use Rattle.tap_carry.proofs.outbox.Outbox.awaiting.Goals as goal

pub returns-clause-valid : goal.returns-clause-valid
returns-clause-valid c = rw (← c.self.view_is)
    (are_awaiting c.self.inside.sent.items c.self.inside.ways.keys c.self.inside.last.entries c.self.inside.next c.self.invariant)
