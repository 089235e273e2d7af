use Rattle.tap_session.proofs.Entries.{are_sessions}
use Rattle.tap_session.proofs.sessions.Sessions.open_count.Goals as goal

pub returns-clause-valid : goal.returns-clause-valid
returns-clause-valid c =
    rw (← c.self.view_is) (are_sessions c.self.inside.awaited.entries c.self.inside.opened c.len.ensures.ordered c.self.invariant)
