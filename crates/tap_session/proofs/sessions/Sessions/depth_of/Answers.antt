use Rattle.std.proofs.Common.{rules}
use Rattle.tap_session.proofs.Entries.{session_of-sessions_of}
use Rattle.tap_session.proofs.sessions.Sessions.depth_of.Goals as goal

pub returns : goal.returns
returns c = rw (← c.self.view_is, session_of-sessions_of c.self.inside.awaited.entries c.args.id, ← c.get.ensures.value) (search rules)
