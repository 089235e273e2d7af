-- What the sessions of a node are seen as.
use Rattle.std.specs.Prelude.{ℕ, List}
use Rattle.tap_session.specs.declared.parent.Parent.{Parent}

-- the number of a session, of joins or of casts, at its node
abbrev pub SessionNumber : Type 0
SessionNumber = ℕ

-- the depth of a session: how many others there are from it to the root
abbrev pub Depth : Type 0
Depth = ℕ

-- an open session: its number, who is told when it closes, its depth, and how many answers it waits for
pub record Session : Type 0 where
  pub id : ℕ
  pub parent : Parent
  pub depth : ℕ
  pub waiting : ℕ

-- the open sessions, ascending by number, and how many were ever opened
pub record SessionsValue : Type 0 where
  pub sessions : List Session
  pub opened : ℕ

-- how many sessions a node may open
abbrev pub most_sessions : ℕ
most_sessions = 500001
