-- What the open sessions of a map keep, by number, as a list of sessions.
use Rattle.std.specs.Prelude.{ℕ, ◌≤◌, List, map, All}
use Rattle.std.specs.Map.{keys_of, values_of}
use Rattle.tap_session.specs.declared.sessions.Awaited.{Awaited}
use Rattle.tap_session.specs.Session.{Session, most_sessions}

-- the session of this number
abbrev pub session : ℕ → Awaited → Session
session id a = record { id = id; parent = a.parent; depth = a.depth; waiting = a.waiting }

-- the sessions, in the order of the entries
abbrev pub sessions_of : List (ℕ × Awaited) → List Session
sessions_of entries = map (λ e. session e.0 e.1) entries

-- each number was given, each session waits for an answer, and no more were opened than may be
pub record AreAwaiting (entries : List (ℕ × Awaited)) (opened : ℕ) : Type 0 where
  pub given : All (λ id. (1 ≤ id) × (id ≤ opened)) (keys_of entries)
  pub waiting : All (λ a. 1 ≤ a.waiting) (values_of entries)
  pub few : opened ≤ most_sessions
