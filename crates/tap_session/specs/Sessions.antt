-- Sessions, as lists that ascend by their numbers.
use Rattle.std.specs.Prelude.{ℕ, ◌==◌, ◌+◌, ◌-◌, ◌<◌, ◌≤◌, Bool, false, if◌then◌else◌, List, [], ◌∷◌, ◌++◌, All, AllPairs, find, Option, None, Some}
use Rattle.std.specs.List.{filter_map}
use Rattle.tap_session.specs.declared.parent.Parent.{Parent}
use Rattle.tap_session.specs.declared.sessions.Answered.{Answered}
use Rattle.tap_session.specs.declared.sessions.Answered.TheVariants.{Open, Closed, Unknown}
use Rattle.tap_session.specs.Session.{Session, SessionsValue}

-- the open session of this number, if there is one
abbrev pub session_of : List Session → ℕ → Option Session
session_of sessions id = find (λ s. id == s.id) sessions

-- the session that is opened next
abbrev pub next_session : SessionsValue → Parent → ℕ → ℕ → Session
next_session s parent depth waiting = record { id = s.opened + 1; parent = parent; depth = depth; waiting = waiting }

-- the sessions after one more is opened
abbrev pub opened_with : SessionsValue → Parent → ℕ → ℕ → SessionsValue
opened_with s parent depth waiting = record {
  sessions = s.sessions ++ next_session s parent depth waiting ∷ [];
  opened = s.opened + 1;
}

-- a session with one answer more: it waits for one less, and is gone if that was the last one
abbrev pub with_answer : Session → Option Session
with_answer s = if s.waiting == 1 then None else Some (record s { waiting = s.waiting - 1 })

-- the open sessions after an answer to the one of this number
abbrev pub after_answer : ℕ → List Session → List Session
after_answer id sessions = filter_map (λ s. if id == s.id then with_answer s else Some s) sessions

-- the sessions after an answer to the one of this number; no other changes, and as many were opened
abbrev pub answered_at : SessionsValue → ℕ → SessionsValue
answered_at s id = record s { sessions = after_answer id s.sessions }

-- whether one answer more closes this session
abbrev pub closes_next : Option Session → Bool
closes_next None = false
closes_next (Some s) = s.waiting == 1

-- what an answer to this session is told
abbrev pub answer_to : Option Session → Answered
answer_to None = Unknown
answer_to (Some s) = if s.waiting == 1 then Closed s.parent else Open

-- the numbers of the open sessions ascend, each was given, and each session waits for an answer
pub record AreSessions (s : SessionsValue) : Type 0 where
  pub ascending : AllPairs (λ a b. a.id < b.id) s.sessions
  pub given : All (λ a. (1 ≤ a.id) × (a.id ≤ s.opened)) s.sessions
  pub waiting : All (λ a. 1 ≤ a.waiting) s.sessions
