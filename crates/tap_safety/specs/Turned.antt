-- What becomes of the sessions of joins when a frame is taken: in place of what has ended stands what has come.
use Rattle.std.specs.Prelude.{ℕ, ◌==◌, if◌then◌else◌, List, [], ◌∷◌, Option, None, Some, is_none}
use Rattle.tap_session.specs.declared.parent.Parent.{Parent}
use Rattle.tap_session.specs.declared.parent.Parent.TheVariants.{Root, Node}
use Rattle.tap_session.specs.Session.{Session}
use Rattle.tap_wire.specs.declared.frame.Body.{Body}
use Rattle.tap_wire.specs.declared.frame.Body.TheVariants.{Seek, Tell, Heard, Ack}
use Rattle.tap_wire.specs.declared.frame.Frame.{Frame}
use Rattle.tap_rule.specs.Node.{NodeState, join_session_at}
use Rattle.tap_safety.specs.Remembered.{OpenSession, Token}
use Rattle.tap_safety.specs.Remembered.Token.{Child}
use Rattle.tap_safety.specs.Sessions.{for_child, for_way, is_place, session_named, ways_of}
use Rattle.tap_safety.specs.Exchanges.{with_at}

-- a frame that is taken: its number, the node before and after, and the frames that are sent, with their numbers
pub record Taking : Type 0 where
  pub number : ℕ
  pub frame : Frame
  pub before : NodeState
  pub after : NodeState
  pub sent : List (ℕ × Frame)

-- ---- what the step did with the node's own sessions

-- the session that it opened, if it opened one
abbrev pub opened_by : Taking → Option Session
opened_by t =
    if t.after.sessions.opened == t.before.sessions.opened then None else join_session_at t.after t.after.sessions.opened

-- the number of the session that it closed, if it closed one
abbrev pub closed_by : Body → NodeState → Option ℕ
closed_by (Heard session) after = if is_none (join_session_at after session) then Some session else None
closed_by (Ack session) after = if is_none (join_session_at after session) then Some session else None
closed_by other after = None

-- whose the session is that is opened for such a frame
abbrev pub joiner_of : Body → List ℕ
joiner_of (Seek joiner) = joiner
joiner_of (Tell joiner prefix level session depth watch) = joiner
joiner_of other = []

-- the session that this one answers in the end, if it isn't the root
abbrev pub place_above : Parent → Option (List ℕ × ℕ)
place_above (Root joiner) = None
place_above (Node name session) = Some (name, session)

-- ---- surrogates

-- who opens the root session of a joiner is its surrogate
abbrev pub seated : (List ℕ → Option (List ℕ)) → List ℕ → Parent → List ℕ → Option (List ℕ)
seated surrogates x (Root joiner) = with_at surrogates joiner (Some x)
seated surrogates x (Node name session) = surrogates

abbrev pub surrogates_with : (List ℕ → Option (List ℕ)) → List ℕ → Option Session → List ℕ → Option (List ℕ)
surrogates_with surrogates x None = surrogates
surrogates_with surrogates x (Some session) = seated surrogates x session.parent

-- ---- sessions by node and number

-- in this place stands this
abbrev pub session_put : (List ℕ → ℕ → Option OpenSession) → List ℕ → ℕ → Option OpenSession → List ℕ → ℕ → Option OpenSession
session_put sessions x k session y m = if is_place x k y m then session else sessions y m

-- what a session awaits is changed so, if it is open
abbrev pub awaits_changed : (List Token → List Token) → Option OpenSession → Option OpenSession
awaits_changed change None = None
awaits_changed change (Some session) = Some (record session { awaits = change session.awaits })

-- the session in this place awaits something else
abbrev pub awaits_put : (List ℕ → ℕ → Option OpenSession) → List ℕ → ℕ → (List Token → List Token) → List ℕ → ℕ → Option OpenSession
awaits_put sessions x k change = session_put sessions x k (awaits_changed change (sessions x k))

-- in place of the frame stands the session that was opened for it, or else what is sent in its session
abbrev pub stands_for : Taking → Option Session → List ℕ → ℕ → List Token
stands_for t None w k = ways_of w k t.sent
stands_for t (Some session) w k = Child t.frame.to session.id ∷ []

abbrev pub handed_on : (List ℕ → ℕ → Option OpenSession) → Taking → Option (List ℕ × ℕ) → List ℕ → ℕ → Option OpenSession
handed_on sessions t None = sessions
handed_on sessions t (Some (w, k)) = awaits_put sessions w k (for_way t.number (stands_for t (opened_by t) w k))

-- in place of a session that is closed stands what is sent in the one above it
abbrev pub passed_up : (List ℕ → ℕ → Option OpenSession) → Taking → ℕ → Option (List ℕ × ℕ) → List ℕ → ℕ → Option OpenSession
passed_up sessions t k None = sessions
passed_up sessions t k (Some (w, m)) = awaits_put sessions w m (for_child t.frame.to k (ways_of w m t.sent))

abbrev pub parent_in : Option OpenSession → Option (List ℕ × ℕ)
parent_in None = None
parent_in (Some session) = session.parent

abbrev pub with_closed : (List ℕ → ℕ → Option OpenSession) → Taking → Option ℕ → List ℕ → ℕ → Option OpenSession
with_closed sessions t None = sessions
with_closed sessions t (Some k) =
    session_put (passed_up sessions t k (parent_in (sessions t.frame.to k))) t.frame.to k None

-- a session that is opened awaits the frames that are sent in it
abbrev pub remembered_as : Taking → Session → OpenSession
remembered_as t session = record {
  joiner = joiner_of t.frame.body;
  parent = place_above session.parent;
  depth = session.depth;
  awaits = ways_of t.frame.to session.id t.sent;
}

abbrev pub with_opened : (List ℕ → ℕ → Option OpenSession) → Taking → Option Session → List ℕ → ℕ → Option OpenSession
with_opened sessions t None = sessions
with_opened sessions t (Some session) = session_put sessions t.frame.to session.id (Some (remembered_as t session))

-- the open sessions after the frame is taken
abbrev pub sessions_with : (List ℕ → ℕ → Option OpenSession) → Taking → List ℕ → ℕ → Option OpenSession
sessions_with sessions t =
    with_opened
    (with_closed (handed_on sessions t (session_named t.frame.body t.frame.from t.frame.to)) t (closed_by t.frame.body t.after))
    t (opened_by t)
