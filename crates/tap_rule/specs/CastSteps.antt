-- What Cast and CastAck change of the casts of a core node.
use Rattle.std.specs.Prelude.{◌≡◌, ◌⊎◌, ℕ, ◌+◌, ◌-◌, ◌<◌, Bool, true, false, List, [], ◌∷◌, ◌++◌, length, map, Option, None, Some}
use Rattle.tap_session.specs.declared.parent.Parent.{Parent}
use Rattle.tap_session.specs.declared.parent.Parent.TheVariants.{Root, Node}
use Rattle.tap_session.specs.Session.{Session}
use Rattle.tap_session.specs.Sessions.{opened_with, session_of}
use Rattle.tap_cast.specs.declared.casts.CastTurn.{CastTurn}
use Rattle.tap_cast.specs.declared.casts.CastTurn.TheVariants.{Already, Now}
use Rattle.tap_cast.specs.declared.target.CastTarget.{CastTarget}
use Rattle.tap_cast.specs.Casts.{turn_of, with_cast}
use Rattle.tap_wire.specs.declared.frame.Body.TheVariants.{Cast, CastAck}
use Rattle.tap_rule.specs.Node.{NodeState, name_of}
use Rattle.tap_rule.specs.Event.{Acted}
use Rattle.tap_rule.specs.Event.News.{Nothing}
use Rattle.tap_rule.specs.Reaction.{Message, message}
use Rattle.tap_rule.specs.Casts.{Copy, cast_news, cast_of}
use Rattle.tap_rule.specs.Sending.{message_frame}
use Rattle.tap_rule.specs.Sent.{IsAmong}
use Rattle.tap_rule.specs.Completed.{IsCompleted}
use Rattle.tap_rule.specs.LinkSteps.{IsNotLast}

-- the open session of casts of a number, if there is one
abbrev pub cast_session_at : NodeState → ℕ → Option Session
cast_session_at node number = session_of node.cast_sessions.sessions number

-- the parent of a cast's session is told: a session of another node by a CastAck, and at the root the cast is closed
abbrev pub IsCastAnswered : NodeState → Parent → ℕ → Bool → Acted → Type 0
IsCastAnswered node (Root name) cast reached acted = acted.news ≡ cast_news cast reached true
IsCastAnswered node (Node name session) cast reached acted =
    (acted.news ≡ cast_news cast reached false) × IsAmong (message_frame (name_of node) (message name (CastAck session))) acted.sent

-- and this answer and Lays are all that is sent; a root is sent nothing
abbrev pub IsOnlyAnswered : NodeState → Parent → Acted → Type 0
IsOnlyAnswered node (Root name) acted = IsCompleted node node.pointers [] [] acted.news acted
IsOnlyAnswered node (Node name session) acted =
    IsCompleted node node.pointers [] (message name (CastAck session) ∷ []) acted.news acted

-- the copies of a cast for these targets, in a session that is opened now
abbrev pub copies_for : NodeState → Copy → List CastTarget → List Message
copies_for node copy targets =
    map (λ target. message target.to
    (Cast copy.cast target.level (node.cast_sessions.opened + 1) (copy.depth + 1) copy.word)) targets

-- the targets are sent the cast, in a session that waits for them; without targets the parent is told at once
abbrev pub CastSpread : NodeState → Copy → Bool → List CastTarget → Acted → Type 0
CastSpread node copy first [] acted =
    (acted.state.cast_sessions ≡ node.cast_sessions) × IsCastAnswered node copy.parent copy.cast first acted
    × (acted.state.cast_numbers ≡ node.cast_numbers) × IsOnlyAnswered node copy.parent acted
CastSpread node copy first (one ∷ others) acted =
    (acted.state.cast_sessions ≡ opened_with node.cast_sessions copy.parent copy.depth (length (one ∷ others)))
    × (acted.state.cast_numbers ≡ node.cast_numbers ++ copy.cast ∷ []) × (acted.news ≡ cast_news copy.cast first false)
    × ((target : CastTarget) → IsAmong target (one ∷ others) → IsAmong (message_frame (name_of node) (message target.to
    (Cast copy.cast target.level (node.cast_sessions.opened + 1) (copy.depth + 1) copy.word))) acted.sent)
    × IsCompleted node node.pointers [] (copies_for node copy (one ∷ others)) acted.news acted

-- a copy of a cast that is there already is answered; of another one the level is kept, and it is sent on
abbrev pub CastsAs : NodeState → Copy → Acted → CastTurn → Type 0
CastsAs node copy acted Already =
    (acted.state.casts ≡ node.casts) × (acted.state.cast_sessions ≡ node.cast_sessions)
    × ((name : List ℕ) (session : ℕ) → copy.parent ≡ Node name session
    → IsAmong (message_frame (name_of node) (message name (CastAck session))) acted.sent)
    × (acted.state.cast_numbers ≡ node.cast_numbers) × (acted.news ≡ Nothing) × IsOnlyAnswered node copy.parent acted
CastsAs node copy acted (Now first targets) =
    (acted.state.casts ≡ with_cast node.casts copy.cast copy.level) × CastSpread node copy first targets acted

abbrev pub CastStep : NodeState → Copy → Acted → Type 0
CastStep node copy acted = CastsAs node copy acted (turn_of node.casts node.ties.table copy.cast copy.level)

-- CastAck, in a session: only this one may change, and its last answer is passed on
pub record CastAckStep (node : NodeState) (session : ℕ) (acted : Acted) : Type 0 where
  pub casts : acted.state.casts ≡ node.casts
  pub others : (number : ℕ) → (number ≡ session) ⊎ (cast_session_at acted.state number ≡ cast_session_at node number)
  pub unknown : cast_session_at node session ≡ None → acted.state.cast_sessions ≡ node.cast_sessions
  pub goes_on : (s : Session) → cast_session_at node session ≡ Some s → 1 < s.waiting
      → cast_session_at acted.state session ≡ Some (record s { waiting = s.waiting - 1 })
  pub closes : (s : Session) → cast_session_at node session ≡ Some s → s.waiting ≡ 1
      → (cast_session_at acted.state session ≡ None) × IsCastAnswered node s.parent (cast_of node session) false acted
  pub opened : acted.state.cast_sessions.opened ≡ node.cast_sessions.opened
  pub numbers : acted.state.cast_numbers ≡ node.cast_numbers
  pub silent : IsNotLast (cast_session_at node session) → IsCompleted node node.pointers [] [] Nothing acted
  pub answers : (s : Session) → cast_session_at node session ≡ Some s → s.waiting ≡ 1 → IsOnlyAnswered node s.parent acted
