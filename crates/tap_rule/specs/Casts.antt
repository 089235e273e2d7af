-- Casts: the start, Cast and CastAck.
--
-- The start: `starts_cast`, then `casts`. A Cast: `takes_cast`, then `casts`. Both go on with `casts_as` and `cast_spreads`. A Cast at a
-- joining or ceased node: `takes_cast_outside`. A CastAck: `takes_cast_ack`, then `takes_cast_ack_as`.
--
-- Rule: docs/PROTOCOL.md, "Cast" and "CastAck".
use Rattle.std.specs.Prelude.{ℕ, ◌+◌, ◌-◌, ◌||◌, Bool, true, false, if◌then◌else◌, List, [], ◌∷◌, ◌++◌, length, map}
use Rattle.std.specs.List.{slice_index_or}
use Rattle.tap_name.specs.Name.{Name}
use Rattle.tap_name.specs.Prefix.{Level}
use Rattle.tap_session.specs.Session.{Depth, SessionNumber}
use Rattle.tap_session.specs.declared.parent.Parent.{Parent}
use Rattle.tap_session.specs.declared.parent.Parent.TheVariants.{Root, Node}
use Rattle.tap_session.specs.declared.sessions.Answered.{Answered}
use Rattle.tap_session.specs.declared.sessions.Answered.TheVariants.{Open, Closed, Unknown}
use Rattle.tap_session.specs.Sessions.{answer_to, answered_at, opened_with, session_of}
use Rattle.tap_cast.specs.declared.casts.CastTurn.{CastTurn}
use Rattle.tap_cast.specs.declared.casts.CastTurn.TheVariants.{Already, Now}
use Rattle.tap_cast.specs.declared.target.CastTarget.{CastTarget}
use Rattle.tap_cast.specs.Casts.{CastNumber, turn_of, with_cast}
use Rattle.tap_wire.specs.declared.frame.Body.TheVariants.{Cast, CastAck}
use Rattle.tap_rule.specs.Node.{NodeState, name_of}
use Rattle.tap_rule.specs.Event.{News}
use Rattle.tap_rule.specs.Event.News.{Nothing, Cast as CastNews}
use Rattle.tap_rule.specs.Reaction.{Message, Reaction, message, sends, with_news}

-- a copy of a cast: its number, the level, who is answered in the end, the depth, and the word
pub record Copy : Type 0 where
  pub cast : CastNumber
  pub level : Level
  pub parent : Parent
  pub depth : Depth
  pub word : List ℕ

-- whether a parent is the root: then the cast is closed, and nobody is answered
abbrev pub is_root : Parent → Bool
is_root (Root name) = true
is_root (Node name session) = false

abbrev pub cast_answer : Parent → List Message
cast_answer (Root name) = []
cast_answer (Node name session) = message name (CastAck session) ∷ []

-- the news of a cast, if it has reached the node or is closed
abbrev pub cast_news : CastNumber → Bool → Bool → News
cast_news cast reached closed = if reached || closed then CastNews cast reached closed else Nothing

-- the number of the session that is opened next, and the node once it is open
abbrev pub next_cast_session : NodeState → SessionNumber
next_cast_session node = node.cast_sessions.opened + 1

abbrev pub with_cast_session : NodeState → Copy → ℕ → NodeState
with_cast_session node copy waiting = record node {
  cast_sessions = opened_with node.cast_sessions copy.parent copy.depth waiting;
  cast_numbers = node.cast_numbers ++ copy.cast ∷ [];
}

-- the Cast for a target
abbrev pub cast_for : Copy → SessionNumber → CastTarget → Message
cast_for copy session target = message target.to (Cast copy.cast target.level session (copy.depth + 1) copy.word)

-- the targets are sent the cast, in a session that waits for them; without targets the parent is answered at once
abbrev pub cast_spreads : NodeState → Copy → Bool → List CastTarget → Reaction
cast_spreads node copy first [] =
    with_news (cast_news copy.cast first (is_root copy.parent)) (sends node (cast_answer copy.parent))
cast_spreads node copy first (target ∷ targets) =
    with_news (cast_news copy.cast first false)
    (sends (with_cast_session node copy (length (target ∷ targets)))
    (map (cast_for copy (next_cast_session node)) (target ∷ targets)))

-- a node that keeps a level of at most the copy's answers at once, and another one casts
abbrev pub casts_as : NodeState → Copy → CastTurn → Reaction
casts_as node copy Already = sends node (cast_answer copy.parent)
casts_as node copy (Now first targets) =
    cast_spreads (record node { casts = with_cast node.casts copy.cast copy.level }) copy first targets

abbrev pub casts : NodeState → Copy → Reaction
casts node copy = casts_as node copy (turn_of node.casts node.ties.table copy.cast copy.level)

-- the start of a cast, at a core node, which is the root of its sessions
abbrev pub starts_cast : NodeState → CastNumber → Level → List ℕ → Reaction
starts_cast node cast level word =
    casts node (record { cast = cast; level = level; parent = Root (name_of node); depth = 0; word = word })

-- Cast, at a core node
abbrev pub takes_cast : NodeState → Name → CastNumber → Level → SessionNumber → Depth → List ℕ → Reaction
takes_cast node from cast level session depth word =
    casts node (record { cast = cast; level = level; parent = Node from session; depth = depth; word = word })

-- Cast, at a joining or ceased node: it is answered
abbrev pub takes_cast_outside : NodeState → Name → SessionNumber → Reaction
takes_cast_outside node from session = sends node (message from (CastAck session) ∷ [])

-- the cast of a session
abbrev pub cast_of : NodeState → SessionNumber → CastNumber
cast_of node session = slice_index_or node.cast_numbers (session - 1) 0

-- what an answer does in a session of this cast: the last one is passed on, and at the root the cast is closed
abbrev pub takes_cast_ack_as : NodeState → CastNumber → Answered → Reaction
takes_cast_ack_as node cast Open = sends node []
takes_cast_ack_as node cast (Closed parent) =
    with_news (cast_news cast false (is_root parent)) (sends node (cast_answer parent))
takes_cast_ack_as node cast Unknown = sends node []

-- CastAck, at a core node: the session of this number has one answer more
abbrev pub takes_cast_ack : NodeState → SessionNumber → Reaction
takes_cast_ack node session =
    takes_cast_ack_as (record node { cast_sessions = answered_at node.cast_sessions session }) (cast_of node session)
    (answer_to (session_of node.cast_sessions.sessions session))
