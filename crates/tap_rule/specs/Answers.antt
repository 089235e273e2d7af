-- Answers to the sessions of joins: Heard and Ack, at a joining, core or ceased node.
--
-- A Heard or an Ack: `takes_heard_or_ack`, then `answer_sends`, then `answer_for`.
--
-- Rule: docs/PROTOCOL.md, "Heard and Ack".
use Rattle.std.specs.Prelude.{ℕ, ◌+◌, List, [], ◌∷◌}
use Rattle.tap_session.specs.Session.{Depth, SessionNumber}
use Rattle.tap_session.specs.declared.parent.Parent.{Parent}
use Rattle.tap_session.specs.declared.parent.Parent.TheVariants.{Root, Node}
use Rattle.tap_session.specs.declared.sessions.Answered.{Answered}
use Rattle.tap_session.specs.declared.sessions.Answered.TheVariants.{Open, Closed, Unknown}
use Rattle.tap_session.specs.Sessions.{answer_to, answered_at, opened_with}
use Rattle.tap_wire.specs.declared.frame.Body.TheVariants.{Ack, Done}
use Rattle.tap_rule.specs.Node.{NodeState, join_session_at}
use Rattle.tap_rule.specs.Reaction.{Message, Reaction, message, sends}

-- what the parent of a session is sent once this has closed: an Ack, and at the root the joiner its Done
abbrev pub answer_for : Parent → Message
answer_for (Root joiner) = message joiner Done
answer_for (Node name session) = message name (Ack session)

-- what an answer makes a node send: something if it was the last one
abbrev pub answer_sends : Answered → List Message
answer_sends Open = []
answer_sends (Closed parent) = answer_for parent ∷ []
answer_sends Unknown = []

-- Heard or Ack: the session of this number has one answer more
abbrev pub takes_heard_or_ack : NodeState → SessionNumber → Reaction
takes_heard_or_ack node session =
    sends (record node { sessions = answered_at node.sessions session })
    (answer_sends (answer_to (join_session_at node session)))

-- the number of the session that is opened next, and the node once it is open
abbrev pub next_number : NodeState → SessionNumber
next_number node = node.sessions.opened + 1

abbrev pub with_session : NodeState → Parent → Depth → ℕ → NodeState
with_session node parent depth waiting = record node { sessions = opened_with node.sessions parent depth waiting }
