-- What a node that joins keeps, and what is left of it once it has joined, as the state of a node.
--
-- Rule: docs/PROTOCOL.md, "Nodes".
use Rattle.tap_rule.specs.Node.{NodeState, joiner}
use Rattle.tap_node_common.specs.States.{newly_core}
use Rattle.tap_joining_node.specs.declared.joining_node.Joined.{Joined}
use Rattle.tap_joining_node.specs.declared.joining_node.JoiningNode.{JoiningNode}

-- a node that joins
abbrev pub joining_state : JoiningNode → NodeState
joining_state node = record (joiner node.joining.ties.table.settings node.joining.ties.table.owner) {
  ties = node.joining.ties;
  stamp = node.stamp;
  sessions = node.sessions;
  greeted = node.joining.greeted;
  abandoned = node.joining.abandoned;
  pointers = node.pointers;
}

-- the core node that has just joined
abbrev pub core_joined : Joined → NodeState
core_joined joined = newly_core joined.core joined.stamp joined.sessions joined.pointers
