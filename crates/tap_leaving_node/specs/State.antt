-- What a leaving node keeps, as the state of a node.
--
-- Rule: docs/PROTOCOL.md, "Nodes".
use Rattle.tap_rule.specs.Node.{NodeState}
use Rattle.tap_node_common.specs.States.{leaving_state_of}
use Rattle.tap_leaving_node.specs.declared.leaving_node.LeavingNode.{LeavingNode}

-- a node that leaves
abbrev pub leaving_state : LeavingNode → NodeState
leaving_state node = leaving_state_of node.leaving.ties node.leaving.awaited node.parts
