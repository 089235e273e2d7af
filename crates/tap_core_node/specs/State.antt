-- What a core node keeps, as the state of a node.
--
-- Rule: docs/PROTOCOL.md, "Nodes".
use Rattle.tap_rule.specs.Node.{NodeState}
use Rattle.tap_node_common.specs.States.{core_state_of}
use Rattle.tap_core_node.specs.declared.core_node.CoreNode.{CoreNode}

-- a core node
abbrev pub core_state : CoreNode → NodeState
core_state node = core_state_of node.core node.parts
