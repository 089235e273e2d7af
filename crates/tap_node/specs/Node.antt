-- What contracts see of a node, and what its calls answer.
--
-- Rule: docs/PROTOCOL.md, "Nodes" and "Steps of a node" and "Refused frames".
use Rattle.std.specs.Prelude.{ℕ, ◌||◌, Bool, true, false, if◌then◌else◌, length, Option, None, Some}
use Rattle.tap_table.specs.Table.{TableValue}
use Rattle.tap_table.specs.Ties.{holders_on}
use Rattle.tap_pointer.specs.Pointers.{PointersValue}
use Rattle.tap_rule.specs.Node.{NodeState, Status}
use Rattle.tap_rule.specs.Node.Status.{Joining, Core, Leaving, Gone, Ceased}
use Rattle.tap_node_common.specs.SoundNode.{has_numbers_left}
use Rattle.tap_node.specs.declared.status.NodeStatus.{NodeStatus}
use Rattle.tap_node.specs.declared.status.NodeStatus.TheVariants as seen

-- its state, and whether memory was refused in an earlier step; what its state is then isn't said, but for its name and the
-- settings
pub record NodeValue : Type 0 where
  pub state : NodeState
  pub ended : Bool

-- a node of this state that takes steps, and one that takes none any more
abbrev pub running : NodeState → NodeValue
running node = record { state = node; ended = false }

abbrev pub stopped : NodeState → NodeValue
stopped node = record { state = node; ended = true }

-- the status as a caller sees it
abbrev pub status_seen : Status → NodeStatus
status_seen Joining = seen.Joining
status_seen Core = seen.Core
status_seen Leaving = seen.Leaving
status_seen Gone = seen.Gone
status_seen Ceased = seen.Ceased

abbrev pub node_status : NodeValue → NodeStatus
node_status node = if node.ended then seen.Ended else status_seen node.state.status

-- a node that has a table and pointers
abbrev pub is_linked : Status → Bool
is_linked Joining = true
is_linked Core = true
is_linked Leaving = true
is_linked Gone = false
is_linked Ceased = false

abbrev pub lends_table : NodeValue → Bool
lends_table node = if node.ended then false else is_linked node.state.status

-- its table, and what it knows of pairs, unless it is gone, has ceased or takes no steps any more
abbrev pub table_lent : NodeValue → Option TableValue
table_lent node = if lends_table node then Some node.state.ties.table else None

abbrev pub pointers_lent : NodeValue → Option PointersValue
pointers_lent node = if lends_table node then Some node.state.pointers else None

-- how many nodes have a link to it, as far as it knows
abbrev pub holders_lent : NodeValue → Option ℕ
holders_lent node = if lends_table node then Some (length (holders_on node.state.ties)) else None

-- numbers are left for a step, or it takes none any more
abbrev pub has_room_left : NodeValue → Bool
has_room_left node = node.ended || has_numbers_left node.state
