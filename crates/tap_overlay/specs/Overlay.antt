-- What contracts see of an overlay: its nodes by name, and those nodes as a walk reads them.
--
-- Rule: docs/PROTOCOL.md, "Nodes".
use Rattle.std.specs.Prelude.{◌≡◌, ◌≢◌, ℕ, Bool, true, false, if◌then◌else◌, List, Option, None, Some, option_and_then}
use Rattle.std.specs.BTreeMap.{is_at}
use Rattle.std.specs.List.Sorted.{IsSorted}
use Rattle.std.specs.Map.{keys_of, lookup}
use Rattle.tap_name.specs.Names.{has_name}
use Rattle.tap_name.specs.Order.{name_cmp}
use Rattle.tap_name.specs.Settings.{SettingsValue}
use Rattle.tap_surrogate.specs.Nodes.{Nodes}
use Rattle.tap_rule.specs.Node.{member_at_rest, name_of, settings_of}
use Rattle.tap_node.specs.declared.status.NodeStatus.{NodeStatus}
use Rattle.tap_node.specs.declared.status.NodeStatus.TheVariants.{Joining, Core, Leaving, Gone, Ceased, Ended}
use Rattle.tap_node.specs.Node.{NodeValue, node_status, running, table_lent}

-- what the names have in common, and the nodes, each under its name, ascending
pub record OverlayValue : Type 0 where
  pub settings : SettingsValue
  pub nodes : List (List ℕ × NodeValue)

-- the node of a name, if it is among these
abbrev pub node_among : List (List ℕ × NodeValue) → List ℕ → Option NodeValue
node_among nodes name = lookup (is_at (name_cmp name)) nodes

-- the node of a name, if there is one
abbrev pub node_at : OverlayValue → List ℕ → Option NodeValue
node_at o name = node_among o.nodes name

-- ---- names

-- the node has this name and these settings
pub record HasNameAndSettings (p : SettingsValue) (name : List ℕ) (node : NodeValue) : Type 0 where
  pub name_is : name_of node.state ≡ name
  pub settings_are : settings_of node.state ≡ p

-- the node under each name has that name
abbrev pub HaveOwnNames : SettingsValue → List (List ℕ × NodeValue) → Type 0
HaveOwnNames p nodes = (name : List ℕ) (node : NodeValue) → node_among nodes name ≡ Some node → HasNameAndSettings p name node

-- the nodes ascend by name, and the node under each name has that name
pub record AreNodesOf (p : SettingsValue) (nodes : List (List ℕ × NodeValue)) : Type 0 where
  pub own : HaveOwnNames p nodes
  pub ascending : IsSorted name_cmp (keys_of nodes)

-- ---- at rest

-- the member of a name as it is at rest, if it is one
abbrev pub member_at : SettingsValue → List (List ℕ) → List ℕ → Option NodeValue
member_at p members name = if has_name members name then Some (running (member_at_rest p members name)) else None

-- each of the members is there at rest, and nobody else
pub record IsAtRest (p : SettingsValue) (members : List (List ℕ)) (o : OverlayValue) : Type 0 where
  pub settings_are : o.settings ≡ p
  pub nodes_are : (name : List ℕ) → node_at o name ≡ member_at p members name

-- ---- changes

-- this is the node of the name afterwards, and every other name has what it had
pub record ChangesOnly (before after : List (List ℕ × NodeValue)) (name : List ℕ) (node : NodeValue) : Type 0 where
  pub here : node_among after name ≡ Some node
  pub others : (other : List ℕ) → other ≢ name → node_among after other ≡ node_among before other

-- ---- walks

-- a leaving node counts as core
abbrev pub is_core_node_status : NodeStatus → Bool
is_core_node_status Joining = false
is_core_node_status Core = true
is_core_node_status Leaving = true
is_core_node_status Gone = false
is_core_node_status Ceased = false
is_core_node_status Ended = false

-- whether there is a core node
abbrev pub is_core_value : Option NodeValue → Bool
is_core_value None = false
is_core_value (Some node) = is_core_node_status (node_status node)

-- the nodes as a walk reads them: the table that each lends, and whether it is core
abbrev pub nodes_lent : OverlayValue → Nodes
nodes_lent o =
    record { table_of = λ name. option_and_then table_lent (node_at o name); core = λ name. is_core_value (node_at o name) }
