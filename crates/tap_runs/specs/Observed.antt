-- What a step sees that observes: a walk, a root, a table, or the pairs that a node holds.
--
-- Rule: docs/FORMATS.md, "The course of a run".
use Rattle.std.specs.Prelude.{ℕ, Bool, true, false, List, map, Option, None, Some, option_and_then}
use Rattle.std.specs.Option.{option_map}
use Rattle.tap_name.specs.Root.{root}
use Rattle.tap_name.specs.Settings.{SettingsValue}
use Rattle.tap_link.specs.declared.kind.Kind.{Kind}
use Rattle.tap_link.specs.declared.kind.Kind.TheVariants.{Pin, Settled, Leaving as LeavingKind}
use Rattle.tap_table.specs.Table.{Row, TableValue, rows}
use Rattle.tap_surrogate.specs.Nodes.{Nodes, core_links}
use Rattle.tap_surrogate.specs.Walk.{walk}
use Rattle.tap_pointer.specs.declared.pair.Pair.{Pair}
use Rattle.tap_pointer.specs.Pointers.{pairs_held}
use Rattle.tap_scenario.specs.declared.step.Step.{Step}
use Rattle.tap_scenario.specs.declared.step.Step.TheVariants.{Walk, Root, Table, Pointers}
use Rattle.tap_log.specs.declared.record.LinkLine.{LinkLine}
use Rattle.tap_log.specs.declared.record.LinkWord.{LinkWord}
use Rattle.tap_log.specs.declared.record.LinkWord.TheVariants.{Pin as PinWord, Settled as SettledWord, Leaving as LeavingWord}
use Rattle.tap_log.specs.declared.record.NodeWord.{NodeWord}
use Rattle.tap_log.specs.declared.record.NodeWord.TheVariants.{Joining as JoiningWord, Core as CoreWord, Leaving as LeavingNode}
use Rattle.tap_log.specs.declared.record.Pair as log_pair
use Rattle.tap_log.specs.declared.record.Record.{Record}
use Rattle.tap_log.specs.declared.record.Record.TheVariants.{Walked, RootOf, TableOf, PointersOf}
use Rattle.tap_history.specs.Core.{core_of}
use Rattle.tap_rule.specs.Node.{NodeState, Status}
use Rattle.tap_rule.specs.Node.Status.{Joining, Core, Leaving, Gone, Ceased}
use Rattle.tap_safety.specs.System.{System}

-- the word of a node that has a table; the others have ended
abbrev pub word_of_status : Status → Option NodeWord
word_of_status Joining = Some JoiningWord
word_of_status Core = Some CoreWord
word_of_status Leaving = Some LeavingNode
word_of_status Gone = None
word_of_status Ceased = None

-- a leaving node counts as core
abbrev pub counts_as_core : Status → Bool
counts_as_core Joining = false
counts_as_core Core = true
counts_as_core Leaving = true
counts_as_core Gone = false
counts_as_core Ceased = false

-- a joining node
abbrev pub is_joining_status : Status → Bool
is_joining_status Joining = true
is_joining_status Core = false
is_joining_status Leaving = false
is_joining_status Gone = false
is_joining_status Ceased = false

-- a node that has ended takes no part any more
abbrev pub has_ended : Status → Bool
has_ended Joining = false
has_ended Core = false
has_ended Leaving = false
has_ended Gone = true
has_ended Ceased = true

-- the table of a node that hasn't ended
abbrev pub table_of_node : NodeState → Option TableValue
table_of_node node = option_map (λ word. node.ties.table) (word_of_status node.status)

-- whether there is a core node
abbrev pub is_core_node : Option NodeState → Bool
is_core_node None = false
is_core_node (Some node) = counts_as_core node.status

-- the nodes of a system as a walk reads them
abbrev pub nodes_of : System → Nodes
nodes_of s =
    record { table_of = λ name. option_and_then table_of_node (s.node name); core = λ name. is_core_node (s.node name) }

-- a link of a table as a log has it
abbrev pub word_of_link : Kind → LinkWord
word_of_link Pin = PinWord
word_of_link Settled = SettledWord
word_of_link LeavingKind = LeavingWord

abbrev pub link_line : Row → LinkLine
link_line row = record { slot = row.slot; name = row.entry.target; kind = word_of_link row.entry.kind }

-- a pair as a log has it
abbrev pub pair_line : Pair → log_pair.Pair
pair_line pair = record { object = pair.object; server = pair.server }

-- the status and the links of a node, ascending by slot, then target; and the pairs that it holds, ascending
abbrev pub table_record : List ℕ → NodeState → Option Record
table_record name node =
    option_map (λ word. TableOf name word (map link_line (rows node.ties.table))) (word_of_status node.status)

abbrev pub pointers_record : List ℕ → NodeState → Record
pointers_record name node = PointersOf name (map pair_line (pairs_held node.pointers))

-- what an observation gives, after this log; none of another step
unfoldable pub observed : SettingsValue → List Record → System → Step → Option Record
observed p before s (Walk object asker) = Some (Walked object (walk p.base (core_links (nodes_of s)) asker object))
observed p before s (Root object) = option_map (RootOf object) (root p.base (core_of before) object)
observed p before s (Table name) = option_and_then (table_record name) (s.node name)
observed p before s (Pointers name) = option_map (pointers_record name) (s.node name)
observed p before s other = None
