-- The rule of each start, by the status of the node; none if there is no rule.
--
-- A start: `rule_of_start`, then the table of the node's status, as `start_at_core`, then what stands there for its kind.
--
-- Rule: docs/PROTOCOL.md, "Steps of a node".
use Rattle.std.specs.Prelude.{Option, None, Some}
use Rattle.tap_rule.specs.Node.{NodeState, Status}
use Rattle.tap_rule.specs.Node.Status.{Joining, Core, Leaving, Gone, Ceased}
use Rattle.tap_rule.specs.Event.{Start}
use Rattle.tap_rule.specs.Event.Start.{Join, Abandon, Publish, Withdraw, Find, Leave, Cast}
use Rattle.tap_rule.specs.Reaction.{Reaction}
use Rattle.tap_rule.specs.Joining.{starts_join}
use Rattle.tap_rule.specs.Ceasing.{starts_abandon}
use Rattle.tap_rule.specs.Pointers.{starts_find, starts_publish, starts_withdraw}
use Rattle.tap_rule.specs.Leaving.{starts_leave}
use Rattle.tap_rule.specs.Casts.{starts_cast}

-- a start at a joining node
abbrev pub start_at_joining : NodeState → Start → Option Reaction
start_at_joining node (Join via) = Some (starts_join node via)
start_at_joining node Abandon = Some (starts_abandon node)
start_at_joining node _ = None

-- a start at a core node
abbrev pub start_at_core : NodeState → Start → Option Reaction
start_at_core node (Publish object) = Some (starts_publish node object)
start_at_core node (Withdraw object) = Some (starts_withdraw node object)
start_at_core node (Find ticket object) = Some (starts_find node ticket object)
start_at_core node Leave = Some (starts_leave node)
start_at_core node (Cast cast level word) = Some (starts_cast node cast level word)
start_at_core node _ = None

-- a start at a node of this status
abbrev pub rule_of_start : Status → NodeState → Start → Option Reaction
rule_of_start Joining node begun = start_at_joining node begun
rule_of_start Core node begun = start_at_core node begun
rule_of_start Leaving node begun = None
rule_of_start Gone node begun = None
rule_of_start Ceased node begun = None
