-- What a node does at an event.
--
-- An event: `act`. A frame then passes `is_strange`, and `rule_of_frame` if it isn't; a start passes `rule_of_start`. Both go on
-- with `follows`, `completed` and `carried_out`.
--
-- Rule: docs/PROTOCOL.md, "Steps of a node".
use Rattle.std.specs.Prelude.{[], true, false, if◌then◌else◌, Option, None, Some}
use Rattle.tap_name.specs.Name.{Name}
use Rattle.tap_rule.specs.Node.{NodeState, Status, name_of}
use Rattle.tap_rule.specs.Node.Status.{Joining, Core, Leaving, Gone, Ceased}
use Rattle.tap_rule.specs.Event.{Acted, Event}
use Rattle.tap_rule.specs.Event.Event.{Starts, Takes}
use Rattle.tap_rule.specs.Event.News.{Nothing}
use Rattle.tap_rule.specs.Reaction.{Reaction}
use Rattle.tap_rule.specs.Strange.{is_strange}
use Rattle.tap_rule.specs.Pointers.{reconciles}
use Rattle.tap_rule.specs.FrameRules.{rule_of_frame}
use Rattle.tap_rule.specs.StartRules.{rule_of_start}
use Rattle.tap_rule.specs.Sending.{frames_of}

-- nothing is done: the node stays, and sends nothing
abbrev pub ignores : NodeState → Acted
ignores node = record { state = node; sent = []; news = Nothing; strange = false }

-- a frame that is strange to the node is refused
abbrev pub refuses : NodeState → Acted
refuses node = record (ignores node) { strange = true }

-- a step ends with reconciling, unless the node has ended
abbrev pub completed : Status → Reaction → Reaction
completed Joining reaction = reconciles reaction
completed Core reaction = reconciles reaction
completed Leaving reaction = reconciles reaction
completed Gone reaction = reaction
completed Ceased reaction = reaction

-- what comes of it
abbrev pub carried_out : Name → Reaction → Acted
carried_out from reaction =
    record { state = reaction.state; sent = frames_of from reaction; news = reaction.news; strange = false }

-- the node does as a rule says, if there is one
abbrev pub follows : NodeState → Option Reaction → Acted
follows node None = ignores node
follows node (Some reaction) = carried_out (name_of node) (completed reaction.state.status reaction)

-- the rule: what the node does at an event
unfoldable pub act : NodeState → Event → Acted
act node (Starts start) = follows node (rule_of_start node.status node start)
act node (Takes frame) =
    if is_strange node frame then refuses node else follows node (rule_of_frame node.status node frame.from frame.body)
