-- What a rule has a node do, before its frames are put in order.
--
-- Rule: docs/PROTOCOL.md, "Steps of a node".
use Rattle.std.specs.Prelude.{List, [], map, Option}
use Rattle.tap_name.specs.Name.{Name}
use Rattle.tap_table.specs.declared.tie.Tie.{Tie}
use Rattle.tap_table.specs.Ties.{TiesValue, pin_tells, pinned, stamp_after}
use Rattle.tap_wire.specs.declared.frame.Body.{Body}
use Rattle.tap_pointer.specs.declared.lay.Lay.{Lay}
use Rattle.tap_rule.specs.Node.{NodeState}
use Rattle.tap_rule.specs.Event.{News}
use Rattle.tap_rule.specs.Event.News.{Nothing}

-- a frame that a rule names: its receiver and its body
pub record Message : Type 0 where
  pub to : Name
  pub body : Body

abbrev pub message : Name → Body → Message
message to body = record { to = to; body = body }

-- The node afterwards; the words of its links, in the order of their numbers; the frames that the rule names, in its order;
-- the Lays, with their numbers; and the news.
pub record Reaction : Type 0 where
  pub state : NodeState
  pub words : List Tie
  pub messages : List Message
  pub lays : List Lay
  pub news : News

-- the node is left so, and sends nothing
abbrev pub stays : NodeState → Reaction
stays node = record { state = node; words = []; messages = []; lays = []; news = Nothing }

-- the node is left so, and sends these
abbrev pub sends : NodeState → List Message → Reaction
sends node messages = record (stays node) { messages = messages }

-- one message to each of these
abbrev pub to_each : Body → List Name → List Message
to_each body names = map (λ name. message name body) names

-- with these words of links, and with this news
abbrev pub with_words : List Tie → Reaction → Reaction
with_words words reaction = record reaction { words = words }

abbrev pub with_news : News → Reaction → Reaction
with_news news reaction = record reaction { news = news }

-- the node with its ties left so, and its stamp at the number of the word that this takes, if it takes one
abbrev pub with_ties : TiesValue → Option Tie → NodeState → NodeState
with_ties ties word node = record node { ties = ties; stamp = stamp_after node.stamp word }

-- the node once it has pinned a name, and the word that this takes
abbrev pub pin_word : NodeState → Name → Option Tie
pin_word node name = pin_tells node.ties node.stamp name

abbrev pub with_pin : NodeState → Name → NodeState
with_pin node name = with_ties (pinned node.ties name) (pin_word node name) node
