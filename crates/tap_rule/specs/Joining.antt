-- What a joining node does: its start, Tell, Hello and Done.
--
-- The start: `starts_join`. A Tell: `takes_tell_joining`, then `welcomes_once`, then `welcomes`. A Hello: `takes_hello`, then `hello_words` and
-- `with_hello`. A Done, if the join isn't given up: `becomes_core`.
--
-- Rule: docs/PROTOCOL.md, "The start of a join" and "Tell" and "Hello" and "Done".
use Rattle.std.specs.Prelude.{◌+◌, Bool, if◌then◌else◌, List, [], ◌∷◌, ◌++◌, length}
use Rattle.tap_name.specs.Name.{Name}
use Rattle.tap_name.specs.declared.slot.Offered.{Offered}
use Rattle.tap_name.specs.Names.{has_name}
use Rattle.tap_session.specs.Session.{SessionNumber}
use Rattle.tap_session.specs.declared.parent.Parent.TheVariants.{Node}
use Rattle.tap_table.specs.declared.tie.Tie.{Tie}
use Rattle.tap_table.specs.Ties.{holders_on}
use Rattle.tap_wire.specs.declared.frame.TellFields.{TellFields}
use Rattle.tap_wire.specs.declared.frame.Body.TheVariants.{Seek, Heard, Ack, Release}
use Rattle.tap_join.specs.Hello.{after_hello, hello_tells, words_of}
use Rattle.tap_rule.specs.Node.{NodeState, name_of}
use Rattle.tap_rule.specs.Node.Status.{Core}
use Rattle.tap_rule.specs.Event.News.{Core as CoreNews}
use Rattle.tap_rule.specs.Reaction.{Reaction, message, pin_word, sends, to_each, with_news, with_pin, with_words}
use Rattle.tap_rule.specs.Answers.{next_number, with_session}
use Rattle.tap_rule.specs.Hellos.{joining_hello}

-- the start of a join: a Seek, to the node that it knows
abbrev pub starts_join : NodeState → Name → Reaction
starts_join node via = sends node (message via (Seek (name_of node)) ∷ [])

-- the node with the joiner greeted
abbrev pub with_greeting : NodeState → Name → NodeState
with_greeting node joiner = record node { greeted = node.greeted ++ joiner ∷ [] }

-- the joiner of a Tell is greeted, in a session that waits for its answer alone
abbrev pub welcomes : NodeState → Name → TellFields → Reaction
welcomes node from tell =
    sends (with_session (with_greeting node tell.joiner) (Node from tell.session) tell.depth 1)
    (message tell.joiner (joining_hello (next_number node)) ∷ [])

-- it is greeted once; after that the Tell is answered
abbrev pub welcomes_once : NodeState → Name → TellFields → Reaction
welcomes_once node from tell =
    if has_name node.greeted tell.joiner then sends node (message from (Ack tell.session) ∷ []) else welcomes node from tell

-- Tell, at a joining node: it pins the joiner and greets it; it tells nobody on
abbrev pub takes_tell_joining : NodeState → Name → TellFields → Reaction
takes_tell_joining node from tell = with_words (words_of (pin_word node tell.joiner)) (welcomes_once (with_pin node tell.joiner) from tell)

-- the words that a Hello takes, and the node after it: its ties as the names leave them, and its stamp at the last word
abbrev pub hello_words : NodeState → Name → Bool → List Offered → List Tie
hello_words node from core links = hello_tells node.ties node.stamp from core links

abbrev pub with_hello : NodeState → Name → Bool → List Offered → NodeState
with_hello node from core links = record node {
  ties = after_hello node.ties from core links;
  stamp = node.stamp + length (hello_words node from core links);
}

-- Hello, at a joining node: it takes the sender and then the links, and answers
abbrev pub takes_hello : NodeState → Name → SessionNumber → Bool → List Offered → Reaction
takes_hello node from session core links =
    with_words (hello_words node from core links) (sends (with_hello node from core links) (message from (Heard session) ∷ []))

-- Done, at a joining node that isn't abandoned: it is core now, and releases each holder that is on, ascending
abbrev pub becomes_core : NodeState → Reaction
becomes_core node =
    with_news CoreNews (sends (record node { status = Core; greeted = [] }) (to_each Release (holders_on node.ties)))
