-- What a core node does for a joiner: Seek and Tell.
--
-- A Seek: `takes_seek`, then `takes_seek_as`, and at the surrogate `first_request` and `pins_and_covers`. A Tell: `takes_tell`, then
-- `request_of` and `pins_and_covers`. Both go on with `covers`, `covers_as` and `spreads`.
--
-- Rule: docs/PROTOCOL.md, "Seek" and "Tell" and "Covers of a node".
use Rattle.std.specs.Prelude.{ℕ, ◌==◌, ◌+◌, Bool, if◌then◌else◌, List, [], ◌∷◌, ◌++◌, length, map}
use Rattle.tap_name.specs.Name.{Name}
use Rattle.tap_name.specs.Prefix.{Level}
use Rattle.tap_name.specs.declared.slot.Offered.{Offered}
use Rattle.tap_name.specs.declared.slot.Slot.{Slot}
use Rattle.tap_session.specs.Session.{Depth, SessionNumber}
use Rattle.tap_session.specs.declared.parent.Parent.{Parent}
use Rattle.tap_session.specs.declared.parent.Parent.TheVariants.{Root, Node}
use Rattle.tap_watch.specs.Level.{full_slots}
use Rattle.tap_wire.specs.declared.frame.TellFields.{TellFields}
use Rattle.tap_wire.specs.declared.frame.Body.TheVariants.{Seek, Tell}
use Rattle.tap_multicast.specs.declared.covers.Covered.{Covered}
use Rattle.tap_multicast.specs.declared.covers.Covered.TheVariants.{Already, Now}
use Rattle.tap_multicast.specs.declared.target.Target.{Target}
use Rattle.tap_multicast.specs.Covers.{covered, with_cover}
use Rattle.tap_join.specs.Hello.{words_of}
use Rattle.tap_join.specs.declared.sought.Sought.{Sought}
use Rattle.tap_join.specs.declared.sought.Sought.TheVariants.{Forward, Surrogate}
use Rattle.tap_join.specs.Seek.{sought}
use Rattle.tap_rule.specs.Node.{NodeState, settings_of}
use Rattle.tap_rule.specs.Reaction.{Message, Reaction, message, pin_word, sends, with_pin, with_words}
use Rattle.tap_rule.specs.Answers.{answer_for, next_number, with_session}
use Rattle.tap_rule.specs.Hellos.{core_hello}

-- what a node is asked to do for a joiner: to cover it, with its prefix, from a level on; the slots that it still watches;
-- who is answered in the end; and the depth
pub record Request : Type 0 where
  pub joiner : Name
  pub prefix : Level
  pub level : Level
  pub watch : List Slot
  pub parent : Parent
  pub depth : Depth

-- how many answers a cover waits for: one of each target, and if it is the first, one of the joiner
abbrev pub answers_awaited : Bool → ℕ → ℕ
answers_awaited first targets = if first then targets + 1 else targets

-- the Hello of a first cover, with the links that are offered
abbrev pub greeting : Request → SessionNumber → Bool → List Offered → List Message
greeting request session first offer = if first then message request.joiner (core_hello session offer) ∷ [] else []

-- the Tell for a target, with the watch that is left
abbrev pub tell_for : Request → SessionNumber → List Slot → Target → Message
tell_for request session left target =
    message target.to (Tell request.joiner request.prefix target.level session (request.depth + 1) left)

-- The node greets the joiner if the cover is the first, and tells the targets of it, in a session that waits for all of
-- them; if there is nobody to wait for, the parent is answered at once.
abbrev pub spreads : NodeState → Request → Bool → List Offered → List Target → List Slot → Reaction
spreads node request first offer targets left =
    let waiting = answers_awaited first (length targets) in
    let session = next_number node in
    (if waiting == 0
    then sends node (answer_for request.parent ∷ [])
    else sends (with_session node request.parent request.depth waiting)
    (greeting request session first offer ++ map (tell_for request session left) targets))

-- the node with the joiner covered at the level of the request
abbrev pub with_level : NodeState → Request → NodeState
with_level node request = record node { covers = with_cover node.covers request.joiner request.level }

-- what a node does that covers the joiner already at a level of at most the request's, or covers it now
abbrev pub covers_as : NodeState → Request → Covered → Reaction
covers_as node request Already = sends node (answer_for request.parent ∷ [])
covers_as node request (Now first offer targets left) = spreads (with_level node request) request first offer targets left

-- the node covers the joiner, which it has pinned
abbrev pub covers : NodeState → Request → Reaction
covers node request =
    covers_as node request (covered node.covers node.ties.table request.watch request.joiner request.prefix request.level)

-- the node pins the joiner and covers it
abbrev pub pins_and_covers : NodeState → Request → Reaction
pins_and_covers node request =
    with_words (words_of (pin_word node request.joiner)) (covers (with_pin node request.joiner) request)

-- the request of a joiner's surrogate, to which it has come with a Seek: it begins with its prefix, and with the full watch
abbrev pub first_request : NodeState → Name → Level → Request
first_request node joiner prefix = record {
  joiner = joiner;
  prefix = prefix;
  level = prefix;
  watch = full_slots (settings_of node) joiner prefix;
  parent = Root joiner;
  depth = 0;
}

-- the request of a Tell, whose sender is answered in the end
abbrev pub request_of : Name → TellFields → List Slot → Request
request_of from tell watch = record {
  joiner = tell.joiner;
  prefix = tell.prefix;
  level = tell.level;
  watch = watch;
  parent = Node from tell.session;
  depth = tell.depth;
}

-- Seek, at a core node: it goes on to the primary of the joiner's slot, or else the node is the joiner's surrogate
abbrev pub takes_seek_as : NodeState → Name → Sought → Reaction
takes_seek_as node joiner (Forward next) = sends node (message next (Seek joiner) ∷ [])
takes_seek_as node joiner (Surrogate prefix) = pins_and_covers node (first_request node joiner prefix)

abbrev pub takes_seek : NodeState → Name → Reaction
takes_seek node joiner = takes_seek_as node joiner (sought node.ties.table joiner)

-- Tell, at a core node
abbrev pub takes_tell : NodeState → Name → TellFields → List Slot → Reaction
takes_tell node from tell watch = pins_and_covers node (request_of from tell watch)
