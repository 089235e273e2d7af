-- What the steps of a join change, by look-ups: Tell and Done at a joining node, and Seek and Tell at a core node.
use Rattle.std.specs.Prelude.{◌≡◌, ◌≢◌, ◌⊎◌, ℕ, ◌+◌, Bool, true, false, List, [], ◌∷◌, length, map, None, Some}
use Rattle.tap_name.specs.declared.slot.Offered.{Offered}
use Rattle.tap_name.specs.declared.slot.Slot.{Slot}
use Rattle.tap_name.specs.Names.{has_name}
use Rattle.tap_link.specs.declared.kind.Kind.TheVariants.{Pin}
use Rattle.tap_session.specs.declared.parent.Parent.TheVariants.{Node, Root}
use Rattle.tap_session.specs.Sessions.{opened_with}
use Rattle.tap_table.specs.declared.tie.Tie.{Tie}
use Rattle.tap_table.specs.Ties.{holders_on, pin_tells, pinned}
use Rattle.tap_watch.specs.Level.{full_slots}
use Rattle.tap_multicast.specs.declared.covers.Covered.{Covered}
use Rattle.tap_multicast.specs.declared.covers.Covered.TheVariants.{Already, Now}
use Rattle.tap_multicast.specs.declared.target.Target.{Target}
use Rattle.tap_multicast.specs.Covers.{covered, with_cover}
use Rattle.tap_join.specs.Hello.{after_hello, hello_tells, words_of}
use Rattle.tap_join.specs.declared.sought.Sought.{Sought}
use Rattle.tap_join.specs.declared.sought.Sought.TheVariants.{Forward, Surrogate}
use Rattle.tap_join.specs.Seek.{sought}
use Rattle.tap_wire.specs.declared.frame.TellFields.{TellFields}
use Rattle.tap_wire.specs.declared.frame.Body.TheVariants.{Seek, Heard, Ack, Release}
use Rattle.tap_rule.specs.Node.{NodeState, link_to, name_of, settings_of}
use Rattle.tap_rule.specs.Node.Status.{Core}
use Rattle.tap_rule.specs.Event.{Acted}
use Rattle.tap_rule.specs.Event.News.{Nothing, Core as CoreNews}
use Rattle.tap_rule.specs.Reaction.{Message, message, to_each}
use Rattle.tap_rule.specs.Sending.{link_frame, message_frame}
use Rattle.tap_rule.specs.Joining.{hello_words}
use Rattle.tap_rule.specs.Sent.{AreSent, IsAmong}
use Rattle.tap_rule.specs.Completed.{IsCompleted, RestAlike}
use Rattle.tap_rule.specs.LinkSteps.{AllAlike, IsParentAnswered, IsParentTold, JoinsAlike}
use Rattle.tap_rule.specs.Covering.{Request, answers_awaited, tell_for}
use Rattle.tap_rule.specs.Hellos.{HelloFields, core_hello, joining_hello}

-- The node pins a joiner to which it has no link, or a pin: it has one then, no other link changes, and a new link has its word.
pub record PinStep (node : NodeState) (joiner : List ℕ) (acted : Acted) : Type 0 where
  pub holders : acted.state.ties.holders ≡ node.ties.holders
  pub others : (name : List ℕ) → (name ≡ joiner) ⊎ (link_to acted.state name ≡ link_to node name)
  pub pinned : link_to acted.state joiner ≡ Some Pin
  pub says_so : link_to node joiner ≡ None
      → IsAmong (link_frame (name_of node) (record { to = joiner; version = node.stamp + 1; on = true })) acted.sent

-- the word for a joiner that a node pins, if it has no link to it
abbrev pub pin_words : NodeState → List ℕ → List Tie
pin_words node joiner = words_of (pin_tells node.ties node.stamp joiner)

-- Tell, at a joining node: it pins the joiner, and greets it in a session of its own, or answers if it has greeted it before
pub record MeetStep (node : NodeState) (from : List ℕ) (tell : TellFields) (acted : Acted) : Type 0 where
  pub status : acted.state.status ≡ node.status
  pub covers : acted.state.covers ≡ node.covers
  pub pins : PinStep node tell.joiner acted
  pub greeted_before : has_name node.greeted tell.joiner ≡ true
      → (acted.state.sessions ≡ node.sessions) × (acted.state.greeted ≡ node.greeted)
      × IsAmong (message_frame (name_of node) (message from (Ack tell.session))) acted.sent
  pub greets : has_name node.greeted tell.joiner ≡ false
      → (acted.state.sessions ≡ opened_with node.sessions (Node from tell.session) tell.depth 1)
      × (has_name acted.state.greeted tell.joiner ≡ true)
      × IsAmong (message_frame (name_of node) (message tell.joiner (joining_hello (node.sessions.opened + 1)))) acted.sent
  pub abandoned : acted.state.abandoned ≡ node.abandoned
  pub rest : RestAlike node acted.state
  pub greeted : (name : List ℕ) → (name ≡ tell.joiner) ⊎ (has_name acted.state.greeted name ≡ has_name node.greeted name)
  pub answers : has_name node.greeted tell.joiner ≡ true
      → IsCompleted node node.pointers (pin_words node tell.joiner) (message from (Ack tell.session) ∷ []) Nothing acted
  pub welcomes : has_name node.greeted tell.joiner ≡ false
      → IsCompleted node node.pointers (pin_words node tell.joiner)
      (message tell.joiner (joining_hello (node.sessions.opened + 1)) ∷ []) Nothing acted

-- Hello, at a joining node: its ties are those after the Hello, each new link has its word, and it answers
pub record HelloStep (node : NodeState) (from : List ℕ) (hello : HelloFields) (acted : Acted) : Type 0 where
  pub joins : JoinsAlike node acted.state
  pub sessions : acted.state.sessions ≡ node.sessions
  pub ties : acted.state.ties ≡ after_hello node.ties from hello.is_core hello.links
  pub sent : AreSent (name_of node) (hello_words node from hello.is_core hello.links) (message from (Heard hello.session) ∷ []) acted.sent
  pub rest : RestAlike node acted.state
  pub completed : IsCompleted node node.pointers (hello_tells node.ties node.stamp from hello.is_core hello.links)
      (message from (Heard hello.session) ∷ []) Nothing acted

-- Done, at a joining node whose join wasn't given up: it is core, and each holder that is on is released
pub record DoneStep (node : NodeState) (acted : Acted) : Type 0 where
  pub status : acted.state.status ≡ Core
  pub ties : acted.state.ties ≡ node.ties
  pub covers : acted.state.covers ≡ node.covers
  pub sessions : acted.state.sessions ≡ node.sessions
  pub news : acted.news ≡ CoreNews
  pub sent : AreSent (name_of node) [] (to_each Release (holders_on node.ties)) acted.sent
  pub greeted : acted.state.greeted ≡ []
  pub abandoned : acted.state.abandoned ≡ node.abandoned
  pub rest : RestAlike node acted.state
  pub completed : IsCompleted node node.pointers [] (to_each Release (holders_on node.ties)) CoreNews acted

-- what a core node finds to do for a joiner, once it has pinned it
abbrev pub found_for : NodeState → Request → Covered
found_for node request =
    covered node.covers (pinned node.ties request.joiner).table request.watch request.joiner request.prefix request.level

-- the Tells of a joiner for these targets, in a session that is opened now, with the watch that is left
abbrev pub tells_for : NodeState → Request → List Slot → List Target → List Message
tells_for node request left targets = map (tell_for request (node.sessions.opened + 1) left) targets

-- A node spreads a joiner that it covers now: it greets it if the cover is the first, tells each target, and opens a session for
-- all of their answers; if there is none to wait for, it answers at once.
pub record SpreadStep (node : NodeState) (request : Request) (first : Bool) (offer : List Offered) (targets : List Target)
    (left : List Slot) (acted : Acted) : Type 0 where
  pub alone : answers_awaited first (length targets) ≡ 0
      → (acted.state.sessions ≡ node.sessions) × IsParentTold node request.parent acted.sent
  pub opens : answers_awaited first (length targets) ≢ 0
      → acted.state.sessions ≡ opened_with node.sessions request.parent request.depth (answers_awaited first (length targets))
  pub greets : first ≡ true
      → IsAmong (message_frame (name_of node) (message request.joiner (core_hello (node.sessions.opened + 1) offer))) acted.sent
  pub tells : (target : Target) → IsAmong target targets
      → IsAmong (message_frame (name_of node) (tell_for request (node.sessions.opened + 1) left target)) acted.sent
  pub first_opens : first ≡ true
      → (acted.state.sessions ≡ opened_with node.sessions request.parent request.depth (length targets + 1))
      × IsCompleted node node.pointers (pin_words node request.joiner)
      (message request.joiner (core_hello (node.sessions.opened + 1) offer) ∷ tells_for node request left targets) Nothing acted
  pub again_opens : first ≡ false → length targets ≢ 0
      → (acted.state.sessions ≡ opened_with node.sessions request.parent request.depth (length targets))
      × IsCompleted node node.pointers (pin_words node request.joiner) (tells_for node request left targets) Nothing acted
  pub again_answers : first ≡ false → length targets ≡ 0
      → (acted.state.sessions ≡ node.sessions) × IsParentAnswered node (pin_words node request.joiner) request.parent acted

-- what a cover comes to: nothing but an answer if the joiner was covered so already, and else the level that is kept, and what spreads
abbrev pub CoversAs : NodeState → Request → Acted → Covered → Type 0
CoversAs node request acted Already =
    (acted.state.covers ≡ node.covers) × (acted.state.sessions ≡ node.sessions)
    × IsParentTold node request.parent acted.sent × IsParentAnswered node (pin_words node request.joiner) request.parent acted
CoversAs node request acted (Now first offer targets left) =
    (acted.state.covers ≡ with_cover node.covers request.joiner request.level)
    × SpreadStep node request first offer targets left acted

-- A core node pins a joiner and covers it: which targets there are, and what is offered and left, is what it finds over its table
-- with the pin.
pub record CoverStep (node : NodeState) (request : Request) (acted : Acted) : Type 0 where
  pub status : acted.state.status ≡ node.status
  pub pins : PinStep node request.joiner acted
  pub covers : CoversAs node request acted (found_for node request)
  pub greeted : acted.state.greeted ≡ node.greeted
  pub abandoned : acted.state.abandoned ≡ node.abandoned
  pub rest : RestAlike node acted.state

-- Seek, at a core node: it goes on to the primary of the joiner's slot, and the node stays; or the node is the joiner's surrogate,
-- and covers it with the prefix that the two share, from that level on, with the full watch; at the end the joiner is answered
abbrev pub SeeksAs : NodeState → List ℕ → Acted → Sought → Type 0
SeeksAs node joiner acted (Forward next) =
    (acted.state.ties ≡ node.ties) × (acted.state.covers ≡ node.covers) × (acted.state.sessions ≡ node.sessions)
    × IsAmong (message_frame (name_of node) (message next (Seek joiner))) acted.sent
    × AllAlike node acted.state × IsCompleted node node.pointers [] (message next (Seek joiner) ∷ []) Nothing acted
SeeksAs node joiner acted (Surrogate prefix) =
    CoverStep node (record {
      joiner = joiner;
      prefix = prefix;
      level = prefix;
      watch = full_slots (settings_of node) joiner prefix;
      parent = Root joiner;
      depth = 0;
    }) acted

abbrev pub SeekStep : NodeState → List ℕ → Acted → Type 0
SeekStep node joiner acted = SeeksAs node joiner acted (sought node.ties.table joiner)
