-- What a step at one of the nodes answers, and what it makes of them.
--
-- Rule: docs/PROTOCOL.md, "Steps of a node".
use Rattle.std.specs.Prelude.{◌≡◌, ◌⊎◌, ℕ, true, false, List, None, Some, Result, Ok, Err, IsOkAnd}
use Rattle.std.specs.Map.{keys_of}
use Rattle.tap_name.specs.Settings.{SettingsValue}
use Rattle.tap_wire.specs.declared.fault.WireFault.{WireFault}
use Rattle.tap_wire.specs.declared.frame.Frame.{Frame}
use Rattle.tap_wire.specs.Spelling.{IsFrame}
use Rattle.tap_rule.specs.Node.{NodeState, joiner, settings_of}
use Rattle.tap_rule.specs.Event.{Acted}
use Rattle.tap_rule.specs.Event.Event.{Starts}
use Rattle.tap_rule.specs.Event.Start.{Join}
use Rattle.tap_rule.specs.Act.{act}
use Rattle.tap_rule.specs.Strange.{is_own_name, is_strange}
use Rattle.tap_node.specs.declared.fault.NodeFault.{NodeFault}
use Rattle.tap_node.specs.declared.fault.NodeFault.TheVariants.{NoMemory}
use Rattle.tap_node.specs.declared.turn.Turn.{Turn}
use Rattle.tap_node.specs.Node.{NodeValue, has_room_left, running}
use Rattle.tap_node.specs.Outcome.{AnswersAs, Outcome, at_frame, turn_made}
use Rattle.tap_overlay.specs.declared.fault.OverlayFault.{OverlayFault}
use Rattle.tap_overlay.specs.declared.fault.OverlayFault.TheVariants.{NoNode, NoRoom, Node}
use Rattle.tap_overlay.specs.Overlay.{ChangesOnly, node_among}

-- the answer of a node as the overlay gives it
abbrev pub answer_given : Result Turn NodeFault → Result Turn OverlayFault
answer_given (Ok turn) = Ok turn
answer_given (Err fault) = Err (Node fault)

-- without room for a step the node is left as it was
pub record HasNoRoom (before after : NodeValue) (given : Result Turn OverlayFault) : Type 0 where
  pub given_is : given ≡ Err NoRoom
  pub same : after ≡ before

-- the node has answered as the outcome says
pub record NodeHasAnswered (outcome : Outcome) (before after : NodeValue) (given : Result Turn OverlayFault) : Type 0 where
  pub answer : Result Turn NodeFault
  pub given_is : given ≡ answer_given answer
  pub answers : AnswersAs outcome before answer after

-- a call at a node with this outcome: it answers if it has room for a step
pub record IfRoom (outcome : Outcome) (before after : NodeValue) (given : Result Turn OverlayFault) : Type 0 where
  pub full : has_room_left before ≡ false → HasNoRoom before after given
  pub free : has_room_left before ≡ true → NodeHasAnswered outcome before after given

-- without a node of the name nothing changes
pub record HasNoNode (before after : List (List ℕ × NodeValue)) (given : Result Turn OverlayFault) : Type 0 where
  pub given_is : given ≡ Err NoNode
  pub same : after ≡ before

-- the node of the name has answered a call with this outcome: it alone changes, and no name comes or goes; if it is as it was, all is
pub record HasStepped (outcome : Outcome) (before after : List (List ℕ × NodeValue)) (name : List ℕ) (node : NodeValue)
    (given : Result Turn OverlayFault) : Type 0 where
  pub is : NodeValue
  pub step : IfRoom outcome node is given
  pub changes : ChangesOnly before after name is
  pub names : keys_of after ≡ keys_of before
  pub same : is ≡ node → after ≡ before

-- A call at the node of a name, whose outcome at each node is this: without a node of the name nothing changes, and else that node
-- answers.
pub record StepsAt (outcome : NodeValue → Outcome) (before after : List (List ℕ × NodeValue)) (name : List ℕ)
    (given : Result Turn OverlayFault) : Type 0 where
  pub absent : node_among before name ≡ None → HasNoNode before after given
  pub there : (node : NodeValue) → node_among before name ≡ Some node → HasStepped (outcome node) before after name node given

-- ---- deliveries

-- The receiver of a frame is there, takes steps, and has room for one, and the frame isn't strange to it.
pub record MayDeliver (nodes : List (List ℕ × NodeValue)) (frame : Frame) : Type 0 where
  pub node : NodeState
  pub there : node_among nodes frame.to ≡ Some (running node)
  pub room : has_room_left (running node) ≡ true
  pub fits : is_strange node frame ≡ false

-- a node that takes steps may take the frame: there is room for a step, and the frame is its own and isn't strange to it
pub record MayHeed (frame : Frame) (node : NodeValue) : Type 0 where
  pub runs : node.ended ≡ false
  pub room : has_room_left node ≡ true
  pub is_frame : IsFrame (settings_of node.state) frame
  pub own : is_own_name node.state frame.to ≡ true
  pub fits : is_strange node.state frame ≡ false

-- its receiver has answered so to the frame; every other node is as it was
abbrev pub Heeds : List (List ℕ × NodeValue) → List (List ℕ × NodeValue) → Result Turn NodeFault → Frame → Type 0
Heeds before after answer frame = StepsAt (λ node. at_frame node frame) before after frame.to (answer_given answer)

-- the receiver of the frame, which has this name, has taken it, and this is its turn
pub record HasDelivered (before after : List (List ℕ × NodeValue)) (turn : Turn) (name : List ℕ) (frame : Frame) : Type 0 where
  pub name_is : name ≡ frame.to
  pub heeds : Heeds before after (Ok turn) frame

-- memory was refused: to read the frame, and no node has changed, or to its receiver, which has ended
abbrev pub HasFailed : List (List ℕ × NodeValue) → List (List ℕ × NodeValue) → Result Frame WireFault → Type 0
HasFailed before after read = (after ≡ before) ⊎ IsOkAnd read (Heeds before after (Err NoMemory))

-- ---- joins

-- a node of this name has come, and has started its join by that node
abbrev pub joined : SettingsValue → List ℕ → List ℕ → Acted
joined p name via = act (joiner p name) (Starts (Join via))

-- the node of the name is there afterwards, its join started, and the turn is that of the start; every other name has what it had
pub record HasJoined (p : SettingsValue) (name via : List ℕ) (before after : List (List ℕ × NodeValue)) (turn : Turn) : Type 0 where
  pub turn_is : turn ≡ turn_made (joiner p name) (joined p name via)
  pub changes : ChangesOnly before after name (running (joined p name via).state)
