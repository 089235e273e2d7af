-- What the calls of a node answer, and how they leave it.
--
-- Rule: docs/PROTOCOL.md, "Steps of a node" and "Refused frames".
use Rattle.std.specs.Prelude.{◌≡◌, ◌≢◌, ℕ, Bool, true, false, not, ◌&&◌, ◌||◌, if◌then◌else◌, List, [], Result, Ok, Err, IsOk, IsOkAnd, IsTrue}
use Rattle.tap_wire.specs.declared.fault.WireFault.{WireFault}
use Rattle.tap_wire.specs.declared.fault.WireFault.TheVariants as wire
use Rattle.tap_wire.specs.declared.frame.Frame.{Frame}
use Rattle.tap_wire.specs.declared.kind.Kind.TheVariants.{Cast}
use Rattle.tap_wire.specs.Kind.{has_list, kind_of}
use Rattle.tap_wire.specs.Reading.{frame_of}
use Rattle.tap_rule.specs.Node.{NodeState, name_of, settings_of}
use Rattle.tap_rule.specs.Event.{Acted, Start}
use Rattle.tap_rule.specs.Event.Event.{Starts, Takes}
use Rattle.tap_rule.specs.Strange.{is_own_name, is_strange}
use Rattle.tap_rule.specs.Act.{act}
use Rattle.tap_node_common.specs.Spellings.{spelled}
use Rattle.tap_node_common.specs.declared.memory.NoMemory.{NoMemory as OutOfMemory}
use Rattle.tap_node_common.specs.declared.news.News.TheVariants.{Nothing}
use Rattle.tap_node.specs.declared.fault.NodeFault.{NodeFault}
use Rattle.tap_node.specs.declared.fault.NodeFault.TheVariants.{Wire, NotMine, Strange, NoMemory, Ended}
use Rattle.tap_node.specs.declared.turn.Turn.{Turn}
use Rattle.tap_node.specs.Node.{NodeValue, running}
use Rattle.tap_node_common.specs.StepsAs.{news_seen}

-- the answer of a call, and the node afterwards
pub record Outcome : Type 0 where
  pub answer : Result Turn NodeFault
  pub node : NodeValue

-- a refusal leaves the node as it was
abbrev pub refused_by : NodeValue → NodeFault → Outcome
refused_by node fault = record { answer = Err fault; node = node }

-- what a step gives: its frames as bytes, and its news
abbrev pub turn_made : NodeState → Acted → Turn
turn_made node acted = record { sent = spelled (settings_of node) acted.sent; news = news_seen acted.news }

-- a turn without frames and without news
abbrev pub empty_turn : Turn
empty_turn = record { sent = []; news = Nothing }

-- what a call has answered to which an empty turn was lent, by what that turn is afterwards: the turn, or that memory was refused
abbrev pub answer_lent : Result (Unit {0}) OutOfMemory → Turn → Result Turn NodeFault
answer_lent (Ok done) turn = Ok turn
answer_lent (Err refused) turn = Err NoMemory

-- the node has acted
abbrev pub acted_as : NodeState → Acted → Outcome
acted_as node acted = record { answer = Ok (turn_made node acted); node = running acted.state }

-- a frame that was read: one for another node, and one that is strange, is refused
abbrev pub at_frame : NodeValue → Frame → Outcome
at_frame node frame =
    if is_own_name node.state frame.to
    then (if is_strange node.state frame then refused_by node Strange else acted_as node.state (act node.state (Takes frame)))
    else refused_by node (NotMine frame.to)

abbrev pub at_read : NodeValue → Result Frame WireFault → Outcome
at_read node (Ok frame) = at_frame node frame
at_read node (Err fault) = refused_by node (Wire fault)

-- a node that takes bytes as a frame
abbrev pub take_outcome : NodeValue → List ℕ → Outcome
take_outcome node bytes =
    if node.ended then refused_by node Ended else at_read node (frame_of (settings_of node.state) bytes)

-- a node that starts something
abbrev pub start_outcome : NodeValue → Start → Outcome
start_outcome node begun = if node.ended then refused_by node Ended else acted_as node.state (act node.state (Starts begun))

-- the fault of a node to which bytes aren't read as a frame, by the cause
pub record IsFaultOf (cause : WireFault) (fault : NodeFault) : Type 0 where
  pub memory : cause ≡ wire.NoMemory → fault ≡ NoMemory
  pub other : cause ≢ wire.NoMemory → fault ≡ Wire cause

-- a frame that a node takes: it is its own, and isn't strange to it
unfoldable pub is_taken : NodeState → Frame → Bool
is_taken node frame = is_own_name node frame.to && not (is_strange node frame)

-- Memory may be wanted for bytes: the node takes steps, and they are a frame. It is wanted to read a frame that has a list, whosever
-- it is, and for the step that a frame makes the node take. The letters of a Cast fit in place, so it wants memory only if it is taken.
pub record MayWant (node : NodeValue) (bytes : List ℕ) : Type 0 where
  pub runs : node.ended ≡ false
  pub read : IsOk (frame_of (settings_of node.state) bytes)
  pub wanted : IsOkAnd (frame_of (settings_of node.state) bytes) (λ frame. IsTrue (has_list (kind_of frame.body) || is_taken node.state frame))
  pub letters : IsOkAnd (frame_of (settings_of node.state) bytes) (λ frame. kind_of frame.body ≡ Cast → IsTrue (is_taken node.state frame))

-- The answer and the node afterwards are those of an outcome, unless memory was refused, which it is only to a node that takes
-- steps, and which ends it. The name and the settings stay.
pub record AnswersAs (outcome : Outcome) (before : NodeValue) (given : Result Turn NodeFault) (after : NodeValue) : Type 0 where
  pub answer : given ≢ Err NoMemory → given ≡ outcome.answer
  pub node : given ≢ Err NoMemory → after ≡ outcome.node
  pub runs : given ≡ Err NoMemory → before.ended ≡ false
  pub ended : given ≡ Err NoMemory → after.ended ≡ true
  pub name : name_of after.state ≡ name_of before.state
  pub settings : settings_of after.state ≡ settings_of before.state
