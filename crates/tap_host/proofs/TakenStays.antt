-- A frame that was taken stays taken, line by line.
use Rattle.std.proofs.Common.{◌≡◌, ℕ, Bool, true, false, List, Option, None, Some, ap}
use Rattle.std.specs.Prelude.{◌+◌, ◌||◌, nat_le, not, length, if◌then◌else◌, Result, Ok, Err}
use Rattle.tap_name.specs.Name.{Name}
use Rattle.tap_name.specs.Names.{has_name}
use Rattle.tap_wire.specs.declared.fault.HeadFault.{HeadFault}
use Rattle.tap_wire.specs.declared.frame.Head.{Head}
use Rattle.tap_rule.specs.Node.{name_of}
use Rattle.tap_node.specs.Node.{NodeValue, has_room_left, node_status}
use Rattle.tap_node.specs.Outcome.{start_outcome, take_outcome}
use Rattle.tap_node.specs.declared.fault.NodeFault.{NodeFault}
use Rattle.tap_node.specs.declared.turn.Turn.{Turn}
use Rattle.tap_carry.specs.Names.{is_name, is_same}
use Rattle.tap_carry.specs.Outbox.{most_frames}
use Rattle.tap_host_line.specs.declared.line.Line.{Line}
use Rattle.tap_host_line.specs.declared.line.Line.TheVariants.{Ack, Members, Packet, Start, Status, Tick}
use Rattle.tap_host_line.specs.declared.line.Start.{Start as StartLine}
use Rattle.tap_host_line.specs.Line.{node_line_of_text}
use Rattle.tap_host_line.specs.Texts.{text_of_ack, text_of_begun}
use Rattle.tap_wire.specs.Reading.{head_of}
use Rattle.tap_host.specs.Actor.{has_start, is_new, start_of}
use Rattle.tap_host.specs.Host.{HostSeen, Stepped, after_node_answer, at_head, at_members, at_number, at_start, host_node, host_settings, host_step, step_of_line, with_frame_taken}
use Rattle.tap_host.specs.Laws.{TakenStaysTaken}

module _ (from : Name) (seq : ℕ) where
  abbrev Takes : HostSeen → Type 0
  Takes host = host.taken from seq ≡ true

  abbrev Leaves : Stepped → Type 0
  Leaves step = Takes step.host

  either : (b : Bool) (one other : Stepped) → Leaves one → Leaves other → Leaves (if b then one else other)
  either true one other first second = first
  either false one other first second = second

  -- whatever the node answers
  answered : (before host : HostSeen) (number : ℕ) (front : List ℕ) (node : NodeValue) (answer : Result Turn NodeFault) → Takes before → Takes host
      → Leaves (after_node_answer before host number front node answer)
  answered before host number front node (Ok turn) was is =
      either (nat_le (host.mail.sent + length turn.sent) most_frames) _ _ is was
  answered before host number front node (Err cause) was is = was

  counted : (host : HostSeen) (sender : Name) (k : ℕ) → Takes host → Takes (with_frame_taken host sender k)
  counted host sender k is = ap (λ b. b || is_same sender k from seq) is

  numbered : (host : HostSeen) (number : ℕ) (sender : Name) (k : ℕ) (frame : List ℕ) → Takes host → Leaves (at_number host number sender k frame)
  numbered host number sender k frame is =
      let outcome = take_outcome (host_node host) frame in
      either (host.taken sender k) _ _ is
      (either (not (has_room_left (host_node host))) _ _ is
      (answered host (with_frame_taken host sender k) number (text_of_ack sender k) outcome.node outcome.answer is (counted host sender k is)))

  headed : (host : HostSeen) (number : ℕ) (sender : Name) (k : ℕ) (frame : List ℕ) (head : Result Head HeadFault) → Takes host
      → Leaves (at_head host number sender k frame head)
  headed host number sender k frame (Ok head) is = either (is_name head.from sender) _ _ (numbered host number sender k frame is) is
  headed host number sender k frame (Err cause) is = is

  started : (host : HostSeen) (number : ℕ) (begun : StartLine) → Takes host → Leaves (at_start host number begun)
  started host number begun is =
      let outcome = start_outcome (host_node host) (start_of begun) in
      either (not (has_start (node_status (host_node host)) begun)) _ _ is
      (either (not (is_new host.actor.casts_below begun)) _ _ is
      (either (not (has_room_left (host_node host))) _ _ is
      (answered host host number text_of_begun outcome.node outcome.answer is is)))

  begins : (host : HostSeen) (number : ℕ) (names : List Name) → Takes host → Leaves (at_members host number names)
  begins host number names is =
      either host.begun _ _ is (either (not (has_name names (name_of (host_node host).state))) _ _ is is)

  stepped : (host : HostSeen) (number : ℕ) (line : Line) → Takes host → Leaves (step_of_line host number line)
  stepped host number (Members names) is = begins host number names is
  stepped host number (Packet sender k frame) is = headed host number sender k frame (head_of (host_settings host) frame) is
  stepped host number (Ack sender k) is = is
  stepped host number (Start begun) is = started host number begun is
  stepped host number Tick is = is
  stepped host number Status is = is

  lined : (host : HostSeen) (number : ℕ) (line : Option Line) → Takes host → Leaves (host_step host number line)
  lined host number None is = is
  lined host number (Some line) is = stepped host number line is

pub taken_stays : TakenStaysTaken
taken_stays host number text from seq is = lined from seq host number (node_line_of_text (host_settings host) text) is
