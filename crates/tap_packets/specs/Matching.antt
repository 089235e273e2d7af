-- When the boxes of nodes and the net are what a log says, and what each record of the log does to them.
--
-- Rule: docs/PROTOCOL.md, "Packets".
use Rattle.std.specs.Prelude.{◌≡◌, ℕ, ◌<◌, ◌≤◌, Bool, true, false, if◌then◌else◌, List, [], ◌∷◌, ◌++◌, length, map, filter, All, Contains, None, ◌⊎◌}
use Rattle.std.specs.List.{flat_map, list_any}
use Rattle.std.specs.Option.{IfSome}
use Rattle.tap_name.specs.Settings.{SettingsValue}
use Rattle.tap_log.specs.declared.record.Record.{Record}
use Rattle.tap_log.specs.Counts.{packet_count, sent_count}
use Rattle.tap_log.specs.Kinds.{arrived_number, ended_number, taken_number}
use Rattle.tap_history.specs.Moments.{awaiting}
use Rattle.tap_carry.specs.declared.net.Numbered.{Numbered}
use Rattle.tap_carry.specs.declared.net.Packet.{Packet}
use Rattle.tap_carry.specs.declared.outbox.Await.{Await}
use Rattle.tap_carry.specs.Inbox.{ArrivesIn, InboxValue, has_arrived}
use Rattle.tap_carry.specs.Names.{is_name}
use Rattle.tap_carry.specs.Net.{NetValue, numbered, packets_less, put_with}
use Rattle.tap_carry.specs.Outbox.{OutboxValue, SendsTo, acked_by, await_with, last_to}
use Rattle.tap_packets.specs.Packets.{PacketLine, frames_taken, lines_under_way, made_packet}
use Rattle.tap_packets.specs.Sequence.{Way, sent_way, sequence_in, has_sequence, way_at, way_between, way_count, frame_ways}

-- ---- outboxes

-- the outbox of each node, by its name
abbrev pub Outboxes : Type 0
Outboxes = List ℕ → OutboxValue

-- the outbox of a node that has sent nothing
abbrev pub no_frames : OutboxValue
no_frames = record { awaits = []; last = []; next = 0 }

-- the node of this name sent the frame
abbrev pub is_from : List Way → List ℕ → ℕ → Bool
is_from ways name frame = is_name (way_at ways frame).from name

-- a frame as its sender's outbox keeps it
abbrev pub await_of : List Way → ℕ → Await
await_of ways frame = await_with (way_at ways frame).to (sequence_in ways frame) frame

-- what the outbox of this name keeps of these frames
abbrev pub awaits_from : List Way → List ℕ → List ℕ → List Await
awaits_from ways frames name = map (await_of ways) (filter (is_from ways name) frames)

-- Each outbox keeps those frames of its node that await their acknowledgement. Its last number for a receiver is how many its node has sent
-- there, and the least frame that it may send is above each that its node has sent, and at most the next one.
pub record OutboxesMatch (settings : SettingsValue) (log : List Record) (boxes : Outboxes) : Type 0 where
  pub awaits : (name : List ℕ) → (boxes name).awaits ≡ awaits_from (frame_ways settings log) (awaiting log) name
  pub last : (name to : List ℕ) → last_to (boxes name) to ≡ way_count (frame_ways settings log) (way_between name to)
  pub above : (name : List ℕ) (frame : ℕ) → frame < sent_count log → is_from (frame_ways settings log) name frame ≡ true
      → frame < (boxes name).next
  pub most : (name : List ℕ) → (boxes name).next ≤ sent_count log

-- ---- inboxes

-- the inbox of each node, by its name
abbrev pub Inboxes : Type 0
Inboxes = List ℕ → InboxValue

-- one of these frames goes this way, with this sequence number
abbrev pub any_has_sequence : List Way → List ℕ → Way → ℕ → Bool
any_has_sequence ways frames way seq = list_any (has_sequence ways way seq) frames

-- what has arrived in an inbox is what its node has taken
pub record InboxesMatch (settings : SettingsValue) (log : List Record) (boxes : Inboxes) : Type 0 where
  pub arrived : (name from : List ℕ) (seq : ℕ)
      → has_arrived (boxes name) from seq ≡ any_has_sequence (frame_ways settings log) (frames_taken log) (way_between from name) seq

-- ---- the net

-- a packet as the net has it: a data packet goes the way of its frame, and an acknowledgement back
abbrev pub packet_along : List Way → PacketLine → Packet
packet_along ways line = record {
  from = if line.ack then (way_at ways line.frame).to else (way_at ways line.frame).from;
  to = if line.ack then (way_at ways line.frame).from else (way_at ways line.frame).to;
  seq = sequence_in ways line.frame;
  frame = line.frame;
  ack = line.ack;
}

-- the same with its number
abbrev pub numbered_along : List Way → PacketLine → Numbered
numbered_along ways line = numbered line.number (packet_along ways line)

-- the net has the packets that are under way, and has given as many numbers as packets were made
pub record NetMatches (settings : SettingsValue) (log : List Record) (net : NetValue) : Type 0 where
  pub made : net.made ≡ packet_count log
  pub packets : net.packets ≡ map (numbered_along (frame_ways settings log)) (lines_under_way log)

-- the net in which no packet was put
abbrev pub no_packets : NetValue
no_packets = record { made = 0; packets = [] }

-- ---- what a record does to them

-- the boxes of all names but this one stay as they are
abbrev pub OtherBoxesStay : {V : Type 0} → (List ℕ → V) → (List ℕ → V) → List ℕ → Type 0
OtherBoxesStay before after name = (other : List ℕ) → (other ≡ name) ⊎ (after other ≡ before other)

-- the node of this name sends a frame
pub record SendsFrom (before after : Outboxes) (from to : List ℕ) (frame : ℕ) : Type 0 where
  pub here : SendsTo (before from) (after from) to frame
  pub others : OtherBoxesStay before after from

-- at the node of this name the acknowledgement of a frame arrives, from the receiver of that
pub record IsAckedAt (before after : Outboxes) (name from : List ℕ) (seq : ℕ) : Type 0 where
  pub here : after name ≡ acked_by (before name) from seq
  pub others : OtherBoxesStay before after name

-- the packet of this number arrives: if it acknowledges, this is told to the outbox of the node to which it goes
pub record AckArrives (settings : SettingsValue) (log : List Record) (number : ℕ) (before after : Outboxes) : Type 0 where
  pub line : PacketLine
  pub under_way : Contains (lines_under_way log) line
  pub is : line.number ≡ number
  pub acked : line.ack ≡ true
      → (let packet = packet_along (frame_ways settings log) line in IsAckedAt before after packet.to packet.from packet.seq)
  pub other : line.ack ≡ false → after ≡ before

-- Outboxes change if a frame is sent, or if a packet arrives.
pub record OutboxesAfter (settings : SettingsValue) (log : List Record) (item : Record) (before after : Outboxes) : Type 0 where
  pub sends : IfSome (sent_way settings item) (λ way. SendsFrom before after way.from way.to (sent_count log))
  pub arrives : IfSome (arrived_number item) (λ number. AckArrives settings log number before after)
  pub other : sent_way settings item ≡ None → arrived_number item ≡ None → after ≡ before

-- at the node of this name a number of a sender arrives
pub record ArrivesAt (before after : Inboxes) (name from : List ℕ) (seq : ℕ) : Type 0 where
  pub here : ArrivesIn (before name) (after name) from seq
  pub others : OtherBoxesStay before after name

-- a frame arrives at its receiver
abbrev pub FrameArrives : List Way → ℕ → Inboxes → Inboxes → Type 0
FrameArrives ways frame before after =
    ArrivesAt before after (way_at ways frame).to (way_at ways frame).from (sequence_in ways frame)

-- Inboxes change if a frame is taken.
pub record InboxesAfter (settings : SettingsValue) (log : List Record) (item : Record) (before after : Inboxes) : Type 0 where
  pub takes : IfSome (taken_number item) (λ frame. FrameArrives (frame_ways settings log) frame before after)
  pub other : taken_number item ≡ None → after ≡ before

-- the net without the packet of this number
abbrev pub net_less : NetValue → ℕ → NetValue
net_less net number = record net { packets = packets_less net.packets number }

-- The net changes if a packet is made, or if one arrives or is lost.
pub record NetAfter (settings : SettingsValue) (log : List Record) (item : Record) (before after : NetValue) : Type 0 where
  pub makes : IfSome (made_packet item) (λ line. after ≡ put_with before (packet_along (frame_ways settings log) line))
  pub ends : IfSome (ended_number item) (λ number. after ≡ net_less before number)
  pub other : made_packet item ≡ None → ended_number item ≡ None → after ≡ before

-- what was before is then changed by each of these records, as the change says
abbrev pub ChangesAlong : {B : Type 0} → (List Record → Record → B → B → Type 0) → List Record → List Record → B → B → Type 0
ChangesAlong Change log [] before after = after ≡ before
ChangesAlong {B} Change log (item ∷ items) before after =
    (next : B) × Change log item before next × ChangesAlong Change (log ++ item ∷ []) items next after

-- ---- what a tick gathers

-- the frames that the outboxes of these names keep
abbrev pub frames_kept : Outboxes → List (List ℕ) → List ℕ
frames_kept boxes names = flat_map (λ name. map (λ item. item.frame) (boxes name).awaits) names

-- how often a name is among these
abbrev pub times_named : List (List ℕ) → List ℕ → ℕ
times_named names name = length (filter (is_name name) names)

-- the sender of each of these frames is among the names once
abbrev pub AreSenders : List Way → List (List ℕ) → List ℕ → Type 0
AreSenders ways names frames = All (λ frame. times_named names (way_at ways frame).from ≡ 1) frames

-- what the outbox of this name keeps of a frame, as a data packet
abbrev pub data_packet_of : List ℕ → Await → Packet
data_packet_of name item = record { from = name; to = item.to; seq = item.seq; frame = item.frame; ack = false }
