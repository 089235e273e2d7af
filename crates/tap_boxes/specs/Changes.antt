-- What each call makes of the boxes of all nodes and the net.
--
-- Rule: docs/PROTOCOL.md, "Packets".
use Rattle.std.specs.Prelude.{◌≡◌, ℕ, ◌+◌, Bool, if◌then◌else◌, List}
use Rattle.tap_carry.specs.declared.net.Packet.{Packet}
use Rattle.tap_carry.specs.Net.{put_with, taken_at}
use Rattle.tap_carry.specs.Outbox.{await_with, awaits_one, last_to}
use Rattle.tap_packets.specs.Matching.{ArrivesAt, IsAckedAt, SendsFrom, data_packet_of}
use Rattle.tap_boxes.specs.Boxes.{BoxesValue, inbox_of, outbox_of}

-- the packet was put into the net, and all else stays
abbrev pub with_packet : BoxesValue → Packet → BoxesValue
with_packet boxes packet = record boxes { net = put_with boxes.net packet }

-- the packet at this place of the net is gone, and all else stays
abbrev pub without_packet : BoxesValue → ℕ → BoxesValue
without_packet boxes place = record boxes { net = taken_at boxes.net place }

-- the data packet of a frame that a node sends next
abbrev pub packet_to_send : BoxesValue → List ℕ → List ℕ → ℕ → Packet
packet_to_send boxes from to frame =
    data_packet_of from (await_with to (last_to (outbox_of boxes.outboxes from) to + 1) frame)

-- The frame was put into its sender's outbox. Inboxes and the net stay.
pub record HasSent (from to : List ℕ) (frame : ℕ) (before after : BoxesValue) : Type 0 where
  pub sends : SendsFrom (outbox_of before.outboxes) (outbox_of after.outboxes) from to frame
  pub awaiting : after.outboxes.awaiting ≡ before.outboxes.awaiting + 1
  pub inboxes : after.inboxes ≡ before.inboxes
  pub net : after.net ≡ before.net

-- whether the node to which an acknowledgement goes awaits it
abbrev pub is_awaited : BoxesValue → Packet → Bool
is_awaited boxes packet = awaits_one (outbox_of boxes.outboxes packet.to) packet.from packet.seq

-- An acknowledgement has arrived at the outbox of the node to which it goes. Inboxes and the net stay.
pub record HasAcked (packet : Packet) (before after : BoxesValue) : Type 0 where
  pub acked : IsAckedAt (outbox_of before.outboxes) (outbox_of after.outboxes) packet.to packet.from packet.seq
  pub awaiting : before.outboxes.awaiting ≡ after.outboxes.awaiting + (if is_awaited before packet then 1 else 0)
  pub inboxes : after.inboxes ≡ before.inboxes
  pub net : after.net ≡ before.net

-- The sequence number of a data packet has arrived at the inbox of the node to which it goes. Outboxes and the net stay.
pub record HasArrived (packet : Packet) (before after : BoxesValue) : Type 0 where
  pub arrives : ArrivesAt (inbox_of before.inboxes) (inbox_of after.inboxes) packet.to packet.from packet.seq
  pub outboxes : after.outboxes ≡ before.outboxes
  pub net : after.net ≡ before.net
