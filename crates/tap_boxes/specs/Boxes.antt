-- What contracts see of the boxes of all nodes: those of each node by its name, and the net.
--
-- Rule: docs/PROTOCOL.md, "Packets".
use Rattle.std.specs.Prelude.{ℕ, List, [], map, unwrap_or}
use Rattle.std.specs.List.{flat_map}
use Rattle.std.specs.Map.{lookup}
use Rattle.tap_carry.specs.declared.net.Packet.{Packet}
use Rattle.tap_carry.specs.Arrivals.{no_arrivals}
use Rattle.tap_carry.specs.Inbox.{InboxValue}
use Rattle.tap_carry.specs.Names.{is_name}
use Rattle.tap_carry.specs.Net.{NetValue}
use Rattle.tap_carry.specs.Outbox.{OutboxValue}
use Rattle.tap_packets.specs.Matching.{Inboxes, Outboxes, data_packet_of, no_frames, no_packets}

-- ---- outboxes

-- the outboxes that were made, each under the name of its node, and how many frames they keep in all
pub record OutboxesValue : Type 0 where
  pub boxes : List (List ℕ × OutboxValue)
  pub awaiting : ℕ

-- the outbox of each node: one that wasn't made has sent nothing
abbrev pub outbox_in : List (List ℕ × OutboxValue) → Outboxes
outbox_in boxes name = unwrap_or (lookup (is_name name) boxes) no_frames

abbrev pub outbox_of : OutboxesValue → Outboxes
outbox_of outboxes = outbox_in outboxes.boxes

-- a data packet for each frame that the outboxes keep, one outbox after the other
abbrev pub packets_kept : OutboxesValue → List Packet
packets_kept outboxes = flat_map (λ entry. map (data_packet_of entry.0) entry.1.awaits) outboxes.boxes

-- ---- inboxes

-- the inboxes that were made, each under the name of its node
abbrev pub InboxesValue : Type 0
InboxesValue = List (List ℕ × InboxValue)

-- the inbox of each node: in one that wasn't made nothing has arrived
abbrev pub inbox_of : InboxesValue → Inboxes
inbox_of inboxes name = unwrap_or (lookup (is_name name) inboxes) no_arrivals

-- ---- all of them

-- the boxes of all nodes, and the net
pub record BoxesValue : Type 0 where
  pub outboxes : OutboxesValue
  pub inboxes : InboxesValue
  pub net : NetValue

-- nothing was sent, and no packet was made
abbrev pub empty_boxes : BoxesValue
empty_boxes = record { outboxes = record { boxes = []; awaiting = 0 }; inboxes = []; net = no_packets }
