-- When the boxes of all nodes and the net are what a log says.
--
-- Rule: docs/PROTOCOL.md, "Packets".
use Rattle.std.specs.Prelude.{◌≡◌, List, length}
use Rattle.tap_name.specs.Settings.{SettingsValue}
use Rattle.tap_log.specs.declared.record.Record.{Record}
use Rattle.tap_history.specs.Moments.{awaiting}
use Rattle.tap_packets.specs.Matching.{InboxesMatch, NetMatches, OutboxesMatch}
use Rattle.tap_boxes.specs.Boxes.{BoxesValue, inbox_of, outbox_of}

-- Outboxes are what the first log says, and all else is what the second one says. These are one log once a group was added; while one is
-- added, the second log has frames that outboxes don't have yet.
pub record KeepsBoxes (p : SettingsValue) (sent log : List Record) (boxes : BoxesValue) : Type 0 where
  pub outboxes : OutboxesMatch p sent (outbox_of boxes.outboxes)
  pub awaiting : boxes.outboxes.awaiting ≡ length (awaiting sent)
  pub inboxes : InboxesMatch p log (inbox_of boxes.inboxes)
  pub net : NetMatches p log boxes.net
