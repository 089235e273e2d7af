-- What a carrier keeps: all that the log says of packets.
--
-- Rule: docs/PROTOCOL.md, "Packets".
use Rattle.std.specs.Prelude.{◌≡◌, List}
use Rattle.tap_name.specs.Settings.{SettingsValue}
use Rattle.tap_log.specs.declared.record.Record.{Record}
use Rattle.tap_log.specs.Counts.{resent_count}
use Rattle.tap_log.specs.MoreRecords.{is_resending}
use Rattle.tap_boxes.specs.Kept.{KeepsBoxes}
use Rattle.tap_carrier.specs.Carrier.{CarrierValue}

-- Outboxes are what the first log says, and all else is what the second one says. These are one log once a group was added; while one is
-- added, the second log has frames that outboxes don't have yet.
pub record Keeps (p : SettingsValue) (sent log : List Record) (c : CarrierValue) : Type 0 where
  pub boxes : KeepsBoxes p sent log c.boxes
  pub resending : c.resending ≡ is_resending log
  pub resent : c.resent ≡ resent_count log

-- the boxes, the net and the counts are what the log says
abbrev pub KeepsLog : SettingsValue → List Record → CarrierValue → Type 0
KeepsLog p log c = Keeps p log log c
