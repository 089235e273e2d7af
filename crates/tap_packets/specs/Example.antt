-- An example of a run over a carrier: two nodes of which the second one joins. The packet of the first frame is lost, and a tick sends the
-- frame once more.
use Rattle.std.specs.Prelude.{◌≡◌, ℕ, List, [], ◌∷◌, ◌++◌}
use Rattle.tap_name.specs.Settings.{SettingsValue}
use Rattle.tap_scenario.specs.declared.step.Step.TheVariants.{Deliver, Join, Lose, Settle, Tick}
use Rattle.tap_log.specs.declared.record.Record.{Record}
use Rattle.tap_log.specs.declared.record.Record.TheVariants.{Arrived, Core, Lost, Refused, Sent, Step as StepRecord, Taken, Ticked}
use Rattle.tap_log.specs.declared.record.Refusal.TheVariants.{NoSuchFlight}
use Rattle.tap_history.specs.Moments.{awaiting, outstanding, under_way}
use Rattle.tap_packets.specs.Packets.{packet_record}
use Rattle.tap_packets.specs.Groups.{CarrierMove, ack_line, data_line, log_after}
use Rattle.tap_packets.specs.Groups.CarrierMove.{Acts, Arrives, Loses, Ticks}
use Rattle.tap_packets.specs.PacketLaws.{carried_beginning}

-- the name of the node that joins, and of the one that is there
abbrev pub joining_name : List ℕ
joining_name = 0 ∷ 1 ∷ []

abbrev pub member_name : List ℕ
member_name = 0 ∷ 0 ∷ []

-- what the carrier does, if these are the bytes of each frame
unfoldable pub lost_packet_moves : (ℕ → List ℕ) → List CarrierMove
lost_packet_moves bytes =
    Acts 1 (Join joining_name member_name) (Sent 0 (bytes 0) ∷ [])
    ∷ Acts 2 (Lose 1) (Refused 2 (NoSuchFlight 1) ∷ [])
    ∷ Loses 3 0 (data_line 0 0)
    ∷ Acts 4 (Deliver 0) (Refused 4 (NoSuchFlight 0) ∷ [])
    ∷ Acts 5 Tick []
    ∷ Ticks
    ∷ Acts 6 Settle []
    ∷ Arrives (data_line 1 0) (Sent 1 (bytes 1) ∷ Sent 2 (bytes 2) ∷ [])
    ∷ Arrives (data_line 2 1) []
    ∷ Arrives (data_line 3 2) (Sent 3 (bytes 3) ∷ Sent 4 (bytes 4) ∷ [])
    ∷ Arrives (ack_line 4 0) []
    ∷ Arrives (ack_line 5 1) []
    ∷ Arrives (data_line 6 3) (Sent 5 (bytes 5) ∷ [])
    ∷ Arrives (data_line 7 4) (Sent 6 (bytes 6) ∷ [])
    ∷ Arrives (ack_line 8 2) []
    ∷ Arrives (data_line 9 5) []
    ∷ Arrives (ack_line 10 3) []
    ∷ Arrives (data_line 11 6) (Core joining_name ∷ Sent 7 (bytes 7) ∷ [])
    ∷ Arrives (ack_line 12 4) []
    ∷ Arrives (ack_line 13 5) []
    ∷ Arrives (data_line 14 7) []
    ∷ Arrives (ack_line 15 6) []
    ∷ Arrives (ack_line 16 7) []
    ∷ []

-- the groups of these moves, one on each line
unfoldable pub lost_packet_groups : (ℕ → List ℕ) → List Record
lost_packet_groups bytes =
    StepRecord 1 (Join joining_name member_name) ∷ Sent 0 (bytes 0) ∷ packet_record (data_line 0 0)
    ∷ StepRecord 2 (Lose 1) ∷ Refused 2 (NoSuchFlight 1)
    ∷ StepRecord 3 (Lose 0) ∷ Lost 0
    ∷ StepRecord 4 (Deliver 0) ∷ Refused 4 (NoSuchFlight 0)
    ∷ StepRecord 5 Tick
    ∷ Ticked ∷ packet_record (data_line 1 0)
    ∷ StepRecord 6 Settle
    ∷ Arrived 1 ∷ Taken 0 ∷ Sent 1 (bytes 1) ∷ Sent 2 (bytes 2)
    ∷ packet_record (data_line 2 1) ∷ packet_record (data_line 3 2) ∷ packet_record (ack_line 4 0)
    ∷ Arrived 2 ∷ Taken 1 ∷ packet_record (ack_line 5 1)
    ∷ Arrived 3 ∷ Taken 2 ∷ Sent 3 (bytes 3) ∷ Sent 4 (bytes 4)
    ∷ packet_record (data_line 6 3) ∷ packet_record (data_line 7 4) ∷ packet_record (ack_line 8 2)
    ∷ Arrived 4
    ∷ Arrived 5
    ∷ Arrived 6 ∷ Taken 3 ∷ Sent 5 (bytes 5) ∷ packet_record (data_line 9 5) ∷ packet_record (ack_line 10 3)
    ∷ Arrived 7 ∷ Taken 4 ∷ Sent 6 (bytes 6) ∷ packet_record (data_line 11 6) ∷ packet_record (ack_line 12 4)
    ∷ Arrived 8
    ∷ Arrived 9 ∷ Taken 5 ∷ packet_record (ack_line 13 5)
    ∷ Arrived 10
    ∷ Arrived 11 ∷ Taken 6 ∷ Core joining_name ∷ Sent 7 (bytes 7) ∷ packet_record (data_line 14 7) ∷ packet_record (ack_line 15 6)
    ∷ Arrived 12
    ∷ Arrived 13
    ∷ Arrived 14 ∷ Taken 7 ∷ packet_record (ack_line 16 7)
    ∷ Arrived 15
    ∷ Arrived 16
    ∷ []

-- the whole log
abbrev pub lost_packet_log : SettingsValue → ℕ → (ℕ → List ℕ) → List Record
lost_packet_log settings frames bytes = carried_beginning settings frames (member_name ∷ []) ++ lost_packet_groups bytes

-- The moves give the log. At its end no frame is outstanding, no packet is under way, and none awaits its acknowledgement.
pub record AnExample : Type 0 where
  pub log : (settings : SettingsValue) (frames : ℕ) (bytes : ℕ → List ℕ)
      → log_after (carried_beginning settings frames (member_name ∷ [])) (lost_packet_moves bytes) ≡ lost_packet_log settings frames bytes
  pub outstanding : (settings : SettingsValue) (frames : ℕ) (bytes : ℕ → List ℕ) → outstanding (lost_packet_log settings frames bytes) ≡ []
  pub under_way : (settings : SettingsValue) (frames : ℕ) (bytes : ℕ → List ℕ) → under_way (lost_packet_log settings frames bytes) ≡ []
  pub awaiting : (settings : SettingsValue) (frames : ℕ) (bytes : ℕ → List ℕ) → awaiting (lost_packet_log settings frames bytes) ≡ []
