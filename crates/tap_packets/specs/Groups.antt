-- The groups that a carrier adds to a log.
use Rattle.std.specs.Prelude.{◌≡◌, ℕ, ◌+◌, Bool, true, false, List, [], ◌∷◌, ◌++◌, map, Contains}
use Rattle.std.specs.List.{range_with_len}
use Rattle.tap_scenario.specs.declared.step.Step.{Step}
use Rattle.tap_scenario.specs.declared.step.Step.TheVariants.{Lose, Repeat}
use Rattle.tap_log.specs.declared.record.Record.{Record}
use Rattle.tap_log.specs.declared.record.Record.TheVariants.{Step as StepRecord, Taken, Arrived, Ticked, Lost}
use Rattle.tap_log.specs.Counts.{packet_count, resends, sent_count}
use Rattle.tap_log.specs.Log.{begun_steps}
use Rattle.tap_history.specs.Moments.{awaiting, has_number, outstanding}
use Rattle.tap_packets.specs.Packets.{PacketLine, frames_sent, frames_taken, lines_under_way, packet_lines, packet_record, packets_ended}

-- the data packet of a frame, and its acknowledgement, of this number
abbrev pub data_line : ℕ → ℕ → PacketLine
data_line number frame = record { number = number; frame = frame; ack = false }

abbrev pub ack_line : ℕ → ℕ → PacketLine
ack_line number frame = record { number = number; frame = frame; ack = true }

-- a data packet for each of these frames, numbered from this number on
abbrev pub data_lines : ℕ → List ℕ → List PacketLine
data_lines number [] = []
data_lines number (frame ∷ frames) = data_line number frame ∷ data_lines (number + 1) frames

-- the records of these, after the packets of the log
abbrev pub data_packets : List Record → List ℕ → List Record
data_packets log frames = map packet_record (data_lines (packet_count log) frames)

-- These records may say what a node does at a start, or with a frame that it takes. The frames that it sends are numbered on, and nothing
-- else begins a step, takes a frame, or makes or ends a packet.
pub record AreActed (log items : List Record) : Type 0 where
  pub sends : frames_sent items ≡ range_with_len (sent_count log) (sent_count items)
  pub begins : begun_steps items ≡ []
  pub takes : frames_taken items ≡ []
  pub makes : packet_lines items ≡ []
  pub ends : packets_ended items ≡ []

-- ---- groups

-- The group of a step that neither loses nor repeats a packet: what the step comes to, and a data packet for each frame that is sent.
abbrev pub carried_step_group : List Record → ℕ → Step → List Record → List Record
carried_step_group log index step items = StepRecord index step ∷ items ++ data_packets log (frames_sent items)

-- the group of a step that loses a packet, which was at this place
abbrev pub lose_group : ℕ → ℕ → PacketLine → List Record
lose_group index place line = StepRecord index (Lose place) ∷ Lost line.number ∷ []

-- the same packet once more, with the next number
abbrev pub copied_line : List Record → PacketLine → PacketLine
copied_line log line = record { number = packet_count log; frame = line.frame; ack = line.ack }

-- the group of a step that repeats a packet, which is at this place
abbrev pub repeat_group : List Record → ℕ → ℕ → PacketLine → List Record
repeat_group log index place line = StepRecord index (Repeat place) ∷ packet_record (copied_line log line) ∷ []

-- the group of a tick: a data packet for each frame that awaits its acknowledgement
abbrev pub tick_group : List Record → List Record
tick_group log = Ticked ∷ data_packets log (awaiting log)

-- After the arrival of a data packet whose frame is outstanding: the frame is taken, its receiver acts, a data packet is made for each
-- frame that this sends, and then the acknowledgement.
abbrev pub taking_records : List Record → PacketLine → List Record → List Record
taking_records log line items =
    Taken line.frame ∷ items
    ++ (data_packets log (frames_sent items) ++ packet_record (ack_line (packet_count log + sent_count items) line.frame) ∷ [])

-- After the arrival of a packet, by whether it acknowledges its frame and whether that is outstanding: an acknowledgement makes no records,
-- and a data packet whose frame was taken before is acknowledged again.
abbrev pub arrival_records : List Record → PacketLine → List Record → Bool → Bool → List Record
arrival_records log line items true waits = []
arrival_records log line items false true = taking_records log line items
arrival_records log line items false false = packet_record (ack_line (packet_count log) line.frame) ∷ []

-- the group of a packet that arrives
abbrev pub arrival_group : List Record → PacketLine → List Record → List Record
arrival_group log line items =
    Arrived line.number ∷ arrival_records log line items line.ack (has_number (outstanding log) line.frame)

-- ---- moves

-- What a carrier does next: it has a step begin that comes to these records; a packet arrives, and these records say what the receiver of
-- its frame does; a step loses the packet at a place, or repeats it; or all frames that await are sent once more.
pub data CarrierMove : Type 0 where
  Acts : ℕ → Step → List Record → CarrierMove
  Arrives : PacketLine → List Record → CarrierMove
  Loses : ℕ → ℕ → PacketLine → CarrierMove
  Repeats : ℕ → ℕ → PacketLine → CarrierMove
  Ticks : CarrierMove

-- the group of a move
abbrev pub group_of : List Record → CarrierMove → List Record
group_of log (Acts index step items) = carried_step_group log index step items
group_of log (Arrives line items) = arrival_group log line items
group_of log (Loses index place line) = lose_group index place line
group_of log (Repeats index place line) = repeat_group log index place line
group_of log Ticks = tick_group log

-- A packet arrives, is lost or is repeated only if it is under way. The records of a node are as above, and of a step that sends packets
-- once more they send nothing.
abbrev pub IsCarrierMove : List Record → CarrierMove → Type 0
IsCarrierMove log (Acts index step items) = AreActed log items × (resends step ≡ true → frames_sent items ≡ [])
IsCarrierMove log (Arrives line items) = Contains (lines_under_way log) line × AreActed log items
IsCarrierMove log (Loses index place line) = Contains (lines_under_way log) line
IsCarrierMove log (Repeats index place line) = Contains (lines_under_way log) line
IsCarrierMove log Ticks = Unit {0}

-- each of these is a move after the moves before it
abbrev pub AreCarrierMoves : List Record → List CarrierMove → Type 0
AreCarrierMoves log [] = Unit {0}
AreCarrierMoves log (move ∷ moves) = IsCarrierMove log move × AreCarrierMoves (log ++ group_of log move) moves

-- the log after these moves
abbrev pub log_after : List Record → List CarrierMove → List Record
log_after log [] = log
log_after log (move ∷ moves) = log_after (log ++ group_of log move) moves
