-- The packets of a log: those that were made, and those that are under way.
use Rattle.std.specs.Prelude.{ℕ, Bool, not, List, map, filter, Option, None, Some}
use Rattle.std.specs.List.{filter_map}
use Rattle.tap_log.specs.declared.record.Record.{Record}
use Rattle.tap_log.specs.declared.record.Record.TheVariants.{Packet}
use Rattle.tap_log.specs.Kinds.{ended_number, sent_number, taken_number}
use Rattle.tap_history.specs.Moments.{has_number}

-- the frames that were sent, and those that were taken, by their numbers
abbrev pub frames_sent : List Record → List ℕ
frames_sent log = filter_map sent_number log

abbrev pub frames_taken : List Record → List ℕ
frames_taken log = filter_map taken_number log

-- A packet as its record tells of it: its number, its frame, and whether it acknowledges the frame. One that doesn't is a data packet,
-- which carries the frame.
pub record PacketLine : Type 0 where
  pub number : ℕ
  pub frame : ℕ
  pub ack : Bool

-- the packet that a record makes
unfoldable pub made_packet : Record → Option PacketLine
made_packet (Packet number frame ack) = Some (record { number = number; frame = frame; ack = ack })
made_packet other = None

-- the record that makes a packet
abbrev pub packet_record : PacketLine → Record
packet_record line = Packet line.number line.frame line.ack

-- the packets that were made
abbrev pub packet_lines : List Record → List PacketLine
packet_lines log = filter_map made_packet log

-- the numbers of the packets that arrived or were lost
abbrev pub packets_ended : List Record → List ℕ
packets_ended log = filter_map ended_number log

-- the numbers of these packets, and the frame of each
abbrev pub line_numbers : List PacketLine → List ℕ
line_numbers lines = map (λ line. line.number) lines

abbrev pub line_frames : List PacketLine → List ℕ
line_frames lines = map (λ line. line.frame) lines

-- these packets without those of these numbers
abbrev pub lines_less : List PacketLine → List ℕ → List PacketLine
lines_less lines numbers = filter (λ line. not (has_number numbers line.number)) lines

-- the packets that are under way: those that were made, less those that arrived or were lost
abbrev pub lines_under_way : List Record → List PacketLine
lines_under_way log = lines_less (packet_lines log) (packets_ended log)
