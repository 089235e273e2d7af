-- Which records may come after a log with packets, and what such a log keeps.
use Rattle.std.specs.Prelude.{◌≡◌, ◌≢◌, ℕ, ◌<◌, true, false, List, [], ◌∷◌, ◌++◌, All, AllPairs, Contains}
use Rattle.std.specs.List.{range_with_len}
use Rattle.std.specs.Option.{IfSome}
use Rattle.tap_log.specs.declared.record.Record.{Record}
use Rattle.tap_log.specs.declared.record.Record.TheVariants.{Arrived}
use Rattle.tap_log.specs.Counts.{packet_count, sent_count}
use Rattle.tap_log.specs.Kinds.{ended_number, sent_number, taken_number}
use Rattle.tap_history.specs.GroupLaws.{ArePacketsNumbered}
use Rattle.tap_history.specs.Moments.{has_number, outstanding, under_way}
use Rattle.tap_packets.specs.Packets.{PacketLine, frames_sent, frames_taken, lines_under_way, made_packet, packet_lines}

-- Frames and packets are numbered from 0. No packet ends that wasn't made, and none is made for a frame that wasn't sent. No frame is
-- taken that wasn't sent, none is taken twice, and none is acknowledged that wasn't taken.
pub record KeepsPackets (log : List Record) : Type 0 where
  pub sent : frames_sent log ≡ range_with_len 0 (sent_count log)
  pub packets : ArePacketsNumbered log
  pub taken : All (λ frame. frame < sent_count log) (frames_taken log)
  pub once : AllPairs (λ frame other. frame ≢ other) (frames_taken log)
  pub acks : All (λ line. line.ack ≡ true → has_number (frames_taken log) line.frame ≡ true) (packet_lines log)

-- ---- which record may come

-- the frame is outstanding, and the last record is the arrival of a data packet of it
pub record HasJustArrived (log : List Record) (frame : ℕ) : Type 0 where
  pub waits : has_number (outstanding log) frame ≡ true
  pub before : List Record
  pub line : PacketLine
  pub last : log ≡ before ++ Arrived line.number ∷ []
  pub under_way : Contains (lines_under_way before) line
  pub data_packet : line.ack ≡ false
  pub carries : line.frame ≡ frame

-- the packet has the next number, its frame was sent, and if it acknowledges this, the frame was taken
pub record MayBeMade (log : List Record) (line : PacketLine) : Type 0 where
  pub number : line.number ≡ packet_count log
  pub frame : line.frame < sent_count log
  pub taken : line.ack ≡ true → has_number (frames_taken log) line.frame ≡ true

-- The record may come after the log: a frame that it sends has the next number, one that it takes has just arrived, a packet that it makes
-- may be made, and one that it ends is under way.
pub record MayCome (log : List Record) (item : Record) : Type 0 where
  pub sends : IfSome (sent_number item) (λ number. number ≡ sent_count log)
  pub takes : IfSome (taken_number item) (HasJustArrived log)
  pub makes : IfSome (made_packet item) (MayBeMade log)
  pub ends : IfSome (ended_number item) (λ number. has_number (under_way log) number ≡ true)
