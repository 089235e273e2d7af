-- How a frame is taken out of a packet that has arrived.
--
-- Rule: docs/PROTOCOL.md, "Packets".
use Rattle.std.specs.Prelude.{◌≡◌, ℕ, ◌<◌, ◌≤◌, false, true, List, [], ◌∷◌, ◌++◌, length, take, Result, Ok, Err, Some}
use Rattle.tap_scenario.specs.Scenario.{ScenarioValue}
use Rattle.tap_log.specs.declared.record.Record.{Record}
use Rattle.tap_log.specs.declared.record.Record.TheVariants.{Arrived, Spent as SpentRecord, Taken}
use Rattle.tap_log.specs.Counts.{sent_count}
use Rattle.tap_history.specs.Moments.{has_number, outstanding}
use Rattle.tap_engine.specs.Kinds.{is_finished}
use Rattle.tap_engine.specs.World.{WorldValue, whole_log}
use Rattle.tap_engine.specs.declared.stop.Stop.{Stop}
use Rattle.tap_engine.specs.declared.stop.Stop.TheVariants.{NoMemory, Spent}
use Rattle.tap_packets.specs.Groups.{data_packets}
use Rattle.tap_packets.specs.Matching.{FrameArrives}
use Rattle.tap_packets.specs.Packets.{PacketLine, frames_sent}
use Rattle.tap_packets.specs.Sequence.{frame_ways}
use Rattle.tap_lawful.specs.CarriedDue.{carried_due}
use Rattle.tap_lawful.specs.CarriedDue.Due.{ArrivalDue}
use Rattle.tap_lawful.specs.CarriedNext.{reduced_taken_records}
use Rattle.tap_lawful.specs.CarriedRuns.{IsCarriedPlayed, IsCarriedScript}
use Rattle.tap_lawful.specs.Next.{beginning_in}
use Rattle.tap_carried_world.specs.Adds.{IsLeft}
use Rattle.tap_boxes.specs.Boxes.{InboxesValue, inbox_of}
use Rattle.tap_carrier.specs.Carrier.{CarrierValue}
use Rattle.tap_carrier.specs.Kept.{KeepsLog}

-- The frame is outstanding, and has arrived in its receiver's inbox. But for this the boxes, the net and the counts are what the log says.
pub record IsToTake (s : ScenarioValue) (w : WorldValue) (frame : ℕ) (c : CarrierValue) : Type 0 where
  pub waits : has_number (outstanding (whole_log w)) frame ≡ true
  pub inboxes : InboxesValue
  pub keeps : KeepsLog s.settings (whole_log w) (record c { boxes = record c.boxes { inboxes = inboxes } })
  pub arrived : FrameArrives (frame_ways s.settings (whole_log w)) frame (inbox_of inboxes) (inbox_of c.boxes.inboxes)

-- The log is what a carried run has come to, and then that the data packet has arrived which is due: it carries the frame.
pub record CanTake (s : ScenarioValue) (w : WorldValue) (frame : ℕ) : Type 0 where
  pub script : IsCarriedScript s
  pub played : List Record
  pub is_played : IsCarriedPlayed s played
  pub line : PacketLine
  pub log : whole_log w ≡ played ++ Arrived line.number ∷ []
  pub beginning : w.beginning ≡ beginning_in s
  pub due : carried_due played ≡ Some (ArrivalDue line)
  pub carries : line.ack ≡ false
  pub frame_is : line.frame ≡ frame

-- the frame is taken, its receiver acts, and a data packet is made for each frame that this sends
abbrev pub records_of_taking : ScenarioValue → List Record → ℕ → List Record
records_of_taking s log frame =
    Taken frame ∷ reduced_taken_records s.settings log frame
    ++ data_packets log (frames_sent (reduced_taken_records s.settings log frame))

-- All of this was added, and the carrier keeps what the log says. The world goes on.
pub record HasTaken (s : ScenarioValue) (frame : ℕ) (before after : WorldValue) (c : CarrierValue) : Type 0 where
  pub log : whole_log after ≡ whole_log before ++ records_of_taking s (whole_log before) frame
  pub within : sent_count (whole_log after) ≤ s.frames
  pub left : IsLeft before after
  pub runs : after.stopped ≡ false
  pub unfinished : is_finished after.log ≡ false
  pub keeps : KeepsLog s.settings (whole_log after) c

-- too many frames would be sent, and the log says so
pub record IsTooMuch (s : ScenarioValue) (frame : ℕ) (before after : WorldValue) : Type 0 where
  pub over : s.frames < sent_count (whole_log before ++ records_of_taking s (whole_log before) frame)
  pub log : whole_log after ≡ whole_log before ++ SpentRecord s.frames ∷ []
  pub left : IsLeft before after
  pub stopped : after.stopped ≡ true

-- memory was refused: some first records of it were added, and not all; if it would send too many frames, none
pub record IsTakenShort (s : ScenarioValue) (frame : ℕ) (before after : WorldValue) : Type 0 where
  pub kept : ℕ
  pub few : kept < length (records_of_taking s (whole_log before) frame)
  pub none : s.frames < sent_count (whole_log before ++ records_of_taking s (whole_log before) frame) → kept ≡ 0
  pub log : whole_log after ≡ whole_log before ++ take kept (records_of_taking s (whole_log before) frame)
  pub left : IsLeft before after

-- by the answer
abbrev pub TakesFrame : ScenarioValue → ℕ → WorldValue → Result (Unit {0}) Stop → WorldValue → CarrierValue → Type 0
TakesFrame s frame before (Ok done) after c = HasTaken s frame before after c
TakesFrame s frame before (Err Spent) after c = IsTooMuch s frame before after
TakesFrame s frame before (Err NoMemory) after c = IsTakenShort s frame before after
TakesFrame s frame before (Err other) after c = ⊥
