-- The turns of a carrier, and that of a root set.
--
-- Rule: docs/PROTOCOL.md, "Packets".
use Rattle.std.specs.Prelude.{ℕ, Bool, true, List, [], ◌∷◌, ◌++◌}
use Rattle.std.specs.List.{filter_map}
use Rattle.tap_scenario.specs.declared.step.Step.{Step}
use Rattle.tap_scenario.specs.declared.step.Step.TheVariants.{Lose, Repeat, RootSet}
use Rattle.tap_log.specs.declared.record.Record.{Record}
use Rattle.tap_log.specs.declared.record.Record.TheVariants.{Lost, RootsOf, Step as StepRecord, Taken}
use Rattle.tap_log.specs.Kinds.{sent_number}
use Rattle.tap_log.specs.Reduced.{reduced}
use Rattle.tap_runs.specs.Beginning.{Beginning}
use Rattle.tap_runs.specs.Course.{Follows}
use Rattle.tap_runs.specs.Named.{HasNames}
use Rattle.tap_carried.specs.LogTurns.Turn.{Arrives, Steps, Takes, Ticks}
use Rattle.tap_packets.specs.Groups.{data_packets}
use Rattle.tap_packets.specs.Packets.{PacketLine, packet_record}
use Rattle.tap_carried.specs.ReducedRuns.{TurnFollows}

-- a packet for each frame that these records send
abbrev pub packets_sent : List Record → List Record → List Record
packets_sent log items = data_packets log (filter_map sent_number items)

-- These turns may follow a carried log, if what becomes of them may follow the reduced log:
--
-- - a step, with a packet for each frame that it sends; one that has a packet lost, or made once more;
-- - a root set, which tells its roots, also in a log that isn't carried;
-- - a frame that is taken out of a packet, with a packet for each frame that is sent, and one that acknowledges it;
-- - a packet that arrives once more, with another one that acknowledges its frame; an acknowledgement that arrives, with nothing;
-- - a tick, with a packet for each of some frames.
pub record CarrierTurnsFollow : Type 0 where
  pub step : (b : Beginning) (log : List Record) (index : ℕ) (step : Step) (items : List Record)
      → Follows b (reduced log) (StepRecord index step ∷ items) → HasNames b.settings step
      → TurnFollows true b log (Steps index step items (packets_sent log items))
  pub lost : (b : Beginning) (log : List Record) (index place packet : ℕ) → Follows b (reduced log) (StepRecord index (Lose place) ∷ [])
      → TurnFollows true b log (Steps index (Lose place) [] (Lost packet ∷ []))
  pub repeated : (b : Beginning) (log : List Record) (index place : ℕ) (line : PacketLine)
      → Follows b (reduced log) (StepRecord index (Repeat place) ∷ [])
      → TurnFollows true b log (Steps index (Repeat place) [] (packet_record line ∷ []))
  pub roots : (carried : Bool) (b : Beginning) (log : List Record) (index : ℕ) (object asker : List ℕ) (found : List (List ℕ))
      → Follows b (reduced log) (StepRecord index (RootSet object asker) ∷ [])
      → TurnFollows carried b log (Steps index (RootSet object asker) [] (RootsOf object asker found ∷ []))
  pub taken : (b : Beginning) (log : List Record) (packet frame : ℕ) (items : List Record) (ack : PacketLine)
      → Follows b (reduced log) (Taken frame ∷ items)
      → TurnFollows true b log (Takes packet frame items (packets_sent log items ++ packet_record ack ∷ []))
  pub again : (b : Beginning) (log : List Record) (packet : ℕ) (ack : PacketLine)
      → TurnFollows true b log (Arrives packet (packet_record ack ∷ []))
  pub acknowledged : (b : Beginning) (log : List Record) (packet : ℕ) → TurnFollows true b log (Arrives packet [])
  pub ticks : (b : Beginning) (log : List Record) (frames : List ℕ) → TurnFollows true b log (Ticks (data_packets log frames))
