-- A tick adds its group, or not all of it.
use Rattle.std.proofs.Common.{◌≡◌, ◌+◌, ◌≤◌, List, length, Result, Ok, Err, sym, subst, ◌∙◌, arith}
use Rattle.tap_scenario.specs.Scenario.{ScenarioValue}
use Rattle.tap_log.specs.declared.record.Record.{Record}
use Rattle.tap_log.specs.Counts.{packet_count, sent_count}
use Rattle.tap_log.specs.Kinds.{sent_number}
use Rattle.tap_log.proofs.MoreRecords.{sent_count-append}
use Rattle.tap_history.specs.Moments.{awaiting}
use Rattle.tap_carry.specs.Net.{most_packets}
use Rattle.tap_packets.specs.Groups.{data_lines, tick_group}
use Rattle.tap_packets.specs.MayCome.{KeepsPackets}
use Rattle.tap_runs.specs.Beginning.{Beginning}
use Rattle.tap_packets.proofs.OneRecord.{awaiting-most}
use Rattle.tap_engine.specs.World.{WorldValue, whole_log}
use Rattle.tap_engine.specs.declared.stop.Stop.{Stop}
use Rattle.tap_engine.specs.declared.stop.Stop.TheVariants.{Ended, NoMemory, Refused, Spent}
use Rattle.tap_carrier.specs.Carrier.{CarrierValue}
use Rattle.tap_carrier.specs.Kept.{KeepsLog}
use Rattle.tap_carrier.specs.Sending.{RemarksAll}
use Rattle.tap_carried_world.specs.Adds.{AddsNext}
use Rattle.tap_carried_world.specs.Comes.{TicksNext}
use Rattle.tap_carried_world.specs.Value.{CarriesRun}
use Rattle.tap_carried_world.proofs.Adding.{has_added, lacks_front}
use Rattle.tap_carried_world.proofs.NextGroups.{tick_next}
use Rattle.tap_carried_world.proofs.NodeRecords.{packets_send_none}
use Rattle.tap_carried_world.proofs.RunLogs.{Laws, few_frames, few_packets, packets_kept}

-- a tick sends no frame
tick_sends_none : (log : List Record) → sent_count (tick_group log) ≡ 0
unfolding sent_number
tick_sends_none log = packets_send_none (data_lines (packet_count log) (awaiting log))

module _ (laws : Laws) (s : ScenarioValue) (w : WorldValue) (c : CarrierValue) (of : CarriesRun s w c) where
  -- there are numbers left for the packets
  pub tick_room : packet_count (whole_log w) + length (awaiting (whole_log w)) ≤ most_packets
  tick_room =
      let made = few_packets laws s of.script (whole_log w) of.goes_on.played in
      let sent = of.goes_on.played.within in
      let most = few_frames s of.script in
      let few = awaiting-most (whole_log w) in
      omega (arith, made, sent, most, few)

  pub tick_adds : TicksNext w → (given : Result (Unit {0}) Stop) (v : WorldValue) (d : CarrierValue)
      → RemarksAll (tick_group (whole_log w)) (KeepsLog s.settings (whole_log v) d) w given v → AddsNext s w given v d
  tick_adds next (Ok done) v d all =
      let group = tick_group (whole_log w) in
      let sent = sent_count-append (whole_log w) group in
      let none = tick_sends_none (whole_log w) in
      let few = of.goes_on.played.within in
      has_added laws s w c of group v d (tick_next s (whole_log w) next) (omega (arith, sent, none, few)) all.0.log
      (record {
        beginning = all.0.beginning;
        noted = all.0.refused ∙ of.goes_on.noted;
        unstopped = all.0.stopped ∙ of.goes_on.unstopped;
      })
      (subst (λ l. KeepsLog s.settings l d) all.0.log all.1)
  tick_adds next (Err NoMemory) v d short =
      let group = tick_group (whole_log w) in
      let sent = sent_count-append (whole_log w) group in
      let none = tick_sends_none (whole_log w) in
      let few = of.goes_on.played.within in
      lacks_front s w v group short.kept (tick_next s (whole_log w) next) short.few
      (λ many. absurd (omega (arith, many, sent, none, few))) short.log
      (record { beginning = short.beginning; noted = short.refused ∙ of.goes_on.noted })
  tick_adds next (Err Spent) v d never = absurd never
  tick_adds next (Err Ended) v d never = never
  tick_adds next (Err (Refused refusal)) v d never = never

  -- ---- by the settings with which the world began

  pub tick_keeps : KeepsLog w.beginning.settings (whole_log w) c
  tick_keeps = subst (λ (b : Beginning). KeepsLog b.settings (whole_log w) c) (sym of.goes_on.beginning) of.keeps

  pub tick_packets : KeepsPackets (whole_log w)
  tick_packets = packets_kept laws s of.script (whole_log w) of.goes_on.played

  pub tick_done : TicksNext w → (given : Result (Unit {0}) Stop) (v : WorldValue) (d : CarrierValue)
      → RemarksAll (tick_group (whole_log w)) (KeepsLog w.beginning.settings (whole_log v) d) w given v → AddsNext s w given v d
  tick_done next given v d all =
      tick_adds next given v d
      (subst (λ (b : Beginning). RemarksAll (tick_group (whole_log w)) (KeepsLog b.settings (whole_log v) d) w given v) of.goes_on.beginning all)
