-- The data packets of a group, made by `Carrier::carry_since` once its frames are in the log.
use Rattle.std.proofs.Common.{◌≡◌, ◌≤◌, List, ◌++◌, length, All, ap, sym, subst, ◌∙◌, arith, length-append}
use Rattle.std.specs.Prelude.{drop, map, take}
use Rattle.std.proofs.Math.Seq.{drop-append_seam, take-append_seam}
use Rattle.tap_name.specs.Settings.{SettingsValue}
use Rattle.tap_log.specs.declared.record.Record.{Record}
use Rattle.tap_log.specs.Counts.{packet_count, sent_count}
use Rattle.tap_log.specs.Log.{EachRecord}
use Rattle.tap_log.proofs.MoreRecords.{sent_count-append}
use Rattle.tap_packets.specs.Groups.{data_lines, data_packets}
use Rattle.tap_packets.specs.MayCome.{MayCome}
use Rattle.tap_packets.specs.Packets.{frames_sent, packet_record, packets_ended}
use Rattle.tap_engine.specs.World.{WorldValue, whole_log}
use Rattle.tap_carrier.specs.Carrier.{CarrierValue}
use Rattle.tap_carrier.specs.Kept.{Keeps}
use Rattle.tap_carrier.specs.Sending.{HasHead, IsToCarry, packets_since}
use Rattle.tap_carried_world.proofs.NodeRecords.{MakeNone, as_many_packets}

-- the whole log has these records of a group last, of which no packet is made yet
module _ (w : WorldValue) (before group : List Record) (log : whole_log w ≡ before ++ group) (none : MakeNone group) where
  since : drop (length before) (whole_log w) ≡ group
  since = ap (drop (length before)) log ∙ drop-append_seam before group

  as_many : packet_count (whole_log w) ≡ packet_count before
  as_many = ap packet_count log ∙ as_many_packets before group none

  -- the packets are numbered on from those before
  pub packets_are : packets_since (length before) w ≡ data_packets before (frames_sent group)
  packets_are =
      ap (λ n. map packet_record (data_lines n (frames_sent (drop (length before) (whole_log w))))) as_many
      ∙ ap (λ l. data_packets before (frames_sent l)) since

  pub to_carry : (p : SettingsValue) (c : CarrierValue) → Keeps p before (before ++ group) c → EachRecord MayCome (before ++ group)
      → All (HasHead p) (before ++ group) → sent_count (before ++ group) ≤ 500000 → packet_count before ≤ 1220000
      → IsToCarry p (length before) w c
  to_carry p c keeps follow heads frames packets =
      let size = ap length log ∙ length-append before group in
      let sent = ap sent_count log in
      let front : take (length before) (whole_log w) ≡ before = ap (take (length before)) log ∙ take-append_seam before group in
      let all = sent_count-append before group in
      let later = ap (λ l. length (frames_sent l)) since in
      record {
        within = omega (arith, size);
        keeps = subst (λ l. Keeps p l (whole_log w) c) (sym front) (subst (λ l. Keeps p before l c) (sym log) keeps);
        follow = subst (EachRecord MayCome) (sym log) follow;
        ends = ap packets_ended since ∙ none.ended;
        heads = subst (All (HasHead p)) (sym log) heads;
        frames = omega (arith, sent, frames);
        room = omega (arith, as_many, packets, later, all, frames);
      }
