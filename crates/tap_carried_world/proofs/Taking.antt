-- An outstanding frame is taken out of the packet that has arrived.
use Rattle.std.proofs.Common.{◌≡◌, ℕ, ◌+◌, ◌≤◌, false, true, List, [], ◌∷◌, ◌++◌, length, map, All, Some, ap, sym, subst, ◌∙◌, arith, append_assoc}
use Rattle.std.specs.Prelude.{nat_le}
use Rattle.tap_name.specs.Settings.{SettingsValue}
use Rattle.tap_scenario.specs.Scenario.{ScenarioValue}
use Rattle.tap_log.specs.declared.record.Record.{Record}
use Rattle.tap_log.specs.declared.record.Record.TheVariants.{Arrived, Taken}
use Rattle.tap_log.specs.Counts.{packet_count, sent_count}
use Rattle.tap_log.specs.Log.{EachFrom, EachRecord}
use Rattle.tap_log.specs.Reduced.{reduced}
use Rattle.tap_log.proofs.MoreRecords.{sent_count-append}
use Rattle.tap_history.specs.Moments.{has_number, outstanding}
use Rattle.tap_packets.specs.Groups.{ack_line, data_lines, data_packets}
use Rattle.tap_packets.specs.MayCome.{KeepsPackets, MayCome}
use Rattle.tap_packets.specs.Packets.{frames_sent, packet_record}
use Rattle.tap_packets.proofs.ActedRecords.{acts_fit_holds}
use Rattle.tap_packets.proofs.GroupsCome.{groups_follow_hold}
use Rattle.tap_runs.specs.Course.{system_of}
use Rattle.tap_runs.specs.Group.{taken_records}
use Rattle.tap_runs.specs.Groups.{taken_group}
use Rattle.tap_engine.specs.Outcome.{is_within}
use Rattle.tap_engine.specs.World.{WorldValue, whole_log}
use Rattle.tap_lawful.specs.CarriedNext.{carried_next_group, reduced_taken_records}
use Rattle.tap_carrier.specs.Carrier.{CarrierValue}
use Rattle.tap_carrier.specs.Kept.{Keeps}
use Rattle.tap_carrier.specs.Sending.{HasHead, IsToCarry, packets_since}
use Rattle.tap_carried_world.specs.Taking.{CanTake, records_of_taking}
use Rattle.tap_carried_world.proofs.Carrying.{packets_are, to_carry}
use Rattle.tap_carried_world.proofs.Fronts.{all_front, each_front}
use Rattle.tap_carried_world.proofs.NextGroups.{arrival_next}
use Rattle.tap_carried_world.proofs.NodeRecords.{IsPlainGroup, arrived_sends, packets_at_arrival, packets_send_none, reduced_arrival, sent_around, taken_is_plain, taken_sends}
use Rattle.tap_carried_world.proofs.RunLogs.{Laws, agrees, few_frames, few_packets, front_comes, group_comes, heads_longer, turns_kept}

-- what is added once a frame is taken, if so many packets were made before, by the reduced log
abbrev records_by : SettingsValue → ℕ → List Record → ℕ → List Record
records_by p made less frame =
    let items = taken_records p less (system_of less) frame in Taken frame ∷ items ++ map packet_record (data_lines made (frames_sent items))

module _ (laws : Laws) (s : ScenarioValue) (w : WorldValue) (frame : ℕ) (can : CanTake s w frame)
    (waits : has_number (outstanding (whole_log w)) frame ≡ true) (plain : reduced (whole_log w) ≡ w.log) where
  abbrev log : List Record
  log = can.played

  abbrev pub arrival : Record
  arrival = Arrived can.line.number

  -- what the receiver does, and the packets that are made for it
  abbrev pub items : List Record
  items = reduced_taken_records s.settings log frame

  abbrev pub node_group : List Record
  node_group = Taken frame ∷ items

  abbrev pub packets : List Record
  packets = data_packets log (frames_sent items)

  abbrev pub last_packet : Record
  last_packet = packet_record (ack_line (packet_count log + sent_count items) frame)

  -- the whole group
  abbrev pub taking_group : List Record
  taking_group = arrival ∷ (node_group ++ (packets ++ last_packet ∷ []))

  -- the reduced log is that of the log before the arrival
  less_is : reduced (whole_log w) ≡ reduced log
  less_is = ap reduced can.log ∙ reduced_arrival log can.line.number

  pub plain_is : w.log ≡ reduced log
  plain_is = sym plain ∙ less_is

  made_is : packet_count (whole_log w) ≡ packet_count log
  made_is = ap packet_count can.log ∙ packets_at_arrival log can.line.number

  pub records_are : records_of_taking s (whole_log w) frame ≡ node_group ++ packets
  records_are =
      ap (λ made. records_by s.settings made (reduced (whole_log w)) frame) made_is
      ∙ ap (λ less. records_by s.settings (packet_count log) less frame) less_is

  -- it is the group of the world
  pub taken_same : taken_group w.beginning.settings w.log frame ≡ node_group
  taken_same =
      ap (λ b. taken_group b.settings w.log frame) can.beginning ∙ ap (λ l. taken_group s.settings l frame) plain_is

  waits_less : has_number (outstanding (reduced log)) frame ≡ true
  waits_less =
      ap (λ l. has_number (outstanding l) frame) (sym less_is) ∙ ap (λ l. has_number l frame) (acts_fit_holds.waiting (whole_log w)) ∙ waits

  waits_log : has_number (outstanding log) can.line.frame ≡ true
  waits_log =
      ap (has_number (outstanding log)) can.frame_is ∙ ap (λ l. has_number l frame) (sym (acts_fit_holds.waiting log)) ∙ waits_less

  -- it comes next
  pub taking_next : carried_next_group s log ≡ Some taking_group
  taking_next =
      let of_frame : ℕ → List Record = λ f.
      let done = reduced_taken_records s.settings log f in
      Taken f ∷ done ++ (data_packets log (frames_sent done) ++ packet_record (ack_line (packet_count log + sent_count done) f) ∷ []) in
      arrival_next s log can.line false true can.due can.carries waits_log ∙ ap (λ f. Some (arrival ∷ of_frame f)) can.frame_is

  pub node_takes : IsPlainGroup (Taken frame) items
  node_takes = taken_is_plain s.settings log (turns_kept laws s can.script log can.is_played) frame waits_less

  -- ---- frames that are sent

  sent_packets : sent_count (packets ++ last_packet ∷ []) ≡ 0
  sent_packets =
      let both = sent_count-append packets (last_packet ∷ []) in
      let one = packets_send_none (data_lines (packet_count log) (frames_sent items)) in
      let other = packets_send_none (ack_line (packet_count log + sent_count items) frame ∷ []) in
      omega (arith, both, one, other)

  -- as many with the whole group as with what the node does
  pub sent_all : sent_count (log ++ taking_group) ≡ sent_count (log ++ node_group)
  sent_all = sent_around log node_group (packets ++ last_packet ∷ []) can.line.number sent_packets

  sent_before : sent_count (whole_log w) ≡ sent_count log
  sent_before =
      let more = sent_count-append log (arrival ∷ []) in
      let none : sent_count (arrival ∷ []) ≡ 0 = ap length (arrived_sends can.line.number []) in
      let is = ap sent_count can.log in
      omega (arith, more, none, is)

  pub sent_whole : sent_count (whole_log w ++ records_of_taking s (whole_log w) frame) ≡ sent_count (log ++ node_group)
  sent_whole =
      let is = ap (λ l. sent_count (whole_log w ++ l)) records_are in
      let all = sent_count-append (whole_log w) (node_group ++ packets) in
      let both = sent_count-append node_group packets in
      let none = packets_send_none (data_lines (packet_count log) (frames_sent items)) in
      let less = sent_count-append log node_group in
      let before = sent_before in
      omega (arith, is, all, both, none, less, before)

  pub sent_world : sent_count (w.log ++ node_group) ≡ sent_count (log ++ node_group)
  sent_world =
      let all = sent_count-append w.log node_group in
      let less = sent_count-append log node_group in
      let before = ap sent_count plain_is ∙ (agrees laws s can.script log can.is_played).sent in
      omega (arith, all, less, before)

  pub within_taking : is_within w.beginning w.log (taken_group w.beginning.settings w.log frame) ≡ nat_le (sent_count (log ++ node_group)) s.frames
  within_taking =
      ap (is_within w.beginning w.log) taken_same
      ∙ ap (λ b. nat_le (sent_count (w.log ++ node_group)) b.frames) can.beginning
      ∙ ap (λ n. nat_le n s.frames) sent_world

  -- ---- no more frames are sent than may be

  module _ (few : sent_count (log ++ node_group) ≤ s.frames) where
    few_all : sent_count (log ++ taking_group) ≤ s.frames
    few_all = let same = sent_all in omega (arith, same, few)

    pub group_follows : EachFrom MayCome log taking_group
    group_follows =
        group_comes laws s can.script log can.is_played taking_group taking_next few_all

    -- each record of it may come after the arrival
    come : EachFrom MayCome log (arrival ∷ node_group)
    come = each_front MayCome log (arrival ∷ node_group) (packets ++ last_packet ∷ []) group_follows

    pub node_comes : EachFrom MayCome (whole_log w) node_group
    node_comes = subst (λ l. EachFrom MayCome l node_group) (sym can.log) come.1

    whole_is : whole_log w ++ node_group ≡ log ++ (arrival ∷ node_group)
    whole_is = ap (λ l. l ++ node_group) can.log ∙ append_assoc log (arrival ∷ []) node_group

    pub all_come : EachRecord MayCome (whole_log w ++ node_group)
    all_come = subst (EachRecord MayCome) (sym whole_is) (front_comes laws s can.script log can.is_played (arrival ∷ node_group) come)

    pub whole_kept : KeepsPackets (whole_log w)
    whole_kept =
        groups_follow_hold.kept (whole_log w)
        (subst (EachRecord MayCome) (sym can.log) (front_comes laws s can.script log can.is_played (arrival ∷ []) (come.0, tt)))

    pub taken_heads : All (HasHead s.settings) (whole_log w ++ node_group)
    taken_heads =
        let rest = packets ++ last_packet ∷ [] in
        let all = heads_longer laws s can.script log can.is_played taking_group taking_next few_all in
        subst (All (HasHead s.settings)) (sym whole_is)
        (all_front (HasHead s.settings) (log ++ arrival ∷ node_group) rest
        (subst (All (HasHead s.settings)) (sym (append_assoc log (arrival ∷ node_group) rest)) all))

    pub take_carries : (v : WorldValue) (c : CarrierValue) → whole_log v ≡ whole_log w ++ node_group
        → Keeps s.settings (whole_log w) (whole_log w ++ node_group) c → IsToCarry s.settings (length (whole_log w)) v c
    take_carries v c log_is keeps =
        let most = few_frames s can.script in
        let made = made_is in
        let packets_few = few_packets laws s can.script log can.is_played in
        let more = sent_count-append (whole_log w) node_group in
        let less = sent_count-append log node_group in
        let before = sent_before in
        to_carry v (whole_log w) node_group log_is node_takes.none s.settings c keeps all_come taken_heads
        (omega (arith, most, more, less, before, few)) (omega (arith, made, packets_few))

    pub taken_since : (v : WorldValue) → whole_log v ≡ whole_log w ++ node_group → packets_since (length (whole_log w)) v ≡ packets
    taken_since v log_is =
        packets_are v (whole_log w) node_group log_is node_takes.none
        ∙ ap (λ n. map packet_record (data_lines n (frames_sent node_group))) made_is
        ∙ ap (data_packets log) (taken_sends frame items)
