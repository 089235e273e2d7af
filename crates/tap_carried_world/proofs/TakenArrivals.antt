-- A data packet arrives whose frame is outstanding: this is taken, and its group is added.
use Rattle.std.proofs.Common.{◌≡◌, ℕ, ◌+◌, ◌<◌, ◌≤◌, false, true, List, [], ◌∷◌, ◌++◌, length, take, Some, Result, Ok, Err, refl, ap, sym, subst, ◌∙◌, arith, append-nil, append_assoc, length-append}
use Rattle.tap_scenario.specs.Scenario.{ScenarioValue}
use Rattle.tap_log.specs.declared.record.Record.{Record}
use Rattle.tap_log.specs.declared.record.Record.TheVariants.{Arrived, Spent as SpentRecord}
use Rattle.tap_log.specs.Counts.{packet_count, sent_count}
use Rattle.tap_log.specs.Log.{EachFrom, EachRecord}
use Rattle.tap_log.specs.Reduced.{reduced}
use Rattle.tap_log.proofs.MoreRecords.{packet_count-append, sent_count-append}
use Rattle.tap_history.specs.Moments.{has_number, outstanding}
use Rattle.tap_carry.specs.declared.net.Packet.{Packet}
use Rattle.tap_carry.specs.Net.{most_packets}
use Rattle.tap_packets.specs.Groups.{ack_line}
use Rattle.tap_packets.specs.Matching.{ArrivesAt, FrameArrives, NetMatches, OutboxesMatch}
use Rattle.tap_packets.specs.MayCome.{KeepsPackets, MayCome}
use Rattle.tap_packets.specs.Packets.{frames_sent, packet_record}
use Rattle.tap_packets.specs.Sequence.{frame_ways}
use Rattle.tap_packets.proofs.GroupsCome.{groups_follow_hold}
use Rattle.tap_packets.proofs.OneRecord.{ways-one}
use Rattle.tap_boxes.specs.Boxes.{OutboxesValue, inbox_of, outbox_of}
use Rattle.tap_boxes.specs.Changes.{HasArrived}
use Rattle.tap_engine.specs.Outcome.{MayGoOn}
use Rattle.tap_engine.specs.World.{WorldValue, whole_log}
use Rattle.tap_engine.specs.declared.stop.Stop.{Stop}
use Rattle.tap_engine.specs.declared.stop.Stop.TheVariants.{Ended, NoMemory, Refused, Spent}
use Rattle.tap_lawful.specs.CarriedNext.{carried_next_group}
use Rattle.tap_carrier.specs.Carrier.{CarrierValue}
use Rattle.tap_carrier.specs.Kept.{KeepsLog}
use Rattle.tap_carrier.specs.Sending.{HasDropped, HasPut, HasRemarked, RemarksAll, ack_of, put_record}
use Rattle.tap_carried_world.specs.Adds.{AddsNext, IsLeft}
use Rattle.tap_carried_world.specs.Comes.{ArrivesNext}
use Rattle.tap_carried_world.specs.Taking.{CanTake, HasTaken, IsToTake, TakesFrame, records_of_taking}
use Rattle.tap_carried_world.specs.Value.{CarriesRun}
use Rattle.tap_carried_world.proofs.Acknowledging.{along_data, keeps_back, record_back}
use Rattle.tap_carried_world.proofs.Adding.{has_added, has_spent, lacks_some}
use Rattle.tap_carried_world.proofs.PacketArrivals.{arrived_sends_none, keeps_second, line, outstanding_same, packet, plain_after, was_sent}
use Rattle.tap_carried_world.proofs.Chosen.{none_stands}
use Rattle.tap_carried_world.proofs.Fronts.{each_front, each_rest}
use Rattle.tap_carried_world.proofs.NodeRecords.{as_many_packets, packets_at_arrival, packets_counted, taken_sends}
use Rattle.tap_carried_world.proofs.RunLogs.{Laws, few_frames, few_packets, front_comes}
use Rattle.tap_carried_world.proofs.Taking.{group_follows, items, last_packet, node_group, node_takes, packets, records_are, sent_all, sent_whole, taking_group, taking_next}

module _ (laws : Laws) (s : ScenarioValue) (w : WorldValue) (c : CarrierValue) (of : CarriesRun s w c) (place : ℕ) (next : ArrivesNext w place)
    (plain : reduced (whole_log w) ≡ w.log) (carries : (line laws s w c of place next).ack ≡ false) where
  abbrev log : List Record
  log = whole_log w

  abbrev frame : ℕ
  frame = next.line.frame

  abbrev arrives_first : Record
  arrives_first = Arrived next.line.number

  abbrev q_is : Packet
  q_is = packet laws s w c of place next

  module _ (waits : has_number (outstanding log) frame ≡ true) (v : WorldValue) (remarked : HasRemarked (arrives_first ∷ []) w v) where
    abbrev pub can_take : CanTake s v frame
    can_take = record {
      script = of.script;
      played = log;
      is_played = of.goes_on.played;
      line = next.line;
      log = remarked.log;
      beginning = remarked.beginning ∙ of.goes_on.beginning;
      due = next.due;
      carries = carries;
      frame_is = refl;
    }

    waits_after : has_number (outstanding (whole_log v)) frame ≡ true
    waits_after =
        ap (λ l. has_number (outstanding l) frame) remarked.log ∙ ap (λ l. has_number l frame) (outstanding_same log next.line.number) ∙ waits

    pub is_to_take : (d e : CarrierValue) (q : Packet) → HasDropped next.line.number c d → q ≡ q_is → HasArrived q d.boxes e.boxes
        → e ≡ record d { boxes = e.boxes } → IsToTake s v frame e
    is_to_take d e q gone is arrives same =
        let arrived = log ++ arrives_first ∷ [] in
        let keeps = keeps_second laws s w c of place next carries d gone in
        let ways = frame_ways s.settings log in
        let at = subst (λ (x : Packet). ArrivesAt (inbox_of d.boxes.inboxes) (inbox_of e.boxes.inboxes) x.to x.from x.seq)
        (is ∙ along_data ways next.line carries) arrives.arrives in
        let ways_are = ap (frame_ways s.settings) remarked.log ∙ ways-one s.settings log arrives_first (arrived_sends_none next.line.number) in
        record {
          waits = waits_after;
          inboxes = d.boxes.inboxes;
          keeps = subst (λ l. KeepsLog s.settings l (record e { boxes = record e.boxes { inboxes = d.boxes.inboxes } })) (sym remarked.log) (record {
            boxes = record {
              outboxes = subst (λ (o : OutboxesValue). OutboxesMatch s.settings arrived (outbox_of o)) (sym arrives.outboxes) keeps.boxes.outboxes;
              awaiting = ap (λ (o : OutboxesValue). o.awaiting) arrives.outboxes ∙ keeps.boxes.awaiting;
              inboxes = keeps.boxes.inboxes;
              net = subst (NetMatches s.settings arrived) (sym arrives.net) keeps.boxes.net;
            };
            resending = ap (λ (x : CarrierValue). x.resending) same ∙ keeps.resending;
            resent = ap (λ (x : CarrierValue). x.resent) same ∙ keeps.resent;
          });
          arrived = subst (λ ws. FrameArrives ws frame (inbox_of d.boxes.inboxes) (inbox_of e.boxes.inboxes)) (sym ways_are) at;
        }

    -- ---- what is added

    plain_v : reduced (whole_log v) ≡ v.log
    plain_v = plain_after laws s w c of place next v remarked plain

    abbrev node : List Record
    node = node_group laws s v frame can_take waits_after plain_v

    abbrev more : List Record
    more = packets laws s v frame can_take waits_after plain_v

    abbrev last : Record
    last = last_packet laws s v frame can_take waits_after plain_v

    abbrev records : List Record
    records = records_of_taking s (whole_log v) frame

    abbrev group : List Record
    group = taking_group laws s v frame can_take waits_after plain_v

    comes : carried_next_group s log ≡ Some group
    comes = taking_next laws s v frame can_take waits_after plain_v

    records_is : records ≡ node ++ more
    records_is = records_are laws s v frame can_take waits_after plain_v

    -- the group is the arrival, these, and the acknowledgement
    group_is : group ≡ (arrives_first ∷ records) ++ last ∷ []
    group_is =
        ap (λ l. arrives_first ∷ l) (sym (append_assoc node more (last ∷ [])) ∙ ap (λ l. l ++ last ∷ []) (sym records_is))

    frames_are : sent_count (log ++ group) ≡ sent_count (whole_log v ++ records)
    frames_are = sent_all laws s v frame can_take waits_after plain_v ∙ sym (sent_whole laws s v frame can_take waits_after plain_v)

    left_of : (u : WorldValue) → IsLeft v u → IsLeft w u
    left_of u left = record { beginning = left.beginning ∙ remarked.beginning; noted = left.noted }

    -- it isn't taken, or not all of it is added
    pub take_stops : (stop : Stop) (u : WorldValue) (x : CarrierValue) → TakesFrame s frame v (Err stop) u x → AddsNext s w (Err stop) u x
    take_stops Spent u x much =
        let over = much.over in
        let same = frames_are in
        has_spent s w u group comes (omega (arith, over, same))
        (much.log ∙ ap (λ l. l ++ SpentRecord s.frames ∷ []) remarked.log ∙ append_assoc log (arrives_first ∷ []) (SpentRecord s.frames ∷ []))
        (left_of u much.left) much.stopped
    take_stops NoMemory u x short =
        let fewer = short.few in
        let same = frames_are in
        let size = ap length group_is ∙ length-append (arrives_first ∷ records) (last ∷ []) in
        lacks_some s w u group (arrives_first ∷ []) records (last ∷ []) short.kept comes group_is (omega (arith, fewer))
        (omega (arith, fewer, size))
        (λ over. let none = short.none (omega (arith, over, same)) in omega (arith, none))
        (short.log ∙ ap (λ l. l ++ take short.kept records) remarked.log) (left_of u short.left)
    take_stops Ended u x never = never
    take_stops (Refused refusal) u x never = never

    -- ---- all of it is added but the acknowledgement

    module _ (u : WorldValue) (x : CarrierValue) (taken : HasTaken s frame v u x) where
      pub goes_again : MayGoOn u
      goes_again = record { noted = taken.left.noted; unfinished = taken.unfinished }

      whole_is : whole_log u ≡ log ++ (arrives_first ∷ records)
      whole_is = taken.log ∙ ap (λ l. l ++ records) remarked.log ∙ append_assoc log (arrives_first ∷ []) records

      within : sent_count (log ++ group) ≤ s.frames
      within =
          let few = taken.within in
          let same = frames_are in
          let is = ap sent_count taken.log in
          omega (arith, few, same, is)

      made_node : packet_count (whole_log v ++ node) ≡ packet_count log
      made_node =
          as_many_packets (whole_log v) node (node_takes laws s v frame can_take waits_after plain_v).none
          ∙ ap packet_count remarked.log ∙ packets_at_arrival log next.line.number

      -- so many packets were made
      made_is : packet_count (whole_log u) ≡ packet_count log + sent_count (items laws s v frame can_take waits_after plain_v)
      made_is =
          let frames = frames_sent (items laws s v frame can_take waits_after plain_v) in
          ap packet_count (taken.log ∙ ap (λ l. whole_log v ++ l) records_is ∙ sym (append_assoc (whole_log v) node more))
          ∙ packet_count-append (whole_log v ++ node) more
          ∙ ap (λ n. n + packet_count more) made_node
          ∙ ap (λ n. packet_count log + n) (packets_counted (packet_count log) frames)

      pub last_room : x.boxes.net.made < most_packets
      last_room =
          let made = taken.keeps.boxes.net.made in
          let count = made_is in
          let few = few_packets laws s of.script log of.goes_on.played in
          let most = few_frames s of.script in
          let sent = within in
          let all = sent_all laws s v frame can_take waits_after plain_v in
          let node_sent = sent_count-append log node in
          let same : sent_count node ≡ sent_count (items laws s v frame can_take waits_after plain_v) =
          ap length (taken_sends frame (items laws s v frame can_take waits_after plain_v)) in
          omega (arith, made, count, few, most, sent, all, node_sent, same)

      follow : EachFrom MayCome log ((arrives_first ∷ records) ++ last ∷ [])
      follow =
          let few : sent_count (log ++ node) ≤ s.frames =
          let all = sent_all laws s v frame can_take waits_after plain_v in
          let sent = within in
          omega (arith, all, sent) in
          subst (EachFrom MayCome log) group_is (group_follows laws s v frame can_take waits_after plain_v few)

      kept_u : KeepsPackets (whole_log u)
      kept_u =
          groups_follow_hold.kept (whole_log u)
          (subst (EachRecord MayCome) (sym whole_is)
          (front_comes laws s of.script log of.goes_on.played (arrives_first ∷ records)
          (each_front MayCome log (arrives_first ∷ records) (last ∷ []) follow)))

      come : EachFrom MayCome (whole_log u) (last ∷ [])
      come = subst (λ l. EachFrom MayCome l (last ∷ [])) (sym whole_is) (each_rest MayCome log (arrives_first ∷ records) (last ∷ []) follow)

      last_is : put_record x (ack_of q_is) ≡ last
      last_is =
          record_back s.settings log (whole_log u) x next.line taken.keeps ∙ ap (λ n. packet_record (ack_line n frame)) made_is

      pub last_adds : (given : Result (Unit {0}) Stop) (z : WorldValue) (y : CarrierValue) (q : Packet) → q ≡ q_is
          → RemarksAll (put_record x (ack_of q) ∷ []) (HasPut (ack_of q) x y) u given z → AddsNext s w given z y
      last_adds given z y q is made =
          by given
          (subst (λ item. RemarksAll (item ∷ []) (HasPut (ack_of q_is) x y) u given z) last_is
          (subst (λ (a : Packet). RemarksAll (put_record x (ack_of a) ∷ []) (HasPut (ack_of a) x y) u given z) is made))
        where
          all_is : whole_log u ++ last ∷ [] ≡ log ++ group
          all_is = ap (λ l. l ++ last ∷ []) whole_is ∙ append_assoc log (arrives_first ∷ records) (last ∷ []) ∙ ap (λ l. log ++ l) (sym group_is)

          by : (given : Result (Unit {0}) Stop) → RemarksAll (last ∷ []) (HasPut (ack_of q_is) x y) u given z → AddsNext s w given z y
          by (Ok done) all =
              has_added laws s w c of group z y comes within (all.0.log ∙ all_is)
              (record {
                beginning = all.0.beginning ∙ taken.left.beginning ∙ remarked.beginning;
                noted = all.0.refused ∙ taken.left.noted;
                unstopped = all.0.stopped ∙ taken.runs;
              })
              (subst (λ l. KeepsLog s.settings l y) all_is
              (keeps_back s.settings log (arrives_first ∷ records) next.line carries (was_sent laws s w c of place next)
              (packet_count log + sent_count (items laws s v frame can_take waits_after plain_v)) (whole_log u) x y whole_is kept_u come all.1
              taken.keeps))
          by (Err NoMemory) short =
              let sent = within in
              let size = ap length group_is ∙ length-append (arrives_first ∷ records) (last ∷ []) in
              lacks_some s w z group (arrives_first ∷ records) (last ∷ []) [] 0 comes group_is (omega arith) (omega (arith, size))
              (λ over. absurd (omega (arith, over, sent)))
              (none_stands last u z short ∙ whole_is ∙ sym (append-nil (log ++ (arrives_first ∷ records))))
              (record { beginning = short.beginning ∙ taken.left.beginning ∙ remarked.beginning; noted = short.refused ∙ taken.left.noted })
          by (Err Spent) never = absurd never
          by (Err Ended) never = never
          by (Err (Refused refusal)) never = never
