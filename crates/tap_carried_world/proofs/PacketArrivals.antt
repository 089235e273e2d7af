-- A packet that is due arrives: an acknowledgement, or a data packet whose frame was taken before.
use Rattle.std.proofs.Common.{◌≡◌, ℕ, ◌<◌, ◌≤◌, Bool, false, true, not, List, [], ◌∷◌, ◌++◌, length, None, Some, Result, Ok, Err, IsTrue, refl, ap, sym, subst, ◌∙◌, arith, append_assoc}
use Rattle.std.proofs.lemmas.Bool.{false≢true}
use Rattle.std.specs.Prelude.{Contains}
use Rattle.tap_scenario.specs.Scenario.{ScenarioValue}
use Rattle.tap_log.specs.declared.record.Record.{Record}
use Rattle.tap_log.specs.declared.record.Record.TheVariants.{Arrived}
use Rattle.tap_log.specs.Counts.{packet_count, sent_count}
use Rattle.tap_log.specs.Kinds.{sent_number, taken_number}
use Rattle.tap_log.specs.Log.{EachFrom}
use Rattle.tap_log.specs.Reduced.{reduced}
use Rattle.tap_log.proofs.MoreRecords.{filter_map-same, sent_count-append}
use Rattle.tap_history.specs.Moments.{has_number, numbers_less, outstanding}
use Rattle.tap_carry.specs.declared.net.Packet.{Packet}
use Rattle.tap_carry.specs.Inbox.{has_arrived}
use Rattle.tap_carry.specs.Net.{most_packets}
use Rattle.tap_packets.specs.Groups.{ack_line, arrival_records}
use Rattle.tap_packets.specs.Matching.{ArrivesAt, NetMatches, OutboxesMatch, packet_along}
use Rattle.tap_packets.specs.MayCome.{KeepsPackets, MayCome}
use Rattle.tap_packets.specs.Packets.{PacketLine, frames_sent, frames_taken, lines_under_way, packet_record}
use Rattle.tap_packets.specs.Sequence.{frame_ways}
use Rattle.tap_packets.proofs.BoxesByRecord.{boxes_answer_holds}
use Rattle.tap_packets.proofs.OneRecord.{arrival-comes, kept-one, line-sent}
use Rattle.tap_boxes.specs.Boxes.{OutboxesValue, inbox_of, outbox_of}
use Rattle.tap_boxes.specs.Changes.{HasAcked, HasArrived, is_awaited}
use Rattle.tap_engine.specs.Kinds.{is_finished}
use Rattle.tap_engine.specs.Outcome.{MayGoOn}
use Rattle.tap_engine.specs.World.{WorldValue, whole_log}
use Rattle.tap_engine.specs.declared.stop.Stop.{Stop}
use Rattle.tap_engine.specs.declared.stop.Stop.TheVariants.{Ended, NoMemory, Refused, Spent}
use Rattle.tap_lawful.specs.CarriedNext.{carried_next_group, reduced_taken_records}
use Rattle.tap_carrier.specs.Carrier.{CarrierValue}
use Rattle.tap_carrier.specs.Kept.{Keeps, KeepsLog}
use Rattle.tap_carrier.specs.Sending.{FallsShort, HasDropped, HasPut, HasRemarked, RemarksAll, ack_of, put_record}
use Rattle.tap_carrier.proofs.KeptCarrier.{awaited_counts, keeps_acked, keeps_arrived, keeps_data}
use Rattle.tap_carried_world.specs.Adds.{AddsNext, HasAdded, IsLeft}
use Rattle.tap_carried_world.specs.Comes.{ArrivesNext}
use Rattle.tap_carried_world.specs.Value.{CarriesRun}
use Rattle.tap_carried_world.proofs.Acknowledging.{keeps_back, record_back}
use Rattle.tap_carried_world.proofs.Adding.{StillGoes, has_added, lacks_all, lacks_front}
use Rattle.tap_carried_world.proofs.Chosen.{none_stands}
use Rattle.tap_carried_world.proofs.KeepsOn.{matches_again}
use Rattle.tap_carried_world.proofs.NextGroups.{arrival_next}
use Rattle.tap_carried_world.proofs.NodeRecords.{arrived_sends, packets_at_arrival, reduced_arrival}
use Rattle.tap_carried_world.proofs.PacketPlaces.{under_way_at}
use Rattle.tap_carried_world.proofs.RunLogs.{Laws, few_packets, group_comes, packets_kept}

pub arrived_sends_none : (number : ℕ) → sent_number (Arrived number) ≡ None
unfolding sent_number
arrived_sends_none number = refl

arrived_takes_none : (number : ℕ) → taken_number (Arrived number) ≡ None
unfolding taken_number
arrived_takes_none number = refl

packet_unsent : (line : PacketLine) → sent_count (packet_record line ∷ []) ≡ 0
unfolding sent_number
packet_unsent line = refl

-- as many frames are outstanding after an arrival
pub outstanding_same : (log : List Record) (number : ℕ) → outstanding (log ++ Arrived number ∷ []) ≡ outstanding log
outstanding_same log number =
    ap (λ sent. numbers_less sent (frames_taken (log ++ Arrived number ∷ [])))
    (filter_map-same sent_number log (Arrived number) (arrived_sends_none number))
    ∙ ap (numbers_less (frames_sent log)) (filter_map-same taken_number log (Arrived number) (arrived_takes_none number))

not_false : (b : Bool) → not b ≡ false → b ≡ true
not_false true is = refl
not_false false is = absurd (false≢true (sym is))

module _ (laws : Laws) (s : ScenarioValue) (w : WorldValue) (c : CarrierValue) (of : CarriesRun s w c) (place : ℕ) (next : ArrivesNext w place) where
  abbrev log : List Record
  log = whole_log w

  abbrev pub line : PacketLine
  line = next.line

  abbrev pub arrival : Record
  arrival = Arrived line.number

  abbrev arrived : List Record
  arrived = log ++ arrival ∷ []

  abbrev pub packet : Packet
  packet = packet_along (frame_ways s.settings log) line

  kept : KeepsPackets log
  kept = packets_kept laws s of.script log of.goes_on.played

  pub under_way : Contains (lines_under_way log) line
  under_way = under_way_at s.settings log c.boxes.net of.keeps.boxes.net place line next.there

  comes : MayCome log arrival
  comes = arrival-comes log line under_way

  kept_arrived : KeepsPackets arrived
  kept_arrived = kept-one log arrival kept comes

  pub was_sent : line.frame < sent_count log
  was_sent = line-sent log line kept under_way

  -- the packet is gone from the net
  keeps_gone : (d : CarrierValue) → HasDropped line.number c d → Keeps s.settings log arrived d
  keeps_gone d gone = keeps_arrived s.settings log log line.number c d kept comes gone of.keeps

  pub arrive_lacks : (v : WorldValue) (d : CarrierValue) → FallsShort (arrival ∷ []) w v → AddsNext s w (Err NoMemory) v d
  arrive_lacks v d short =
      lacks_all s w v (none_stands arrival w v short) (record { beginning = short.beginning; noted = short.refused ∙ of.goes_on.noted })

  pub arrive_stops : (A X : Type 0) (stop : Stop) (v : WorldValue) (d : CarrierValue) → RemarksAll {A = A} (arrival ∷ []) X w (Err stop) v
      → AddsNext s w (Err stop) v d
  arrive_stops A X NoMemory v d short = arrive_lacks v d short
  arrive_stops A X Spent v d never = absurd never
  arrive_stops A X Ended v d never = never
  arrive_stops A X (Refused refusal) v d never = never

  -- the world goes on after it
  pub arrived_goes : (v : WorldValue) → HasRemarked (arrival ∷ []) w v → MayGoOn w → MayGoOn v
  arrived_goes v remarked may = record {
    noted = remarked.refused ∙ may.noted;
    unfinished = ap is_finished remarked.plain ∙ may.unfinished;
  }

  pub still_goes : (v : WorldValue) → HasRemarked (arrival ∷ []) w v → StillGoes w v
  still_goes v remarked = record {
    beginning = remarked.beginning;
    noted = remarked.refused ∙ of.goes_on.noted;
    unstopped = remarked.stopped ∙ of.goes_on.unstopped;
  }

  pub plain_after : (v : WorldValue) → HasRemarked (arrival ∷ []) w v → reduced log ≡ w.log → reduced (whole_log v) ≡ v.log
  plain_after v remarked plain = ap reduced remarked.log ∙ reduced_arrival log line.number ∙ plain ∙ sym remarked.plain

  -- ---- an acknowledgement

  pub ack_counts : line.ack ≡ true → (d : CarrierValue) (q : Packet) → HasDropped line.number c d → q ≡ packet
      → IsTrue (is_awaited d.boxes q) → 1 ≤ d.boxes.outboxes.awaiting
  ack_counts acks d q gone is awaits =
      awaited_counts s.settings log arrived line d kept under_way acks (keeps_gone d gone)
      (subst (λ x. IsTrue (is_awaited d.boxes x)) is awaits)

  within_arrived : sent_count (log ++ arrival ∷ []) ≤ s.frames
  within_arrived =
      let few = of.goes_on.played.within in
      let all = sent_count-append log (arrival ∷ []) in
      let none : sent_count (arrival ∷ []) ≡ 0 = ap length (arrived_sends line.number []) in
      omega (arith, few, all, none)

  pub ack_adds : line.ack ≡ true → (v : WorldValue) (d e : CarrierValue) (q : Packet) → HasRemarked (arrival ∷ []) w v
      → HasDropped line.number c d → q ≡ packet → HasAcked q d.boxes e.boxes → e ≡ record d { boxes = e.boxes } → HasAdded s w v e
  ack_adds acks v d e q remarked gone is acked same =
      has_added laws s w c of (arrival ∷ []) v e
      (arrival_next s log line true (has_number (outstanding log) line.frame) next.due acks refl) within_arrived remarked.log
      (still_goes v remarked)
      (subst (KeepsLog s.settings arrived) (sym same)
      (keeps_acked s.settings log arrived line d e.boxes kept under_way acks (subst (λ x. HasAcked x d.boxes e.boxes) is acked) (keeps_gone d gone)))

  -- ---- a data packet

  module _ (carries : line.ack ≡ false) where
    pub keeps_second : (d : CarrierValue) → HasDropped line.number c d → KeepsLog s.settings arrived d
    keeps_second d gone = keeps_data s.settings log arrived line d kept under_way carries (keeps_gone d gone)

    -- it has arrived for the first time exactly if its frame is outstanding
    pub first_is : (d : CarrierValue) (q : Packet) → HasDropped line.number c d → q ≡ packet
        → not (has_arrived (inbox_of d.boxes.inboxes q.to) q.from q.seq) ≡ has_number (outstanding log) line.frame
    first_is d q gone is =
        ap (λ (x : Packet). not (has_arrived (inbox_of d.boxes.inboxes x.to) x.from x.seq)) is
        ∙ ap (λ (x : CarrierValue). not (has_arrived (inbox_of x.boxes.inboxes packet.to) packet.from packet.seq)) gone
        ∙ boxes_answer_holds.arrived s.settings log (inbox_of c.boxes.inboxes) line kept of.keeps.boxes.inboxes under_way carries

    pub is_numbered : (q : Packet) → q ≡ packet → 1 ≤ q.seq
    is_numbered q is = subst (λ (x : Packet). 1 ≤ x.seq) (sym is) (omega arith)

    pub group_by : (waits : Bool) → has_number (outstanding log) line.frame ≡ waits
        → carried_next_group s log ≡ Some (arrival ∷ arrival_records log line (reduced_taken_records s.settings log line.frame) false waits)
    group_by waits is = arrival_next s log line false waits next.due carries is

    -- memory was refused after the arrival
    pub new_lacks : (v : WorldValue) (e : CarrierValue) → HasRemarked (arrival ∷ []) w v → AddsNext s w (Err NoMemory) v e
    new_lacks v e remarked = by (has_number (outstanding log) line.frame) refl
      where
        left : IsLeft w v
        left = record { beginning = remarked.beginning; noted = remarked.refused ∙ of.goes_on.noted }

        by : (waits : Bool) → has_number (outstanding log) line.frame ≡ waits → AddsNext s w (Err NoMemory) v e
        by true is =
            lacks_front s w v (arrival ∷ arrival_records log line (reduced_taken_records s.settings log line.frame) false true) 1 (group_by true is)
            (omega arith) (λ over. omega arith) remarked.log left
        by false is =
            lacks_front s w v (arrival ∷ arrival_records log line (reduced_taken_records s.settings log line.frame) false false) 1 (group_by false is)
            (omega arith) (λ over. omega arith) remarked.log left

    -- ---- its frame was taken before

    module _ (again : has_number (outstanding log) line.frame ≡ false) (v : WorldValue) (d e : CarrierValue) (q : Packet)
        (remarked : HasRemarked (arrival ∷ []) w v) (gone : HasDropped line.number c d) (is : q ≡ packet)
        (arrives : HasArrived q d.boxes e.boxes) (same : e ≡ record d { boxes = e.boxes }) where
      abbrev back : Record
      back = packet_record (ack_line (packet_count log) line.frame)

      keeps_again : KeepsLog s.settings arrived e
      keeps_again =
          let keeps = keeps_second d gone in
          let at = subst (λ (x : Packet). ArrivesAt (inbox_of d.boxes.inboxes) (inbox_of e.boxes.inboxes) x.to x.from x.seq) is arrives.arrives in
          let known = not_false (has_arrived (inbox_of d.boxes.inboxes packet.to) packet.from packet.seq) (first_is d packet gone refl ∙ again) in
          record {
            boxes = record {
              outboxes = subst (λ (o : OutboxesValue). OutboxesMatch s.settings arrived (outbox_of o)) (sym arrives.outboxes) keeps.boxes.outboxes;
              awaiting = ap (λ (o : OutboxesValue). o.awaiting) arrives.outboxes ∙ keeps.boxes.awaiting;
              inboxes = matches_again (inbox_of d.boxes.inboxes) (inbox_of e.boxes.inboxes) packet.to packet.from packet.seq at known
                  s.settings arrived keeps.boxes.inboxes;
              net = subst (NetMatches s.settings arrived) (sym arrives.net) keeps.boxes.net;
            };
            resending = ap (λ (x : CarrierValue). x.resending) same ∙ keeps.resending;
            resent = ap (λ (x : CarrierValue). x.resent) same ∙ keeps.resent;
          }

      pub again_room : e.boxes.net.made < most_packets
      again_room =
          let made = keeps_again.boxes.net.made in
          let same_count = packets_at_arrival log line.number in
          let few = few_packets laws s of.script log of.goes_on.played in
          omega (arith, made, same_count, few)

      comes_again : carried_next_group s log ≡ Some (arrival ∷ back ∷ [])
      comes_again = group_by false again

      within_again : sent_count (log ++ arrival ∷ back ∷ []) ≤ s.frames
      within_again =
          let few = of.goes_on.played.within in
          let all = sent_count-append log (arrival ∷ back ∷ []) in
          let none : sent_count (arrival ∷ back ∷ []) ≡ sent_count (back ∷ []) = ap length (arrived_sends line.number (back ∷ [])) in
          let one = packet_unsent (ack_line (packet_count log) line.frame) in
          omega (arith, few, all, none, one)

      pub again_adds : (given : Result (Unit {0}) Stop) (u : WorldValue) (x : CarrierValue)
          → RemarksAll (put_record e (ack_of q) ∷ []) (HasPut (ack_of q) e x) v given u → AddsNext s w given u x
      again_adds given u x made =
          by given
          (subst (λ item. RemarksAll (item ∷ []) (HasPut (ack_of packet) e x) v given u) record_is
          (subst (λ (y : Packet). RemarksAll (put_record e (ack_of y) ∷ []) (HasPut (ack_of y) e x) v given u) is made))
        where
          record_is : put_record e (ack_of packet) ≡ back
          record_is =
              record_back s.settings log arrived e line keeps_again
              ∙ ap (λ n. packet_record (ack_line n line.frame)) (packets_at_arrival log line.number)

          whole : arrived ++ back ∷ [] ≡ log ++ arrival ∷ back ∷ []
          whole = append_assoc log (arrival ∷ []) (back ∷ [])

          come : EachFrom MayCome arrived (back ∷ [])
          come = (group_comes laws s of.script log of.goes_on.played (arrival ∷ back ∷ []) comes_again within_again).1

          by : (given : Result (Unit {0}) Stop) → RemarksAll (back ∷ []) (HasPut (ack_of packet) e x) v given u → AddsNext s w given u x
          by (Ok done) all =
              has_added laws s w c of (arrival ∷ back ∷ []) u x comes_again within_again
              (all.0.log ∙ ap (λ l. l ++ back ∷ []) remarked.log ∙ whole)
              (record {
                beginning = all.0.beginning ∙ remarked.beginning;
                noted = all.0.refused ∙ remarked.refused ∙ of.goes_on.noted;
                unstopped = all.0.stopped ∙ remarked.stopped ∙ of.goes_on.unstopped;
              })
              (subst (λ l. KeepsLog s.settings l x) whole
              (keeps_back s.settings log (arrival ∷ []) line carries was_sent (packet_count log) arrived e x refl kept_arrived come all.1 keeps_again))
          by (Err NoMemory) short =
              let sent = within_again in
              lacks_front s w u (arrival ∷ back ∷ []) 1 comes_again (omega arith) (λ over. omega arith)
              (none_stands back v u short ∙ remarked.log)
              (record { beginning = short.beginning ∙ remarked.beginning; noted = short.refused ∙ remarked.refused ∙ of.goes_on.noted })
          by (Err Spent) never = absurd never
          by (Err Ended) never = never
          by (Err (Refused refusal)) never = never
