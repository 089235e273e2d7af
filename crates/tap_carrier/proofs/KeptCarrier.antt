-- A carrier keeps what a log says, with each record more.
-- Cited above: awaited_counts, keeps_acked, keeps_acted, keeps_arrived, keeps_data, keeps_lost, keeps_plain, keeps_put, keeps_refused, keeps_step,
-- keeps_taken
use Rattle.std.proofs.Common.{◌≡◌, ℕ, ◌+◌, ◌≤◌, Bool, true, false, List, [], ◌∷◌, ◌++◌, length, Option, None, Some, is_some, refl, ap, sym, subst, ◌∙◌, arith, append-nil, append_assoc}
use Rattle.std.specs.Prelude.{◌&&◌, if◌then◌else◌, Contains, IsTrue}
use Rattle.std.specs.List.{cons_option}
use Rattle.std.specs.Option.{IfSome}
use Rattle.std.proofs.lemmas.List.{length_push}
use Rattle.tap_name.specs.Settings.{SettingsValue}
use Rattle.tap_scenario.specs.declared.step.Step.{Step}
use Rattle.tap_log.specs.declared.record.Record.{Record}
use Rattle.tap_log.specs.declared.record.Record.TheVariants.{Arrived, Lost, Packet as PacketRecord, Refused, Step as StepRecord, Taken, Ticked}
use Rattle.tap_log.specs.declared.record.Refusal.{Refusal}
use Rattle.tap_log.specs.Counts.{resends, resends_after, resent_count, sent_count}
use Rattle.tap_log.specs.Kinds.{ended_number, packet_number, sent_number, step_of, taken_number}
use Rattle.tap_log.specs.Log.{EachFrom, begun_steps}
use Rattle.tap_log.proofs.MoreRecords.{one_more_record_holds}
use Rattle.tap_history.specs.Moments.{awaiting, has_number}
use Rattle.tap_packets.specs.Matching.{FrameArrives, InboxesAfter, InboxesMatch, NetAfter, NetMatches, OutboxesMatch, SendsFrom, packet_along}
use Rattle.tap_packets.specs.MayCome.{KeepsPackets, MayBeMade, MayCome}
use Rattle.tap_packets.specs.Packets.{PacketLine, frames_taken, lines_under_way, made_packet, packet_lines, packet_record, packets_ended}
use Rattle.tap_packets.specs.Sequence.{frame_ways, sent_way, way_between}
use Rattle.tap_packets.proofs.AwaitsFrom.{others_than}
use Rattle.tap_packets.proofs.BoxesByRecord.{boxes_answer_holds}
use Rattle.tap_packets.proofs.OneRecord.{ArePlain, ack-arrives, acked-less, awaiting-acked, awaiting-data, awaiting-plain, awaiting-sent, data-arrives, inboxes-one, kept-one, net-one, outboxes-plain, outboxes-sends}
use Rattle.tap_packets.proofs.RecordsCome.{next-packet}
use Rattle.tap_boxes.specs.Boxes.{BoxesValue, InboxesValue, OutboxesValue, inbox_of, outbox_of}
use Rattle.tap_boxes.specs.Changes.{HasAcked, HasSent, is_awaited}
use Rattle.tap_carrier.specs.Carrier.{CarrierValue}
use Rattle.tap_carrier.specs.Kept.{Keeps}
use Rattle.tap_carrier.specs.Sending.{HasDropped, HasPut}

-- ---- one record more of what is not sent

-- one more packet counts if the last step sends packets once more
abbrev one_if : Bool → ℕ
one_if b = if b then 1 else 0

none_more : (b : Bool) (n : ℕ) → n ≡ n + one_if (b && false)
none_more true n = omega arith
none_more false n = omega arith

and_true : (b : Bool) → one_if b ≡ one_if (b && true)
and_true true = refl
and_true false = refl

module _ (p : SettingsValue) (sent log : List Record) (item : Record) (c after : CarrierValue) where
  grows : KeepsPackets log → MayCome log item → after.boxes.outboxes ≡ c.boxes.outboxes
      → InboxesAfter p log item (inbox_of c.boxes.inboxes) (inbox_of after.boxes.inboxes)
      → NetAfter p log item c.boxes.net after.boxes.net → after.resending ≡ resends_after c.resending item
      → after.resent ≡ c.resent + one_if (c.resending && is_some (packet_number item))
      → Keeps p sent log c → Keeps p sent (log ++ item ∷ []) after
  grows kept next outboxes inboxes net resending resent keeps = record {
    boxes = record {
      outboxes = subst (λ (o : OutboxesValue). OutboxesMatch p sent (outbox_of o)) (sym outboxes) keeps.boxes.outboxes;
      awaiting = ap (λ (o : OutboxesValue). o.awaiting) outboxes ∙ keeps.boxes.awaiting;
      inboxes = inboxes-one p log item (inbox_of c.boxes.inboxes) (inbox_of after.boxes.inboxes) kept next keeps.boxes.inboxes inboxes;
      net = net-one p log item c.boxes.net after.boxes.net kept next keeps.boxes.net net;
    };
    resending = resending ∙ ap (λ b. resends_after b item) keeps.resending ∙ sym (one_more_record_holds.resending log item);
    resent = resent ∙ ap (λ n. n + one_if (c.resending && is_some (packet_number item))) keeps.resent
        ∙ ap (λ b. resent_count log + one_if (b && is_some (packet_number item))) keeps.resending
        ∙ sym (one_more_record_holds.resent log item);
  }

module _ (p : SettingsValue) (sent log : List Record) where
  -- a step begins
  pub keeps_step : (index : ℕ) (step : Step) (c : CarrierValue) → KeepsPackets log → Keeps p sent log c
      → Keeps p sent (log ++ StepRecord index step ∷ []) (record c { resending = resends step })
  unfolding sent_number taken_number made_packet ended_number resends_after packet_number
  keeps_step index step c kept keeps =
      grows p sent log (StepRecord index step) c (record c { resending = resends step }) kept
      (record { sends = tt; takes = tt; makes = tt; ends = tt }) refl
      (record { takes = tt; other = λ none. refl }) (record { makes = tt; ends = tt; other = λ none no_end. refl }) refl
      (none_more c.resending c.resent) keeps

  -- its refusal
  pub keeps_refused : (index : ℕ) (refusal : Refusal) (c : CarrierValue) → KeepsPackets log → Keeps p sent log c
      → Keeps p sent (log ++ Refused index refusal ∷ []) c
  unfolding sent_number taken_number made_packet ended_number resends_after packet_number
  keeps_refused index refusal c kept keeps =
      grows p sent log (Refused index refusal) c c kept (record { sends = tt; takes = tt; makes = tt; ends = tt }) refl
      (record { takes = tt; other = λ none. refl }) (record { makes = tt; ends = tt; other = λ none no_end. refl }) refl
      (none_more c.resending c.resent) keeps

  -- a tick
  pub keeps_ticked : (c : CarrierValue) → KeepsPackets log → Keeps p sent log c → Keeps p sent (log ++ Ticked ∷ []) c
  unfolding sent_number taken_number made_packet ended_number resends_after packet_number
  keeps_ticked c kept keeps =
      grows p sent log Ticked c c kept (record { sends = tt; takes = tt; makes = tt; ends = tt }) refl
      (record { takes = tt; other = λ none. refl }) (record { makes = tt; ends = tt; other = λ none no_end. refl }) refl
      (none_more c.resending c.resent) keeps

  -- a packet is made
  pub keeps_put : (line : PacketLine) (c after : CarrierValue) → KeepsPackets log → MayBeMade log line
      → HasPut (packet_along (frame_ways p log) line) c after → Keeps p sent log c → Keeps p sent (log ++ packet_record line ∷ []) after
  unfolding sent_number taken_number made_packet ended_number resends_after packet_number
  keeps_put line c after kept made put keeps =
      grows p sent log (packet_record line) c after kept (next-packet log line made)
      (ap (λ (x : CarrierValue). x.boxes.outboxes) put)
      (record { takes = tt; other = λ none. ap (λ (x : CarrierValue). inbox_of x.boxes.inboxes) put })
      (record {
        makes = ap (λ (x : CarrierValue). x.boxes.net) put;
        ends = tt;
        other = λ none no_end. absurd cc;
      })
      (ap (λ (x : CarrierValue). x.resending) put)
      (ap (λ (x : CarrierValue). x.resent) put ∙ ap (λ n. c.resent + n) (and_true c.resending)) keeps

  -- a packet arrives
  pub keeps_arrived : (number : ℕ) (c after : CarrierValue) → KeepsPackets log → MayCome log (Arrived number) → HasDropped number c after
      → Keeps p sent log c → Keeps p sent (log ++ Arrived number ∷ []) after
  unfolding sent_number taken_number made_packet ended_number resends_after packet_number
  keeps_arrived number c after kept next gone keeps =
      grows p sent log (Arrived number) c after kept next (ap (λ (x : CarrierValue). x.boxes.outboxes) gone)
      (record { takes = tt; other = λ none. ap (λ (x : CarrierValue). inbox_of x.boxes.inboxes) gone })
      (record { makes = tt; ends = ap (λ (x : CarrierValue). x.boxes.net) gone; other = λ none no_end. absurd cc })
      (ap (λ (x : CarrierValue). x.resending) gone)
      (ap (λ (x : CarrierValue). x.resent) gone ∙ none_more c.resending c.resent) keeps

  -- a packet is lost
  pub keeps_lost : (number : ℕ) (c after : CarrierValue) → KeepsPackets log → MayCome log (Lost number) → HasDropped number c after
      → Keeps p sent log c → Keeps p sent (log ++ Lost number ∷ []) after
  unfolding sent_number taken_number made_packet ended_number resends_after packet_number
  keeps_lost number c after kept next gone keeps =
      grows p sent log (Lost number) c after kept next (ap (λ (x : CarrierValue). x.boxes.outboxes) gone)
      (record { takes = tt; other = λ none. ap (λ (x : CarrierValue). inbox_of x.boxes.inboxes) gone })
      (record { makes = tt; ends = ap (λ (x : CarrierValue). x.boxes.net) gone; other = λ none no_end. absurd cc })
      (ap (λ (x : CarrierValue). x.resending) gone)
      (ap (λ (x : CarrierValue). x.resent) gone ∙ none_more c.resending c.resent) keeps

  -- a frame is taken, which has arrived in its receiver's inbox
  pub keeps_taken : (frame : ℕ) (inboxes : InboxesValue) (c : CarrierValue) → KeepsPackets log → MayCome log (Taken frame)
      → FrameArrives (frame_ways p log) frame (inbox_of inboxes) (inbox_of c.boxes.inboxes)
      → Keeps p sent log (record c { boxes = record c.boxes { inboxes = inboxes } }) → Keeps p sent (log ++ Taken frame ∷ []) c
  unfolding sent_number taken_number made_packet ended_number resends_after packet_number
  keeps_taken frame inboxes c kept next arrives keeps =
      grows p sent log (Taken frame) (record c { boxes = record c.boxes { inboxes = inboxes } }) c kept next refl
      (record { takes = arrives; other = λ none. absurd cc }) (record { makes = tt; ends = tt; other = λ none no_end. refl }) refl
      (none_more c.resending c.resent) keeps

-- ---- what a node does

none_first : {Y : Type 0} (o : Option Y) (rest : List Y) → cons_option o rest ≡ [] → (o ≡ None) × (rest ≡ [])
none_first None rest is = (refl, is)
none_first (Some y) rest is = absurd cc

nothing_there : {Y : Type 0} (P : Y → Type 0) (o : Option Y) → o ≡ None → IfSome o P
nothing_there P o none = subst (λ x. IfSome x P) (sym none) tt

-- what a record tells that begins no step, takes no frame, and makes and ends no packet
record IsActed (item : Record) : Type 0 where
  begins : step_of item ≡ None
  takes : taken_number item ≡ None
  makes : made_packet item ≡ None
  ends : ended_number item ≡ None

no_step : (b : Bool) (item : Record) → step_of item ≡ None → b ≡ resends_after b item
unfolding resends_after
no_step b (StepRecord index step) none = absurd cc
no_step b item none = refl

no_packet : (item : Record) → made_packet item ≡ None → is_some (packet_number item) ≡ false
unfolding made_packet packet_number
no_packet (PacketRecord number frame ack) none = absurd cc
no_packet item none = refl

-- nothing that a carrier keeps changes with it
acted_one : (p : SettingsValue) (sent log : List Record) (item : Record) (c : CarrierValue) → KeepsPackets log → MayCome log item
    → IsActed item → Keeps p sent log c → Keeps p sent (log ++ item ∷ []) c
acted_one p sent log item c kept next acted keeps =
    grows p sent log item c c kept next refl
    (record { takes = nothing_there _ (taken_number item) acted.takes; other = λ none. refl })
    (record {
      makes = nothing_there _ (made_packet item) acted.makes;
      ends = nothing_there _ (ended_number item) acted.ends;
      other = λ none no_end. refl;
    })
    (no_step c.resending item acted.begins)
    (none_more c.resending c.resent ∙ ap (λ b. c.resent + one_if (c.resending && b)) (sym (no_packet item acted.makes))) keeps

-- nor with several
pub keeps_acted : (p : SettingsValue) (sent log items : List Record) (c : CarrierValue) → KeepsPackets log → EachFrom MayCome log items
    → begun_steps items ≡ [] → frames_taken items ≡ [] → packet_lines items ≡ [] → packets_ended items ≡ []
    → Keeps p sent log c → Keeps p sent (log ++ items) c
keeps_acted p sent log [] c kept follow begins takes makes ends keeps = subst (λ l. Keeps p sent l c) (sym (append-nil log)) keeps
keeps_acted p sent log (item ∷ items) c kept follow begins takes makes ends keeps =
    let b = none_first (step_of item) (begun_steps items) begins in
    let t = none_first (taken_number item) (frames_taken items) takes in
    let m = none_first (made_packet item) (packet_lines items) makes in
    let e = none_first (ended_number item) (packets_ended items) ends in
    subst (λ l. Keeps p sent l c) (append_assoc log (item ∷ []) items)
    (keeps_acted p sent (log ++ item ∷ []) items c (kept-one log item kept follow.0) follow.1 b.1 t.1 m.1 e.1
    (acted_one p sent log item c kept follow.0 (record { begins = b.0; takes = t.0; makes = m.0; ends = e.0 }) keeps))

-- ---- what is sent

module _ (p : SettingsValue) (sent log : List Record) where
  -- records that send nothing, and are no arrivals
  pub keeps_plain : (items : List Record) (c : CarrierValue) → KeepsPackets sent → EachFrom MayCome sent items → ArePlain items
      → Keeps p sent log c → Keeps p (sent ++ items) log c
  keeps_plain items c kept follow plain keeps = record {
    boxes = record {
      outboxes = outboxes-plain p sent items (outbox_of c.boxes.outboxes) kept follow plain keeps.boxes.outboxes;
      awaiting = keeps.boxes.awaiting ∙ ap length (sym (awaiting-plain sent items kept follow plain));
      inboxes = keeps.boxes.inboxes;
      net = keeps.boxes.net;
    };
    resending = keeps.resending;
    resent = keeps.resent;
  }

  -- a frame is put into its sender's outbox
  pub keeps_sends : (item : Record) (from to : List ℕ) (number : ℕ) (c : CarrierValue) (boxes : BoxesValue) → KeepsPackets sent
      → MayCome sent item → number ≡ sent_count sent → sent_number item ≡ Some number → sent_way p item ≡ Some (way_between from to)
      → HasSent from to number c.boxes boxes → Keeps p sent log c → Keeps p (sent ++ item ∷ []) log (record c { boxes = boxes })
  keeps_sends item from to number c boxes kept next counted tells goes sends keeps =
      let one : length (awaiting sent ++ number ∷ []) ≡ length (awaiting sent) + 1 = length_push (awaiting sent) number in
      record {
        boxes = record {
          outboxes = outboxes-sends p sent item (way_between from to) (outbox_of c.boxes.outboxes) (outbox_of boxes.outboxes) kept next goes
              (subst (SendsFrom (outbox_of c.boxes.outboxes) (outbox_of boxes.outboxes) from to) counted sends.sends)
              keeps.boxes.outboxes;
          awaiting = sends.awaiting ∙ ap (λ n. n + 1) keeps.boxes.awaiting ∙ sym one
              ∙ ap length (sym (awaiting-sent sent item number kept next tells));
          inboxes = subst (λ (i : InboxesValue). InboxesMatch p log (inbox_of i)) (sym sends.inboxes) keeps.boxes.inboxes;
          net = subst (NetMatches p log) (sym sends.net) keeps.boxes.net;
        };
        resending = keeps.resending;
        resent = keeps.resent;
      }

  -- ---- packets that arrive

  -- a data packet, which is none of an outbox's
  pub keeps_data : (line : PacketLine) (c : CarrierValue) → KeepsPackets sent → Contains (lines_under_way sent) line → line.ack ≡ false
      → Keeps p sent log c → Keeps p (sent ++ Arrived line.number ∷ []) log c
  keeps_data line c kept under_way data_packet keeps = record {
    boxes = record {
      outboxes = data-arrives p sent line (outbox_of c.boxes.outboxes) kept under_way data_packet keeps.boxes.outboxes;
      awaiting = keeps.boxes.awaiting ∙ ap length (sym (awaiting-data sent line kept under_way data_packet));
      inboxes = keeps.boxes.inboxes;
      net = keeps.boxes.net;
    };
    resending = keeps.resending;
    resent = keeps.resent;
  }

  -- a node awaits an acknowledgement exactly if its frame awaits it
  awaited : (line : PacketLine) (c : CarrierValue) → KeepsPackets sent → Contains (lines_under_way sent) line → line.ack ≡ true
      → Keeps p sent log c → is_awaited c.boxes (packet_along (frame_ways p sent) line) ≡ has_number (awaiting sent) line.frame
  awaited line c kept under_way ack keeps =
      boxes_answer_holds.acked p sent (outbox_of c.boxes.outboxes) line kept keeps.boxes.outboxes under_way ack

  -- so it is counted
  pub awaited_counts : (line : PacketLine) (c : CarrierValue) → KeepsPackets sent → Contains (lines_under_way sent) line → line.ack ≡ true
      → Keeps p sent log c → IsTrue (is_awaited c.boxes (packet_along (frame_ways p sent) line)) → 1 ≤ c.boxes.outboxes.awaiting
  awaited_counts line c kept under_way ack keeps is =
      let there : one_if (has_number (awaiting sent) line.frame) ≡ 1 =
      ap one_if (sym (awaited line c kept under_way ack keeps)) ∙ ap one_if is in
      let all = acked-less sent line.frame kept in
      let count = keeps.boxes.awaiting in
      omega (arith, there, all, count)

  -- an acknowledgement is told to the outbox of the node to which it goes
  pub keeps_acked : (line : PacketLine) (c : CarrierValue) (boxes : BoxesValue) → KeepsPackets sent → Contains (lines_under_way sent) line
      → line.ack ≡ true → HasAcked (packet_along (frame_ways p sent) line) c.boxes boxes → Keeps p sent log c
      → Keeps p (sent ++ Arrived line.number ∷ []) log (record c { boxes = boxes })
  keeps_acked line c boxes kept under_way ack acked keeps =
      let left = length (others_than line.frame (awaiting sent)) in
      let known = ap one_if (awaited line c kept under_way ack keeps) in
      let count = keeps.boxes.awaiting in
      let told = acked.awaiting in
      let all = acked-less sent line.frame kept in
      let fewer : boxes.outboxes.awaiting ≡ left = omega (arith, known, count, told, all) in
      record {
        boxes = record {
          outboxes = ack-arrives p sent line (outbox_of c.boxes.outboxes) (outbox_of boxes.outboxes) kept under_way ack acked.acked
              keeps.boxes.outboxes;
          awaiting = fewer ∙ ap length (sym (awaiting-acked sent line kept under_way ack));
          inboxes = subst (λ (i : InboxesValue). InboxesMatch p log (inbox_of i)) (sym acked.inboxes) keeps.boxes.inboxes;
          net = subst (NetMatches p log) (sym acked.net) keeps.boxes.net;
        };
        resending = keeps.resending;
        resent = keeps.resent;
      }
