-- Boxes that are what a log says stay so with its next records. The first log is the one that outboxes know, the second one that of inboxes
-- and of the net. They are one before a group and after it; while it is added, each record comes to both, to the second one first.
use Rattle.std.proofs.Common.{◌≡◌, ℕ, ◌+◌, ◌≤◌, Bool, true, false, not, nat_eq, List, [], ◌∷◌, ◌++◌, length, Option, None, Some, refl, ap, sym, ◌∙◌, arith, subst, inl, inr, append-nil, append_assoc, length-append}
use Rattle.std.specs.Prelude.{◌||◌, if◌then◌else◌, slice_get, Contains, IsTrue}
use Rattle.std.specs.Option.{IfSome}
use Rattle.std.proofs.lemmas.Bool.{and_parts, cases_Bool, eqb-true}
use Rattle.std.proofs.lemmas.Option.{none-some}
use Rattle.tap_name.specs.Settings.{SettingsValue}
use Rattle.tap_log.specs.declared.record.Record.{Record}
use Rattle.tap_log.specs.declared.record.Record.TheVariants.{Arrived, Lost, Taken}
use Rattle.tap_log.specs.Kinds.{sent_number, taken_number, arrived_number, ended_number}
use Rattle.tap_log.specs.Counts.{sent_count}
use Rattle.tap_log.specs.Log.{EachFrom}
use Rattle.tap_history.specs.Moments.{awaiting, has_number, outstanding}
use Rattle.tap_carry.specs.declared.net.Packet.{Packet}
use Rattle.tap_carry.specs.Inbox.{InboxValue, has_arrived}
use Rattle.tap_carry.specs.Names.{is_name, is_same}
use Rattle.tap_carry.specs.Net.{put_with}
use Rattle.tap_packets.specs.Bounds.{one_when}
use Rattle.tap_packets.specs.Groups.{data_line}
use Rattle.tap_packets.specs.Matching.{ArrivesAt, FrameArrives, InboxesMatch, NetAfter, NetMatches, OutboxesMatch, net_less, packet_along}
use Rattle.tap_packets.specs.MayCome.{KeepsPackets, MayCome}
use Rattle.tap_packets.specs.PacketLaws.{carried_beginning}
use Rattle.tap_packets.specs.Packets.{PacketLine, frames_taken, lines_under_way, made_packet, packet_lines, packet_record, packets_ended}
use Rattle.tap_packets.specs.Sequence.{Way, frame_ways, sent_way, sequence_in, way_at}
use Rattle.tap_packets.proofs.AwaitsFrom.{others_than}
use Rattle.tap_packets.proofs.BoxesBegin.{inboxes-begin, net-begins, outboxes-begin}
use Rattle.tap_packets.proofs.BoxesByRecord.{boxes_answer_holds, sent-with}
use Rattle.tap_packets.proofs.KeptForms.{among_from}
use Rattle.tap_packets.proofs.KeptPackets.{is-under_way}
use Rattle.tap_packets.proofs.OneRecord.{ArePlain, ack-arrives, acked-less, arrival-comes, awaiting-acked, awaiting-data, awaiting-most, awaiting-plain, awaiting-same, awaiting-sent, data-arrives, inboxes-one, inboxes-stay, kept-one, line-at, net-drops, net-one, net-stays, outboxes-plain, outboxes-sends, outboxes-stay, sent-along}
use Rattle.tap_packets.proofs.RecordsCome.{first-none, line-of-arrived, line-of-packet, line-of-taken, next-lost, taken-of-arrived, taken-of-packet, taken-of-taken}
use Rattle.tap_packets.proofs.SameWays.{name_is}
use Rattle.tap_boxes.specs.Boxes.{BoxesValue, InboxesValue, OutboxesValue, empty_boxes, inbox_of, outbox_of}
use Rattle.tap_boxes.specs.Changes.{HasAcked, HasArrived, HasSent, is_awaited, packet_to_send, with_packet, without_packet}
use Rattle.tap_boxes.specs.Kept.{KeepsBoxes}

-- ---- the beginning

awaiting-none : (p : SettingsValue) (frames : ℕ) (members : List (List ℕ)) → awaiting (carried_beginning p frames members) ≡ []
unfolding sent_number
awaiting-none p frames members = refl

pub kept_begins : (p : SettingsValue) (frames : ℕ) (members : List (List ℕ))
    → KeepsBoxes p (carried_beginning p frames members) (carried_beginning p frames members) empty_boxes
kept_begins p frames members = record {
  outboxes = outboxes-begin p frames members (outbox_of empty_boxes.outboxes) (λ name. refl);
  awaiting = sym (ap length (awaiting-none p frames members));
  inboxes = inboxes-begin p frames members (inbox_of empty_boxes.inboxes) (λ name. refl);
  net = net-begins p frames members;
}

-- ---- records of the first log

-- the record sends nothing, and is no arrival
pub kept_first : (p : SettingsValue) (sent log : List Record) (item : Record) (boxes : BoxesValue) → KeepsBoxes p sent log boxes
    → KeepsPackets sent → MayCome sent item → sent_number item ≡ None → arrived_number item ≡ None
    → KeepsBoxes p (sent ++ item ∷ []) log boxes
kept_first p sent log item boxes keeps kept next none no_arrival = record {
  outboxes = outboxes-stay p sent item (outbox_of boxes.outboxes) kept next none no_arrival keeps.outboxes;
  awaiting = keeps.awaiting ∙ ap length (sym (awaiting-same sent item kept next none no_arrival));
  inboxes = keeps.inboxes;
  net = keeps.net;
}

-- several such records, as the packets that are made for what a group sends
pub kept_first_plain : (p : SettingsValue) (sent log items : List Record) (boxes : BoxesValue) → KeepsBoxes p sent log boxes
    → KeepsPackets sent → EachFrom MayCome sent items → ArePlain items → KeepsBoxes p (sent ++ items) log boxes
kept_first_plain p sent log items boxes keeps kept follow plain = record {
  outboxes = outboxes-plain p sent items (outbox_of boxes.outboxes) kept follow plain keeps.outboxes;
  awaiting = keeps.awaiting ∙ ap length (sym (awaiting-plain sent items kept follow plain));
  inboxes = keeps.inboxes;
  net = keeps.net;
}

-- the record sends a frame, which was put into its sender's outbox
pub kept_sent : (p : SettingsValue) (sent log : List Record) (item : Record) (way : Way) (before after : BoxesValue)
    → KeepsBoxes p sent log before → KeepsPackets sent → MayCome sent item → sent_way p item ≡ Some way
    → HasSent way.from way.to (sent_count sent) before after → KeepsBoxes p (sent ++ item ∷ []) log after
kept_sent p sent log item way before after keeps kept next goes has =
    let number = sent-with p item way goes in
    let now = awaiting-sent sent item number.0 kept next number.1 in
    let size = ap length now ∙ length-append (awaiting sent) (number.0 ∷ []) in
    let was = keeps.awaiting in
    let more = has.awaiting in
    record {
      outboxes = outboxes-sends p sent item way (outbox_of before.outboxes) (outbox_of after.outboxes) kept next goes has.sends keeps.outboxes;
      awaiting = (let counted : after.outboxes.awaiting ≡ length (awaiting (sent ++ item ∷ [])) = omega (arith, size, was, more) in counted);
      inboxes = subst (λ i. InboxesMatch p log (inbox_of i)) (sym has.inboxes) keeps.inboxes;
      net = subst (NetMatches p log) (sym has.net) keeps.net;
    }

-- the packet that is then to be made is the data packet of the frame
pub sent_packet : (p : SettingsValue) (sent log : List Record) (item : Record) (way : Way) (number : ℕ) (boxes : BoxesValue)
    → KeepsBoxes p sent log boxes → sent_way p item ≡ Some way
    → packet_to_send boxes way.from way.to (sent_count sent)
    ≡ packet_along (frame_ways p (sent ++ item ∷ [])) (data_line number (sent_count sent))
sent_packet p sent log item way number boxes keeps goes =
    sent-along p sent item way number (outbox_of boxes.outboxes) goes keeps.outboxes

-- the next frame may be put into any outbox
pub may_send : (p : SettingsValue) (sent log : List Record) (name : List ℕ) (boxes : BoxesValue) → KeepsBoxes p sent log boxes
    → ((outbox_of boxes.outboxes name).next ≤ sent_count sent) × (boxes.outboxes.awaiting ≤ sent_count sent)
may_send p sent log name boxes keeps =
    let few = awaiting-most sent in
    let size = keeps.awaiting in
    (keeps.outboxes.most name, omega (arith, few, size))

-- ---- an acknowledgement arrives, or a data packet

-- the node to which it goes awaits it exactly if its frame awaits
pub awaited_is : (p : SettingsValue) (sent log : List Record) (line : PacketLine) (boxes : BoxesValue) → KeepsBoxes p sent log boxes
    → KeepsPackets sent → Contains (lines_under_way sent) line → line.ack ≡ true
    → is_awaited boxes (packet_along (frame_ways p sent) line) ≡ has_number (awaiting sent) line.frame
awaited_is p sent log line boxes keeps kept under_way ack =
    boxes_answer_holds.acked p sent (outbox_of boxes.outboxes) line kept keeps.outboxes under_way ack

-- and is then counted
pub may_ack : (p : SettingsValue) (sent log : List Record) (line : PacketLine) (boxes : BoxesValue) → KeepsBoxes p sent log boxes
    → KeepsPackets sent → Contains (lines_under_way sent) line → line.ack ≡ true
    → IsTrue (is_awaited boxes (packet_along (frame_ways p sent) line)) → 1 ≤ boxes.outboxes.awaiting
may_ack p sent log line boxes keeps kept under_way ack is =
    let there = sym (awaited_is p sent log line boxes keeps kept under_way ack) ∙ is in
    let size = acked-less sent line.frame kept ∙ ap (λ b. length (others_than line.frame (awaiting sent)) + one_when b) there in
    let counted = keeps.awaiting in
    omega (arith, size, counted)

pub kept_acked : (p : SettingsValue) (sent log : List Record) (line : PacketLine) (before after : BoxesValue)
    → KeepsBoxes p sent log before → KeepsPackets sent → Contains (lines_under_way sent) line → line.ack ≡ true
    → HasAcked (packet_along (frame_ways p sent) line) before after → KeepsBoxes p (sent ++ Arrived line.number ∷ []) log after
kept_acked p sent log line before after keeps kept under_way ack has =
    let less = acked-less sent line.frame kept in
    let now = ap length (awaiting-acked sent line kept under_way ack) in
    let was = keeps.awaiting in
    let counted : before.outboxes.awaiting ≡ after.outboxes.awaiting + one_when (has_number (awaiting sent) line.frame) =
    has.awaiting ∙ ap (λ b. after.outboxes.awaiting + one_when b) (awaited_is p sent log line before keeps kept under_way ack) in
    record {
      outboxes = ack-arrives p sent line (outbox_of before.outboxes) (outbox_of after.outboxes) kept under_way ack has.acked keeps.outboxes;
      awaiting = (let left : after.outboxes.awaiting ≡ length (awaiting (sent ++ Arrived line.number ∷ [])) = omega (arith, less, now, was, counted)
          in left);
      inboxes = subst (λ i. InboxesMatch p log (inbox_of i)) (sym has.inboxes) keeps.inboxes;
      net = subst (NetMatches p log) (sym has.net) keeps.net;
    }

pub kept_data : (p : SettingsValue) (sent log : List Record) (line : PacketLine) (boxes : BoxesValue) → KeepsBoxes p sent log boxes
    → KeepsPackets sent → Contains (lines_under_way sent) line → line.ack ≡ false
    → KeepsBoxes p (sent ++ Arrived line.number ∷ []) log boxes
kept_data p sent log line boxes keeps kept under_way data_packet = record {
  outboxes = data-arrives p sent line (outbox_of boxes.outboxes) kept under_way data_packet keeps.outboxes;
  awaiting = keeps.awaiting ∙ ap length (sym (awaiting-data sent line kept under_way data_packet));
  inboxes = keeps.inboxes;
  net = keeps.net;
}

-- ---- records of the second log

-- the record takes no frame, and makes and ends no packet
pub kept_second : (p : SettingsValue) (sent log : List Record) (item : Record) (boxes : BoxesValue) → KeepsBoxes p sent log boxes
    → KeepsPackets log → MayCome log item → taken_number item ≡ None → made_packet item ≡ None → ended_number item ≡ None
    → KeepsBoxes p sent (log ++ item ∷ []) boxes
kept_second p sent log item boxes keeps kept next no_frame no_packet no_end = record {
  outboxes = keeps.outboxes;
  awaiting = keeps.awaiting;
  inboxes = inboxes-stay p log item (inbox_of boxes.inboxes) kept next no_frame keeps.inboxes;
  net = net-stays p log item boxes.net kept next no_packet no_end keeps.net;
}

-- several such records, as what a node does
pub kept_second_acted : (p : SettingsValue) (sent log items : List Record) (boxes : BoxesValue) → KeepsBoxes p sent log boxes
    → KeepsPackets log → EachFrom MayCome log items → frames_taken items ≡ [] → packet_lines items ≡ [] → packets_ended items ≡ []
    → KeepsBoxes p sent (log ++ items) boxes
kept_second_acted p sent log [] boxes keeps kept follow takes makes ends =
    subst (λ l. KeepsBoxes p sent l boxes) (sym (append-nil log)) keeps
kept_second_acted p sent log (item ∷ items) boxes keeps kept follow takes makes ends =
    let t = first-none (taken_number item) (frames_taken items) takes in
    let m = first-none (made_packet item) (packet_lines items) makes in
    let e = first-none (ended_number item) (packets_ended items) ends in
    subst (λ l. KeepsBoxes p sent l boxes) (append_assoc log (item ∷ []) items)
    (kept_second_acted p sent (log ++ item ∷ []) items boxes (kept_second p sent log item boxes keeps kept follow.0 t.0 m.0 e.0)
    (kept-one log item kept follow.0) follow.1 t.1 m.1 e.1)

-- a packet was put into the net
ended-of-made : (line : PacketLine) → ended_number (packet_record line) ≡ None
unfolding ended_number
ended-of-made line = refl

pub kept_put : (p : SettingsValue) (sent log : List Record) (line : PacketLine) (packet : Packet) (boxes : BoxesValue)
    → KeepsBoxes p sent log boxes → KeepsPackets log → MayCome log (packet_record line) → packet ≡ packet_along (frame_ways p log) line
    → KeepsBoxes p sent (log ++ packet_record line ∷ []) (with_packet boxes packet)
kept_put p sent log line packet boxes keeps kept next is =
    let item = packet_record line in
    let Makes : Option PacketLine → Type 0 = λ o. IfSome o (λ l. put_with boxes.net packet ≡ put_with boxes.net (packet_along (frame_ways p log) l)) in
    let Ends : Option ℕ → Type 0 = λ o. IfSome o (λ number. put_with boxes.net packet ≡ net_less boxes.net number) in
    let change : NetAfter p log item boxes.net (put_with boxes.net packet) = record {
      makes = subst Makes (sym (line-of-packet line)) (ap (put_with boxes.net) is);
      ends = subst Ends (sym (ended-of-made line)) tt;
      other = λ none. absurd (none-some line (sym none ∙ line-of-packet line));
    } in
    record {
      outboxes = keeps.outboxes;
      awaiting = keeps.awaiting;
      inboxes = inboxes-stay p log item (inbox_of boxes.inboxes) kept next (taken-of-packet line) keeps.inboxes;
      net = net-one p log item boxes.net (put_with boxes.net packet) kept next keeps.net change;
    }

-- the packet at a place arrived, or was lost
dropped : (p : SettingsValue) (sent log : List Record) (place : ℕ) (line : PacketLine) (item : Record) (boxes : BoxesValue)
    → KeepsBoxes p sent log boxes → KeepsPackets log → MayCome log item → slice_get (lines_under_way log) place ≡ Some line
    → taken_number item ≡ None → made_packet item ≡ None → ended_number item ≡ Some line.number
    → KeepsBoxes p sent (log ++ item ∷ []) (without_packet boxes place)
dropped p sent log place line item boxes keeps kept next at no_frame no_packet ends =
    let after = (without_packet boxes place).net in
    let Makes : Option PacketLine → Type 0 = λ o. IfSome o (λ l. after ≡ put_with boxes.net (packet_along (frame_ways p log) l)) in
    let Ends : Option ℕ → Type 0 = λ o. IfSome o (λ number. after ≡ net_less boxes.net number) in
    let change : NetAfter p log item boxes.net after = record {
      makes = subst Makes (sym no_packet) tt;
      ends = subst Ends (sym ends) (net-drops p log boxes.net place line kept keeps.net at);
      other = λ none no_end. absurd (none-some line.number (sym no_end ∙ ends));
    } in
    record {
      outboxes = keeps.outboxes;
      awaiting = keeps.awaiting;
      inboxes = inboxes-stay p log item (inbox_of boxes.inboxes) kept next no_frame keeps.inboxes;
      net = net-one p log item boxes.net after kept next keeps.net change;
    }

ended-of-arrived : (number : ℕ) → ended_number (Arrived number) ≡ Some number
unfolding ended_number
ended-of-arrived number = refl

ended-of-lost : (number : ℕ) → ended_number (Lost number) ≡ Some number
unfolding ended_number
ended-of-lost number = refl

lost-else : (number : ℕ) → (taken_number (Lost number) ≡ None) × (made_packet (Lost number) ≡ None)
unfolding taken_number made_packet
lost-else number = (refl, refl)

pub kept_arrives : (p : SettingsValue) (sent log : List Record) (place : ℕ) (line : PacketLine) (boxes : BoxesValue)
    → KeepsBoxes p sent log boxes → KeepsPackets log → slice_get (lines_under_way log) place ≡ Some line
    → KeepsBoxes p sent (log ++ Arrived line.number ∷ []) (without_packet boxes place)
kept_arrives p sent log place line boxes keeps kept at =
    dropped p sent log place line (Arrived line.number) boxes keeps kept (arrival-comes log line (line-at (lines_under_way log) place line at)) at
    (taken-of-arrived line.number) (line-of-arrived line.number) (ended-of-arrived line.number)

pub kept_lost : (p : SettingsValue) (sent log : List Record) (place : ℕ) (line : PacketLine) (boxes : BoxesValue)
    → KeepsBoxes p sent log boxes → KeepsPackets log → slice_get (lines_under_way log) place ≡ Some line
    → KeepsBoxes p sent (log ++ Lost line.number ∷ []) (without_packet boxes place)
kept_lost p sent log place line boxes keeps kept at =
    let lines = lines_under_way log in
    let next = next-lost log line.number (is-under_way log line (among_from lines line (line-at lines place line at))) in
    let others = lost-else line.number in
    dropped p sent log place line (Lost line.number) boxes keeps kept next at others.0 others.1 (ended-of-lost line.number)

ended-of-taken : (frame : ℕ) → ended_number (Taken frame) ≡ None
unfolding ended_number
ended-of-taken frame = refl

-- ---- a frame is taken

-- a data packet arrives for the first time exactly if its frame is outstanding
pub first_arrival : (p : SettingsValue) (sent log : List Record) (line : PacketLine) (boxes : BoxesValue) → KeepsBoxes p sent log boxes
    → KeepsPackets log → Contains (lines_under_way log) line → line.ack ≡ false
    → (let packet = packet_along (frame_ways p log) line in
    not (has_arrived (inbox_of boxes.inboxes packet.to) packet.from packet.seq) ≡ has_number (outstanding log) line.frame)
first_arrival p sent log line boxes keeps kept under_way data_packet =
    boxes_answer_holds.arrived p log (inbox_of boxes.inboxes) line kept keeps.inboxes under_way data_packet

-- its frame then arrives at its receiver
pub frame_arrives : (ways : List Way) (line : PacketLine) (before after : BoxesValue) → line.ack ≡ false
    → HasArrived (packet_along ways line) before after
    → FrameArrives ways line.frame (inbox_of before.inboxes) (inbox_of after.inboxes)
frame_arrives ways line before after data_packet has =
    let way = way_at ways line.frame in
    let At : Bool → Type 0 = λ b. ArrivesAt (inbox_of before.inboxes) (inbox_of after.inboxes) (if b then way.from else way.to)
    (if b then way.to else way.from) (sequence_in ways line.frame) in
    subst At data_packet has.arrives

-- the frame is taken that has arrived in its receiver's inbox, which was among these before
pub kept_taken : (p : SettingsValue) (sent log : List Record) (frame : ℕ) (inboxes : InboxesValue) (boxes : BoxesValue)
    → KeepsBoxes p sent log (record boxes { inboxes = inboxes }) → KeepsPackets log → MayCome log (Taken frame)
    → FrameArrives (frame_ways p log) frame (inbox_of inboxes) (inbox_of boxes.inboxes)
    → KeepsBoxes p sent (log ++ Taken frame ∷ []) boxes
kept_taken p sent log frame inboxes boxes keeps kept next arrives =
    let Takes : Option ℕ → Type 0 = λ o.
    IfSome o (λ f. FrameArrives (frame_ways p log) f (inbox_of inboxes) (inbox_of boxes.inboxes)) in
    record {
      outboxes = keeps.outboxes;
      awaiting = keeps.awaiting;
      inboxes = inboxes-one p log (Taken frame) (inbox_of inboxes) (inbox_of boxes.inboxes) kept next keeps.inboxes (record {
        takes = subst Takes (sym (taken-of-taken frame)) arrives;
        other = λ none. absurd (none-some frame (sym none ∙ taken-of-taken frame));
      });
      net = net-stays p log (Taken frame) boxes.net kept next (line-of-taken frame) (ended-of-taken frame) keeps.net;
    }

-- a number that arrives once more changes nothing that is asked
or-false : (b : Bool) → (b || false) ≡ b
or-false true = refl
or-false false = refl

again-known : (name other : List ℕ) (seq number : ℕ) (box : InboxValue) → has_arrived box name seq ≡ true
    → (has_arrived box other number || is_same name seq other number) ≡ has_arrived box other number
again-known name other seq number box known = elim (cases_Bool (is_same name seq other number)) [
  | inl same ↦
      let parts = and_parts (is_name name other) (nat_eq seq number) same in
      let there : has_arrived box other number ≡ true =
      ap (λ n. has_arrived box n number) (sym (name_is name other parts.0)) ∙ ap (has_arrived box name) (sym (eqb-true seq number parts.1)) ∙ known in
      ap (λ b. b || is_same name seq other number) there ∙ sym there
  | inr apart ↦ ap (λ b. has_arrived box other number || b) apart ∙ or-false (has_arrived box other number)
]

pub kept_again : (p : SettingsValue) (sent log : List Record) (packet : Packet) (before after : BoxesValue)
    → KeepsBoxes p sent log before → has_arrived (inbox_of before.inboxes packet.to) packet.from packet.seq ≡ true
    → HasArrived packet before after → KeepsBoxes p sent log after
kept_again p sent log packet before after keeps known has =
    let was = inbox_of before.inboxes in
    let now = inbox_of after.inboxes in
    let same : (name from : List ℕ) (seq : ℕ) → has_arrived (now name) from seq ≡ has_arrived (was name) from seq =
    λ name from seq. elim (has.arrives.others name) [
      | inl is ↦
          ap (λ n. has_arrived (now n) from seq) is ∙ has.arrives.here.is from seq
          ∙ again-known packet.from from packet.seq seq (was packet.to) known ∙ ap (λ n. has_arrived (was n) from seq) (sym is)
      | inr stays ↦ ap (λ (box : InboxValue). has_arrived box from seq) stays
    ] in
    record {
      outboxes = subst (λ o. OutboxesMatch p sent (outbox_of o)) (sym has.outboxes) keeps.outboxes;
      awaiting = ap (λ (o : OutboxesValue). o.awaiting) has.outboxes ∙ keeps.awaiting;
      inboxes = record { arrived = λ name from seq. same name from seq ∙ keeps.inboxes.arrived name from seq };
      net = subst (NetMatches p log) (sym has.net) keeps.net;
    }
