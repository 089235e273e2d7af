-- What the groups of a carrier tell of frames and packets.
use Rattle.std.proofs.Common.{◌≡◌, ℕ, ◌+◌, Bool, true, false, not, List, [], ◌∷◌, ◌++◌, length, map, filter, refl, ap, sym, ◌∙◌, cond, arith, subst, length-append, append-nil}
use Rattle.std.proofs.lemmas.List.{map-append, length-map}
use Rattle.std.proofs.lemmas.List.Elements.{filter-append, filter_map-append}
use Rattle.tap_scenario.specs.declared.step.Step.{Step}
use Rattle.tap_log.specs.declared.record.Record.{Record}
use Rattle.tap_log.specs.declared.record.Record.TheVariants.{Arrived, Lost}
use Rattle.tap_log.specs.Kinds.{sent_number, arrived_number, ended_number}
use Rattle.tap_log.specs.Counts.{sent_count, packet_count}
use Rattle.tap_history.specs.Moments.{numbers_less, awaiting}
use Rattle.tap_packets.specs.Bounds.{data_count, ack_count, one_when}
use Rattle.tap_packets.specs.Groups.{ack_line, data_lines, AreActed, carried_step_group, lose_group, copied_line, repeat_group, tick_group, arrival_records}
use Rattle.tap_packets.specs.Packets.{frames_sent, PacketLine, made_packet, packet_record, packet_lines, packets_ended, line_numbers, line_frames, lines_less, lines_under_way}
use Rattle.tap_packets.proofs.GroupsCome.{acted-from}
use Rattle.tap_packets.proofs.KeptForms.{AmongLines, Keeps, GoesOn}
use Rattle.tap_packets.proofs.KeptPackets.{line-number}
use Rattle.tap_packets.proofs.MoreUnderWay.{packets_arrived, acknowledged_lines, under_way-lines, awaiting-group}
use Rattle.tap_packets.proofs.NumbersInRows.{AreFrom, AreBelow, from-append}
use Rattle.tap_packets.proofs.RecordsCome.{lines-of-packets, sent-of-packets, ended-of-packets, arrived-of-packets, data-size}

-- ---- what a group tells

-- A group tells of these frames that it sends, packets that it makes, and numbers of packets that end and that arrive in it.
pub record Tells (log group : List Record) (frames : List ℕ) (lines : List PacketLine) (ends arrives : List ℕ) : Type 0 where
  pub sent : frames_sent group ≡ frames
  pub made : packet_lines group ≡ lines
  pub ended : packets_ended group ≡ ends
  pub arrived : packets_arrived group ≡ arrives
  pub from : AreFrom (sent_count log) frames
  pub numbered : AreFrom (packet_count log) (line_numbers lines)
  pub below : AreBelow (packet_count log) ends

pub tells-on : (log group : List Record) (frames : List ℕ) (lines : List PacketLine) (ends arrives : List ℕ)
    → Tells log group frames lines ends arrives → GoesOn log group
tells-on log group frames lines ends arrives t =
    record {
      sent = subst (AreFrom (sent_count log)) (sym t.sent) t.from;
      made = subst (λ l. AreFrom (packet_count log) (line_numbers l)) (sym t.made) t.numbered;
      ended = subst (AreBelow (packet_count log)) (sym t.ended) t.below;
    }

pub under_way-after : (log group : List Record) (frames : List ℕ) (lines : List PacketLine) (ends arrives : List ℕ) → Keeps log
    → Tells log group frames lines ends arrives
    → lines_under_way (log ++ group) ≡ lines_less (lines_under_way log) ends ++ lines
under_way-after log group frames lines ends arrives kept t =
    under_way-lines log group kept (tells-on log group frames lines ends arrives t)
    ∙ ap (λ l. lines_less (lines_under_way log) l ++ packet_lines group) t.ended
    ∙ ap (λ l. lines_less (lines_under_way log) ends ++ l) t.made

pub awaiting-after : (log group : List Record) (frames : List ℕ) (lines : List PacketLine) (ends arrives : List ℕ) → Keeps log
    → Tells log group frames lines ends arrives
    → awaiting (log ++ group) ≡ numbers_less (awaiting log) (acknowledged_lines arrives (packet_lines log)) ++ frames
awaiting-after log group frames lines ends arrives kept t =
    awaiting-group log group kept (tells-on log group frames lines ends arrives t)
    ∙ ap (λ l. numbers_less (awaiting log) (acknowledged_lines l (packet_lines log)) ++ frames_sent group) t.arrived
    ∙ ap (λ l. numbers_less (awaiting log) (acknowledged_lines arrives (packet_lines log)) ++ l) t.sent

-- ---- counts of packets

pub carrying-append : (xs ys : List PacketLine) → data_count (xs ++ ys) ≡ data_count xs + data_count ys
carrying-append xs ys =
    ap length (filter-append (λ (l : PacketLine). not l.ack) xs ys)
    ∙ length-append (filter (λ (l : PacketLine). not l.ack) xs) (filter (λ (l : PacketLine). not l.ack) ys)

pub acking-append : (xs ys : List PacketLine) → ack_count (xs ++ ys) ≡ ack_count xs + ack_count ys
acking-append xs ys =
    ap length (filter-append (λ (l : PacketLine). l.ack) xs ys)
    ∙ length-append (filter (λ (l : PacketLine). l.ack) xs) (filter (λ (l : PacketLine). l.ack) ys)

pub carrying-data : (n : ℕ) (frames : List ℕ) → data_count (data_lines n frames) ≡ length frames
carrying-data n [] = refl
carrying-data n (f ∷ frames) = let rest = carrying-data (n + 1) frames in omega (arith, rest)

pub acking-data : (n : ℕ) (frames : List ℕ) → ack_count (data_lines n frames) ≡ 0
acking-data n [] = refl
acking-data n (f ∷ frames) = acking-data (n + 1) frames

pub numbers-data : (n : ℕ) (frames : List ℕ) → AreFrom n (line_numbers (data_lines n frames))
numbers-data n [] = tt
numbers-data n (f ∷ frames) = (refl, numbers-data (n + 1) frames)

pub frames-data : (n : ℕ) (frames : List ℕ) → line_frames (data_lines n frames) ≡ frames
frames-data n [] = refl
frames-data n (f ∷ frames) = ap (λ l. f ∷ l) (frames-data (n + 1) frames)

one-of : (b : Bool) (line : PacketLine) → length (cond {A = List PacketLine} b (line ∷ []) []) ≡ one_when b
one-of true line = refl
one-of false line = refl

pub one-acking : (line : PacketLine) → ack_count (line ∷ []) ≡ one_when line.ack
one-acking line = one-of line.ack line

pub one-carrying : (line : PacketLine) → data_count (line ∷ []) ≡ one_when (not line.ack)
one-carrying line = one-of (not line.ack) line

-- ---- what groups tell

items-sent : (items : List Record) (lines : List PacketLine) → frames_sent (items ++ map packet_record lines) ≡ frames_sent items
items-sent items lines =
    filter_map-append sent_number items (map packet_record lines) ∙ ap (λ l. frames_sent items ++ l) (sent-of-packets lines)
    ∙ append-nil (frames_sent items)

items-made : (items : List Record) (lines : List PacketLine) → packet_lines items ≡ []
    → packet_lines (items ++ map packet_record lines) ≡ lines
items-made items lines none =
    filter_map-append made_packet items (map packet_record lines) ∙ ap (λ l. l ++ packet_lines (map packet_record lines)) none
    ∙ lines-of-packets lines

items-ended : (items : List Record) (lines : List PacketLine) → packets_ended items ≡ []
    → packets_ended (items ++ map packet_record lines) ≡ []
items-ended items lines none =
    filter_map-append ended_number items (map packet_record lines) ∙ ap (λ l. l ++ packets_ended (map packet_record lines)) none
    ∙ ended-of-packets lines

-- packets that arrive are among those that end
none-arrive : (items : List Record) → packets_ended items ≡ [] → packets_arrived items ≡ []
unfolding ended_number arrived_number
none-arrive [] none = refl
none-arrive (Arrived packet ∷ items) none = absurd (let long = ap length none in omega (arith, long))
none-arrive (Lost packet ∷ items) none = absurd (let long = ap length none in omega (arith, long))
none-arrive (item ∷ items) none = none-arrive items none

items-arrived : (items : List Record) (lines : List PacketLine) → packets_ended items ≡ []
    → packets_arrived (items ++ map packet_record lines) ≡ []
items-arrived items lines none =
    filter_map-append arrived_number items (map packet_record lines)
    ∙ ap (λ l. l ++ packets_arrived (map packet_record lines)) (none-arrive items none) ∙ arrived-of-packets lines

pub step-tells : (log : List Record) (index : ℕ) (step : Step) (items : List Record) → AreActed log items
    → Tells log (carried_step_group log index step items) (frames_sent items) (data_lines (packet_count log) (frames_sent items)) [] []
unfolding sent_number made_packet ended_number arrived_number
step-tells log index step items acted =
    let lines = data_lines (packet_count log) (frames_sent items) in
    record {
      sent = items-sent items lines;
      made = items-made items lines acted.makes;
      ended = items-ended items lines acted.ends;
      arrived = items-arrived items lines acted.ends;
      from = acted-from log items acted;
      numbered = numbers-data (packet_count log) (frames_sent items);
      below = tt;
    }

pub tick-tells : (log : List Record) → Tells log (tick_group log) [] (data_lines (packet_count log) (awaiting log)) [] []
unfolding sent_number made_packet ended_number arrived_number
tick-tells log =
    let lines = data_lines (packet_count log) (awaiting log) in
    record {
      sent = sent-of-packets lines;
      made = lines-of-packets lines;
      ended = ended-of-packets lines;
      arrived = arrived-of-packets lines;
      from = tt;
      numbered = numbers-data (packet_count log) (awaiting log);
      below = tt;
    }

pub lose-tells : (log : List Record) (index place : ℕ) (line : PacketLine) → Keeps log → AmongLines line (lines_under_way log)
    → Tells log (lose_group index place line) [] [] (line.number ∷ []) []
unfolding sent_number made_packet ended_number arrived_number
lose-tells log index place line kept among =
    record {
      sent = refl;
      made = refl;
      ended = refl;
      arrived = refl;
      from = tt;
      numbered = tt;
      below = (line-number log line kept among, tt);
    }

pub repeat-tells : (log : List Record) (index place : ℕ) (line : PacketLine)
    → Tells log (repeat_group log index place line) [] (copied_line log line ∷ []) [] []
unfolding sent_number made_packet ended_number arrived_number
repeat-tells log index place line =
    record { sent = refl; made = refl; ended = refl; arrived = refl; from = tt; numbered = (refl, tt); below = tt }

pub ack-tells : (log : List Record) (line : PacketLine) → Keeps log → AmongLines line (lines_under_way log)
    → Tells log (Arrived line.number ∷ []) [] [] (line.number ∷ []) (line.number ∷ [])
unfolding sent_number made_packet ended_number arrived_number
ack-tells log line kept among =
    record {
      sent = refl;
      made = refl;
      ended = refl;
      arrived = refl;
      from = tt;
      numbered = tt;
      below = (line-number log line kept among, tt);
    }

pub again-tells : (log : List Record) (line : PacketLine) → Keeps log → AmongLines line (lines_under_way log)
    → Tells log (Arrived line.number ∷ packet_record (ack_line (packet_count log) line.frame) ∷ []) []
    (ack_line (packet_count log) line.frame ∷ [])
    (line.number ∷ []) (line.number ∷ [])
unfolding sent_number made_packet ended_number arrived_number
again-tells log line kept among =
    record {
      sent = refl;
      made = refl;
      ended = refl;
      arrived = refl;
      from = tt;
      numbered = (refl, tt);
      below = (line-number log line kept among, tt);
    }

pub first-tells : (log : List Record) (line : PacketLine) (items : List Record) → Keeps log → AmongLines line (lines_under_way log)
    → AreActed log items
    → Tells log (Arrived line.number ∷ arrival_records log line items false true) (frames_sent items)
    (data_lines (packet_count log) (frames_sent items) ++ ack_line (packet_count log + length (frames_sent items)) line.frame ∷ [])
    (line.number ∷ []) (line.number ∷ [])
unfolding sent_number made_packet ended_number arrived_number
first-tells log line items kept among acted =
    let frames = frames_sent items in
    let lines = data_lines (packet_count log) frames in
    let ack = ack_line (packet_count log + length frames) line.frame in
    let all = lines ++ ack ∷ [] in
    let packets : items ++ (map packet_record lines ++ packet_record ack ∷ []) ≡ items ++ map packet_record all =
    ap (λ l. items ++ l) (sym (map-append packet_record lines (ack ∷ []))) in
    let numbers : line_numbers all ≡ line_numbers lines ++ (packet_count log + length frames) ∷ [] =
    map-append (λ (l : PacketLine). l.number) lines (ack ∷ []) in
    let long : packet_count log + length frames ≡ packet_count log + length (line_numbers lines) =
    ap (λ k. packet_count log + k) (sym (length-map lines (λ (l : PacketLine). l.number) ∙ data-size (packet_count log) frames)) in
    record {
      sent = ap frames_sent packets ∙ items-sent items all;
      made = ap packet_lines packets ∙ items-made items all acted.makes;
      ended = ap (λ l. line.number ∷ packets_ended l) packets ∙ ap (λ l. line.number ∷ l) (items-ended items all acted.ends);
      arrived = ap (λ l. line.number ∷ packets_arrived l) packets ∙ ap (λ l. line.number ∷ l) (items-arrived items all acted.ends);
      from = acted-from log items acted;
      numbered = subst (AreFrom (packet_count log)) (sym numbers)
          (from-append (packet_count log) (line_numbers lines) ((packet_count log + length frames) ∷ [])
          (numbers-data (packet_count log) frames) (long, tt));
      below = (line-number log line kept among, tt);
    }
