-- What each group of a carrier changes in the counts.
use Rattle.std.proofs.Common.{◌≡◌, ℕ, suc, ◌+◌, ◌≤◌, Bool, true, false, not, nat_eq, List, [], ◌∷◌, ◌++◌, length, filter, refl, ap, sym, ◌∙◌, cond, arith, inl, inr, ◌⊎◌, length-append, append-nil}
use Rattle.std.specs.Prelude.{◌&&◌}
use Rattle.std.proofs.lemmas.Bool.{eq-eqb, or_left, or_right, or_parts, false≢true}
use Rattle.std.proofs.lemmas.List.Elements.{filter_map-append}
use Rattle.tap_scenario.specs.declared.step.Step.{Step}
use Rattle.tap_log.specs.declared.record.Record.{Record}
use Rattle.tap_log.specs.declared.record.Record.TheVariants.{Arrived}
use Rattle.tap_log.specs.Kinds.{sent_number}
use Rattle.tap_log.specs.Counts.{sent_count, packet_count}
use Rattle.tap_log.proofs.MoreRecords.{packet_count-append}
use Rattle.tap_history.specs.Moments.{has_number, numbers_less, outstanding, acknowledged, awaiting}
use Rattle.tap_packets.specs.Bounds.{stranded, data_count, ack_count, counts_of, Changes, one_when, ArrivalChanges, TickChanges, IsEffect}
use Rattle.tap_packets.specs.Groups.{ack_line, data_lines, AreActed, carried_step_group, lose_group, copied_line, repeat_group, tick_group, arrival_records, CarrierMove, group_of, IsCarrierMove}
use Rattle.tap_packets.specs.Packets.{frames_sent, PacketLine, packet_record, packet_lines, packets_ended, line_frames, lines_less, lines_under_way}
use Rattle.tap_packets.proofs.GroupsTell.{Tells, under_way-after, carrying-append, acking-append, carrying-data, acking-data, frames-data, one-acking, one-carrying, step-tells, tick-tells, lose-tells, repeat-tells, ack-tells, again-tells, first-tells}
use Rattle.tap_packets.proofs.KeptForms.{count_is, AmongLines, among_from, Keeps}
use Rattle.tap_packets.proofs.KeptPackets.{among-filter}
use Rattle.tap_packets.proofs.LinesCounted.{under_way-distinct, one-goes, still}
use Rattle.tap_packets.proofs.MoreUnderWay.{acknowledged_lines, none-acknowledged, acknowledged-one}
use Rattle.tap_packets.proofs.NumbersInRows.{less-none}
use Rattle.tap_packets.proofs.RecordsCome.{data-size}
use Rattle.tap_packets.proofs.StrandedFrames.{none-pass, lacks, strands-none, strands-one, stranded-after, frames-both}
use Rattle.tap_packets.specs.Groups.CarrierMove.{Acts, Arrives, Loses, Repeats, Ticks}

-- ---- what groups change

-- the counts of sent frames and packets after a group
sent-after : (log group : List Record) (frames : List ℕ) (lines : List PacketLine) (ends arrives : List ℕ)
    → Tells log group frames lines ends arrives
    → sent_count (log ++ group) ≡ sent_count log + length frames
sent-after log group frames lines ends arrives t =
    ap length (filter_map-append sent_number log group ∙ ap (λ l. frames_sent log ++ l) t.sent) ∙ length-append (frames_sent log) frames

made-after : (log group : List Record) (frames : List ℕ) (lines : List PacketLine) (ends arrives : List ℕ)
    → Tells log group frames lines ends arrives
    → packet_count (log ++ group) ≡ packet_count log + length lines
made-after log group frames lines ends arrives t =
    packet_count-append log group ∙ ap (λ k. packet_count log + k) (count_is group ∙ ap length t.made)

carrying-after : (log group : List Record) (frames : List ℕ) (lines : List PacketLine) (ends arrives : List ℕ) → Keeps log
    → Tells log group frames lines ends arrives
    → data_count (lines_under_way (log ++ group)) ≡ data_count (lines_less (lines_under_way log) ends) + data_count lines
carrying-after log group frames lines ends arrives kept t =
    ap data_count (under_way-after log group frames lines ends arrives kept t)
    ∙ carrying-append (lines_less (lines_under_way log) ends) lines

acking-after : (log group : List Record) (frames : List ℕ) (lines : List PacketLine) (ends arrives : List ℕ) → Keeps log
    → Tells log group frames lines ends arrives
    → ack_count (lines_under_way (log ++ group)) ≡ ack_count (lines_less (lines_under_way log) ends) + ack_count lines
acking-after log group frames lines ends arrives kept t =
    ap ack_count (under_way-after log group frames lines ends arrives kept t) ∙ acking-append (lines_less (lines_under_way log) ends) lines

-- nothing ends
none-end : (log : List Record) → lines_less (lines_under_way log) [] ≡ lines_under_way log
none-end log = less-none (λ (l : PacketLine). l.number) (lines_under_way log)

-- a group that ends no packet, and makes one for each frame that it sends
open-changes : (log group : List Record) (frames : List ℕ) (lines : List PacketLine) → Keeps log → Tells log group frames lines [] []
    → ((g : ℕ) → has_number frames g ≡ true → has_number (line_frames lines) g ≡ true)
    → Changes (length frames) (length lines) 0 (data_count lines) 0 (ack_count lines) 0 (counts_of log) (counts_of (log ++ group))
open-changes log group frames lines kept t covers =
    let left = none-end log in
    let a = carrying-after log group frames lines [] [] kept t ∙ ap (λ l. data_count l + data_count lines) left in
    let b = acking-after log group frames lines [] [] kept t ∙ ap (λ l. ack_count l + ack_count lines) left in
    let strands =
    strands-none log frames (acknowledged_lines [] (packet_lines log)) (line_frames (lines_less (lines_under_way log) [] ++ lines)) kept
    (λ g is. frames-both (lines_less (lines_under_way log) []) lines g
    ∙ or_right (has_number (line_frames (lines_less (lines_under_way log) [])) g) (has_number (line_frames lines) g) (covers g is))
    (λ g acked under.
    ap (λ l. has_number (line_frames l) g) (sym left)
    ∙ (or_parts (has_number (line_frames (lines_less (lines_under_way log) [])) g) (has_number (line_frames lines) g)
    (sym (frames-both (lines_less (lines_under_way log) []) lines g) ∙ under)).0) in
    let c = ap length (stranded-after log group frames lines [] [] kept t) in
    record {
      sent = sent-after log group frames lines [] [] t;
      made = made-after log group frames lines [] [] t;
      carrying = omega (arith, a);
      acking = omega (arith, b);
      stranded = omega (arith, c, strands);
    }

-- a group that a packet begins which arrives: it makes one for each frame that it sends, and it acknowledges the packet's frame or makes
-- a packet of it
arrival-changes : (log group : List Record) (line : PacketLine) (frames : List ℕ) (lines : List PacketLine) → Keeps log
    → AmongLines line (lines_under_way log)
    → Tells log group frames lines (line.number ∷ []) (line.number ∷ [])
    → ((g : ℕ) → has_number frames g ≡ true → has_number (line_frames lines) g ≡ true)
    → (line.ack ≡ true) ⊎ (has_number (line_frames lines) line.frame ≡ true)
    → Changes (length frames) (length lines) (one_when (not line.ack)) (data_count lines) (one_when line.ack) (ack_count lines) 0
    (counts_of log) (counts_of (log ++ group))
arrival-changes log group line frames lines kept among t covers ends_well =
    let n = line.number in
    let fl = lines_under_way log in
    let one = n ∷ [] in
    let distinct = under_way-distinct log kept in
    let there = among-filter (λ (l : PacketLine). not (has_number (packets_ended log) l.number)) line (packet_lines log) among in
    let a = carrying-after log group frames lines one one kept t in
    let b = acking-after log group frames lines one one kept t in
    let a2 = one-goes (λ (l : PacketLine). not l.ack) line fl distinct among in
    let b2 = one-goes (λ (l : PacketLine). l.ack) line fl distinct among in
    let acked = acknowledged_lines one (packet_lines log) in
    let under = line_frames (lines_less fl one ++ lines) in
    let strands = strands-none log frames acked under kept
    (λ g is. frames-both (lines_less fl one) lines g
    ∙ or_right (has_number (line_frames (lines_less fl one)) g) (has_number (line_frames lines) g) (covers g is))
    (λ g unacked lacking.
    let parts =
    or_parts (has_number (line_frames (lines_less fl one)) g) (has_number (line_frames lines) g)
    (sym (frames-both (lines_less fl one) lines g) ∙ lacking) in
    let apart : g ≡ line.frame → ⊥ = λ same.
    elim ends_well [
      | inl ack ↦ false≢true (sym (sym (acknowledged-one 0 g line (packet_lines log) kept.made there.0) ∙ unacked)
          ∙ ap (λ b. b && nat_eq line.frame g) ack ∙ eq-eqb line.frame g (sym same))
      | inr made ↦ false≢true (sym parts.1 ∙ ap (has_number (line_frames lines)) same ∙ made)
    ] in
    sym (still line g fl distinct among apart) ∙ parts.0) in
    let c = ap length (stranded-after log group frames lines one one kept t) in
    record {
      sent = sent-after log group frames lines one one t;
      made = made-after log group frames lines one one t;
      carrying = omega (arith, a, a2);
      acking = omega (arith, b, b2);
      stranded = omega (arith, c, strands);
    }

lose-changes : (log : List Record) (index place : ℕ) (line : PacketLine) → Keeps log → AmongLines line (lines_under_way log)
    → Changes 0 0 (one_when (not line.ack)) 0 (one_when line.ack) 0 1 (counts_of log) (counts_of (log ++ lose_group index place line))
lose-changes log index place line kept among =
    let group = lose_group index place line in
    let t = lose-tells log index place line kept among in
    let n = line.number in
    let fl = lines_under_way log in
    let one = n ∷ [] in
    let distinct = under_way-distinct log kept in
    let a = carrying-after log group [] [] one [] kept t in
    let b = acking-after log group [] [] one [] kept t in
    let a2 = one-goes (λ (l : PacketLine). not l.ack) line fl distinct among in
    let b2 = one-goes (λ (l : PacketLine). l.ack) line fl distinct among in
    let strands = strands-one log line.frame (acknowledged_lines [] (packet_lines log)) (line_frames (lines_less fl one ++ [])) kept
    (λ g apart lacking. sym (still line g fl distinct among apart)
    ∙ ap (λ l. has_number (line_frames l) g) (sym (append-nil (lines_less fl one))) ∙ lacking) in
    let c = ap length (stranded-after log group [] [] one [] kept t) in
    record {
      sent = sent-after log group [] [] one [] t;
      made = made-after log group [] [] one [] t;
      carrying = omega (arith, a, a2);
      acking = omega (arith, b, b2);
      stranded = omega (arith, c, strands);
    }

all-pass : (xs : List ℕ) → filter (lacks []) xs ≡ xs
all-pass [] = refl
all-pass (x ∷ xs) = ap (λ l. x ∷ l) (all-pass xs)

one-kept : (b : Bool) (x : ℕ) (xs : List ℕ) (n : ℕ) → length xs ≤ n → length (cond {A = List ℕ} b (x ∷ xs) xs) ≤ suc n
one-kept true x xs n le = omega (arith, le)
one-kept false x xs n le = omega (arith, le)

fewer-pass : (p : ℕ → Bool) (xs : List ℕ) → length (filter p xs) ≤ length xs
fewer-pass p [] = omega arith
fewer-pass p (x ∷ xs) = let rest = fewer-pass p xs in one-kept (p x) x (filter p xs) (length xs) rest

tick-changes : (log : List Record) → Keeps log → TickChanges log (counts_of log) (counts_of (log ++ tick_group log))
tick-changes log kept =
    let group = tick_group log in
    let t = tick-tells log in
    let aw = awaiting log in
    let lines = data_lines (packet_count log) aw in
    let changes = open-changes log group [] lines kept t (λ g is. absurd (false≢true is)) in
    let size = data-size (packet_count log) aw in
    let a = carrying-data (packet_count log) aw in
    let b = acking-data (packet_count log) aw in
    let c = changes.made in let d = changes.carrying in let e = changes.acking in
    let old : numbers_less aw (acknowledged_lines [] (packet_lines log)) ++ [] ≡ aw =
    append-nil (numbers_less aw (acknowledged_lines [] (packet_lines log)))
    ∙ ap (numbers_less aw) (none-acknowledged 0 0 [] (packet_lines log) (omega arith) kept.made tt) ∙ less-none (λ n. n) aw in
    let none : stranded (log ++ group) ≡ [] =
    stranded-after log group [] lines [] [] kept t
    ∙ ap (filter (lacks (line_frames (lines_less (lines_under_way log) [] ++ lines)))) old
    ∙ none-pass (line_frames (lines_less (lines_under_way log) [] ++ lines)) aw (λ g is.
    frames-both (lines_less (lines_under_way log) []) lines g
    ∙ or_right (has_number (line_frames (lines_less (lines_under_way log) [])) g) (has_number (line_frames lines) g)
    (ap (λ l. has_number l g) (frames-data (packet_count log) aw) ∙ is)) in
    record {
      changes = record {
        sent = changes.sent;
        made = omega (arith, c, size);
        carrying = omega (arith, a, d);
        acking = omega (arith, b, e);
        stranded = changes.stranded;
      };
      none = ap length none;
      within = fewer-pass (λ n. not (has_number (acknowledged log) n)) (frames_sent log);
      all = λ empty. ap length (ap (λ l. filter (lacks (line_frames l)) aw) empty ∙ all-pass aw);
    }

acts-changes : (log : List Record) (index : ℕ) (step : Step) (items : List Record) → Keeps log → AreActed log items
    → Changes (length (frames_sent items)) (length (frames_sent items)) 0 (length (frames_sent items)) 0 0 0 (counts_of log)
    (counts_of (log ++ carried_step_group log index step items))
acts-changes log index step items kept acted =
    let frames = frames_sent items in
    let lines = data_lines (packet_count log) frames in
    let changes = open-changes log (carried_step_group log index step items) frames lines kept (step-tells log index step items acted)
    (λ g is. ap (λ l. has_number l g) (frames-data (packet_count log) frames) ∙ is) in
    let size = data-size (packet_count log) frames in
    let a = carrying-data (packet_count log) frames in
    let b = acking-data (packet_count log) frames in
    let c = changes.made in let d = changes.carrying in let e = changes.acking in
    record {
      sent = changes.sent;
      made = omega (arith, c, size);
      carrying = omega (arith, a, d);
      acking = omega (arith, b, e);
      stranded = changes.stranded;
    }

repeat-changes : (log : List Record) (index place : ℕ) (line : PacketLine) → Keeps log
    → Changes 0 1 0 (one_when (not line.ack)) 0 (one_when line.ack) 0 (counts_of log) (counts_of (log ++ repeat_group log index place line))
repeat-changes log index place line kept =
    let copy = copied_line log line in
    let changes =
    open-changes log (repeat_group log index place line) [] (copy ∷ []) kept (repeat-tells log index place line)
    (λ g is. absurd (false≢true is)) in
    let a = one-carrying copy in
    let b = one-acking copy in
    let d = changes.carrying in let e = changes.acking in
    record {
      sent = changes.sent;
      made = changes.made;
      carrying = omega (arith, a, d);
      acking = omega (arith, b, e);
      stranded = changes.stranded;
    }

arrives-changes : (log : List Record) (line : PacketLine) (items : List Record) → Keeps log → AmongLines line (lines_under_way log)
    → AreActed log items
    → (ack out : Bool) → line.ack ≡ ack
    → ArrivalChanges (length (frames_sent items)) ack out (counts_of log)
    (counts_of (log ++ Arrived line.number ∷ arrival_records log line items ack out))
arrives-changes log line items kept among acted true out is =
    let changes =
    arrival-changes log (Arrived line.number ∷ []) line [] [] kept among (ack-tells log line kept among) (λ g h. absurd (false≢true h))
    (inl is) in
    let d = changes.carrying in let e = changes.acking in
    let x : one_when (not line.ack) ≡ 0 = ap (λ b. one_when (not b)) is in
    let y : one_when line.ack ≡ 1 = ap one_when is in
    record {
      sent = changes.sent;
      made = changes.made;
      carrying = omega (arith, d, x);
      acking = omega (arith, e, y);
      stranded = changes.stranded;
    }
arrives-changes log line items kept among acted false false is =
    let ack = ack_line (packet_count log) line.frame in
    let changes =
    arrival-changes log (Arrived line.number ∷ packet_record ack ∷ []) line [] (ack ∷ []) kept among (again-tells log line kept among)
    (λ g h. absurd (false≢true h))
    (inr (or_left (nat_eq line.frame line.frame) false (eq-eqb line.frame line.frame refl))) in
    let d = changes.carrying in let e = changes.acking in
    let x : one_when (not line.ack) ≡ 1 = ap (λ b. one_when (not b)) is in
    let y : one_when line.ack ≡ 0 = ap one_when is in
    record {
      sent = changes.sent;
      made = changes.made;
      carrying = omega (arith, d, x);
      acking = omega (arith, e, y);
      stranded = changes.stranded;
    }
arrives-changes log line items kept among acted false true is =
    let c = packet_count log in
    let frames = frames_sent items in
    let lines = data_lines c frames in
    let ack = ack_line (c + length frames) line.frame in
    let all = lines ++ ack ∷ [] in
    let changes =
    arrival-changes log (Arrived line.number ∷ arrival_records log line items false true) line frames all kept among
    (first-tells log line items kept among acted)
    (λ g h. frames-both lines (ack ∷ []) g
    ∙ or_left (has_number (line_frames lines) g) (has_number (line.frame ∷ []) g) (ap (λ l. has_number l g) (frames-data c frames) ∙ h))
    (inr (frames-both lines (ack ∷ []) line.frame ∙ or_right (has_number (line_frames lines) line.frame)
    (has_number (line.frame ∷ []) line.frame)
    (or_left (nat_eq line.frame line.frame) false (eq-eqb line.frame line.frame refl)))) in
    let d = changes.carrying in let e = changes.acking in let m = changes.made in
    let x : one_when (not line.ack) ≡ 1 = ap (λ b. one_when (not b)) is in
    let y : one_when line.ack ≡ 0 = ap one_when is in
    let size = length-append lines (ack ∷ []) in
    let size2 = data-size c frames in
    let p = carrying-append lines (ack ∷ []) in
    let p2 = carrying-data c frames in
    let q = acking-append lines (ack ∷ []) in
    let q2 = acking-data c frames in
    record {
      sent = changes.sent;
      made = omega (arith, m, size, size2);
      carrying = omega (arith, d, x, p, p2);
      acking = omega (arith, e, y, q, q2);
      stranded = changes.stranded;
    }

pub move-effect : (log : List Record) (move : CarrierMove) → Keeps log → IsCarrierMove log move
    → IsEffect log move (counts_of log) (counts_of (log ++ group_of log move))
move-effect log (Acts index step items) kept is = acts-changes log index step items kept is.0
move-effect log (Arrives line items) kept is =
    arrives-changes log line items kept (among_from (lines_under_way log) line is.0) is.1 line.ack
    (has_number (outstanding log) line.frame) refl
move-effect log (Loses index place line) kept is = lose-changes log index place line kept (among_from (lines_under_way log) line is)
move-effect log (Repeats index place line) kept is = repeat-changes log index place line kept
move-effect log Ticks kept is = tick-changes log kept
