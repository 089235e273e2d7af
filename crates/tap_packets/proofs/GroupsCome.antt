-- Each record of a carrier's group may come after those before it.
-- Cited above: groups_follow_hold
use Rattle.std.proofs.Common.{◌≡◌, ℕ, ◌+◌, ◌<◌, Bool, true, false, not, nat_eq, List, [], ◌∷◌, ◌++◌, length, map, None, refl, ap, sym, ◌∙◌, arith, subst, inl, inr, length-append, append-nil}
use Rattle.std.specs.Prelude.{◌&&◌, ◌||◌, Contains}
use Rattle.std.proofs.lemmas.Bool.{eq-eqb, cases_Bool, or_left, or_right, false≢true}
use Rattle.std.proofs.lemmas.List.Elements.{filter_map-append}
use Rattle.tap_name.specs.Settings.{SettingsValue}
use Rattle.tap_scenario.specs.declared.step.Step.{Step}
use Rattle.tap_scenario.specs.declared.step.Step.TheVariants.{Lose, Repeat}
use Rattle.tap_log.specs.declared.record.Record.{Record}
use Rattle.tap_log.specs.declared.record.Record.TheVariants.{Step as StepRecord, Taken, Arrived, Ticked}
use Rattle.tap_log.specs.Kinds.{sent_number, taken_number, ended_number}
use Rattle.tap_log.specs.Counts.{sent_count, packet_count}
use Rattle.tap_log.specs.Log.{EachFrom, EachRecord}
use Rattle.tap_log.specs.MoreRecords.{at_most_one}
use Rattle.tap_log.proofs.MoreRecords.{filter_map-same, packet_count-append}
use Rattle.tap_history.specs.Moments.{has_number, numbers_less, outstanding, awaiting}
use Rattle.tap_packets.specs.Groups.{ack_line, data_lines, data_packets, AreActed, carried_step_group, lose_group, copied_line, repeat_group, tick_group, taking_records, arrival_records, CarrierMove, group_of, IsCarrierMove, AreCarrierMoves, log_after}
use Rattle.tap_packets.specs.MayCome.{HasJustArrived, MayBeMade, MayCome}
use Rattle.tap_packets.specs.PacketLaws.{carried_beginning, GroupsFollow}
use Rattle.tap_packets.specs.Packets.{frames_sent, frames_taken, PacketLine, made_packet, packet_record, packet_lines, packets_ended, lines_less, lines_under_way}
use Rattle.tap_packets.proofs.AwaitsFrom.{awaiting-below}
use Rattle.tap_packets.proofs.KeptForms.{same_count, AmongLines, among_from, AcknowledgeOnly, Keeps, keeps_from, from_keeps}
use Rattle.tap_packets.proofs.KeptPackets.{among-filter, line-frame, under_way-is, is-under_way, kept-more, kept-all}
use Rattle.tap_packets.proofs.NumbersInRows.{AreFrom, AreBelow, from_range, has-append, has-from, below-from, has-less}
use Rattle.tap_packets.proofs.RecordsCome.{next-step, next-ticked, next-packet, next-arrived, next-lost, next-taken, sent-of-step, line-of-step, ended-of-step, sent-of-ticked, line-of-ticked, sent-of-arrived, line-of-arrived, taken-of-arrived, sent-of-taken, line-of-taken, taken-of-taken, follow-append, acted-follows, data-follow, count-of-packets, taken-of-packets, data-size}
use Rattle.tap_packets.specs.Groups.CarrierMove.{Acts, Arrives, Loses, Repeats, Ticks}

-- ---- groups

outstanding-same : (log : List Record) (item : Record) → sent_number item ≡ None → taken_number item ≡ None
    → outstanding (log ++ item ∷ []) ≡ outstanding log
outstanding-same log item s t =
    ap (λ l. numbers_less l (frames_taken (log ++ item ∷ []))) (filter_map-same sent_number log item s)
    ∙ ap (numbers_less (frames_sent log)) (filter_map-same taken_number log item t)

under_way-same : (log : List Record) (item : Record) → made_packet item ≡ None → ended_number item ≡ None
    → lines_under_way (log ++ item ∷ []) ≡ lines_under_way log
under_way-same log item m e =
    ap (λ l. lines_less l (packets_ended (log ++ item ∷ []))) (filter_map-same made_packet log item m)
    ∙ ap (lines_less (packet_lines log)) (filter_map-same ended_number log item e)

-- the frames that a node sends are numbered on
pub acted-from : (log items : List Record) → AreActed log items → AreFrom (sent_count log) (frames_sent items)
acted-from log items acted = from_range (sent_count log) (sent_count items) (frames_sent items) acted.sends

-- the frames that a node has sent are below the count after it
acted-below : (log items : List Record) → AreFrom (sent_count log) (frames_sent items)
    → AreBelow (sent_count (log ++ items)) (frames_sent items)
acted-below log items from =
    let size = ap length (filter_map-append sent_number log items) ∙ length-append (frames_sent log) (frames_sent items) in
    below-from (sent_count log) (sent_count (log ++ items)) (frames_sent items) from (omega (arith, size))

acks-among : (frames : List ℕ) (line : PacketLine) (lines : List PacketLine) → AcknowledgeOnly frames lines → AmongLines line lines
    → line.ack ≡ true
    → has_number frames line.frame ≡ true
acks-among frames line [] acks among ack = absurd among
acks-among frames line (other ∷ lines) acks (inl is) ack =
    ap (λ (l : PacketLine). has_number frames l.frame) is ∙ acks.0 (sym (ap (λ (l : PacketLine). l.ack) is) ∙ ack)
acks-among frames line (other ∷ lines) acks (inr later) ack = acks-among frames line lines acks.1 later ack

step-follows : (log : List Record) (index : ℕ) (step : Step) (items : List Record) → AreActed log items
    → EachFrom MayCome log (carried_step_group log index step items)
step-follows log index step items acted =
    let after = log ++ StepRecord index step ∷ [] in
    let size : frames_sent after ≡ frames_sent log = filter_map-same sent_number log (StepRecord index step) (sent-of-step index step) in
    let count : packet_lines after ≡ packet_lines log = filter_map-same made_packet log (StepRecord index step) (line-of-step index step) in
    let sends : AreFrom (sent_count after) (frames_sent items) =
    subst (λ l. AreFrom (length l) (frames_sent items)) (sym size) (acted-from log items acted) in
    let packets : packet_lines (after ++ items) ≡ packet_lines log =
    filter_map-append made_packet after items ∙ ap (λ l. packet_lines after ++ l) acted.makes ∙ append-nil (packet_lines after) ∙ count in (
      next-step log index step,
      follow-append after items (data_packets log (frames_sent items)) (acted-follows after items sends acted.takes acted.makes acted.ends)
          (data-follow (after ++ items) (packet_count log) (frames_sent items) (same_count log (after ++ items) (sym packets))
          (acted-below after items sends)),
    )

tick-follows : (log : List Record) → Keeps log → EachFrom MayCome log (tick_group log)
tick-follows log kept =
    let after = log ++ Ticked ∷ [] in
    let size : frames_sent after ≡ frames_sent log = filter_map-same sent_number log Ticked sent-of-ticked in
    let count : packet_lines after ≡ packet_lines log = filter_map-same made_packet log Ticked line-of-ticked in (
      next-ticked log,
      data-follow after (packet_count log) (awaiting log) (same_count log after (sym count))
          (subst (λ l. AreBelow (length l) (awaiting log)) (sym size) (awaiting-below log kept)),
    )

lose-follows : (log : List Record) (index place : ℕ) (line : PacketLine) → AmongLines line (lines_under_way log)
    → EachFrom MayCome log (lose_group index place line)
lose-follows log index place line among =
    let after = log ++ StepRecord index (Lose place) ∷ [] in (
      next-step log index (Lose place),
      (
        next-lost after line.number
            (is-under_way after line (subst (AmongLines line)
            (sym (under_way-same log (StepRecord index (Lose place)) (line-of-step index (Lose place)) (ended-of-step index (Lose place))))
            among)),
        tt,
      ),
    )

repeat-follows : (log : List Record) (index place : ℕ) (line : PacketLine) → Keeps log → AmongLines line (lines_under_way log)
    → EachFrom MayCome log (repeat_group log index place line)
repeat-follows log index place line kept among =
    let after = log ++ StepRecord index (Repeat place) ∷ [] in
    let size : frames_sent after ≡ frames_sent log =
    filter_map-same sent_number log (StepRecord index (Repeat place)) (sent-of-step index (Repeat place)) in
    let count : packet_lines after ≡ packet_lines log =
    filter_map-same made_packet log (StepRecord index (Repeat place)) (line-of-step index (Repeat place)) in
    let grown = kept-more log (StepRecord index (Repeat place)) kept (next-step log index (Repeat place)) in
    let there = among-filter (λ (l : PacketLine). not (has_number (packets_ended log) l.number)) line (packet_lines log) among in
    let frame = line-frame log line kept among in
    let copy = copied_line log line in
    let made : MayBeMade after copy =
    record {
      number = same_count log after (sym count);
      frame = subst (λ l. line.frame < length l) (sym size) frame;
      taken = λ ack. acks-among (frames_taken after) line (packet_lines after) grown.acks (subst (AmongLines line) (sym count) there.0) ack;
    } in
    (next-step log index (Repeat place), (next-packet after copy made, tt))

arrived-due : (log : List Record) (line : PacketLine) → Contains (lines_under_way log) line → line.ack ≡ false
    → has_number (outstanding log) line.frame ≡ true
    → HasJustArrived (log ++ Arrived line.number ∷ []) line.frame
arrived-due log line among data_packet out =
    record {
      waits = ap (λ l. has_number l line.frame)
          (outstanding-same log (Arrived line.number) (sent-of-arrived line.number) (taken-of-arrived line.number)) ∙ out;
      before = log;
      line = line;
      last = refl;
      under_way = among;
      data_packet = data_packet;
      carries = refl;
    }

first-follows : (log : List Record) (line : PacketLine) (items : List Record) → Keeps log → Contains (lines_under_way log) line
    → AreActed log items
    → line.ack ≡ false → has_number (outstanding log) line.frame ≡ true
    → EachFrom MayCome (log ++ Arrived line.number ∷ []) (taking_records log line items)
first-follows log line items kept there acted data_packet out =
    let among = among_from (lines_under_way log) line there in
    let n = line.number in
    let f = line.frame in
    let one_more = log ++ Arrived n ∷ [] in
    let after = one_more ++ Taken f ∷ [] in
    let frames = frames_sent items in
    let lines = data_lines (packet_count log) frames in
    let ack = ack_line (packet_count log + length frames) f in
    let size : frames_sent after ≡ frames_sent log =
    filter_map-same sent_number one_more (Taken f) (sent-of-taken f) ∙ filter_map-same sent_number log (Arrived n) (sent-of-arrived n) in
    let count : packet_lines after ≡ packet_lines log =
    filter_map-same made_packet one_more (Taken f) (line-of-taken f) ∙ filter_map-same made_packet log (Arrived n) (line-of-arrived n) in
    let took : frames_taken after ≡ frames_taken log ++ f ∷ [] =
    filter_map-append taken_number one_more (Taken f ∷ []) ∙ ap (λ o. frames_taken one_more ++ at_most_one o) (taken-of-taken f)
    ∙ ap (λ l. l ++ f ∷ []) (filter_map-same taken_number log (Arrived n) (taken-of-arrived n)) in
    let sends : AreFrom (sent_count after) frames = subst (λ l. AreFrom (length l) frames) (sym size) (acted-from log items acted) in
    let acting = after ++ items in
    let packets : packet_lines acting ≡ packet_lines log =
    filter_map-append made_packet after items ∙ ap (λ l. packet_lines after ++ l) acted.makes ∙ append-nil (packet_lines after) ∙ count in
    let whole = acting ++ map packet_record lines in
    let counted : packet_count whole ≡ packet_count log + length frames =
    packet_count-append acting (map packet_record lines)
    ∙ ap (λ k. k + packet_count (map packet_record lines)) (same_count acting log packets)
    ∙ ap (λ k. packet_count log + k) (count-of-packets lines ∙ data-size (packet_count log) frames) in
    let known : has_number (frames_taken whole) f ≡ true =
    ap (λ l. has_number l f) (filter_map-append taken_number acting (map packet_record lines)
    ∙ ap (λ l. frames_taken acting ++ l) (taken-of-packets lines) ∙ append-nil (frames_taken acting)
    ∙ filter_map-append taken_number after items ∙ ap (λ l. frames_taken after ++ l) acted.takes ∙ append-nil (frames_taken after) ∙ took)
    ∙ has-append (frames_taken log) (f ∷ []) f
    ∙ or_right (has_number (frames_taken log) f) (nat_eq f f || false) (or_left (nat_eq f f) false (eq-eqb f f refl)) in
    let sizes =
    ap length (filter_map-append sent_number acting (map packet_record lines))
    ∙ length-append (frames_sent acting) (frames_sent (map packet_record lines)) in
    let sizes2 = ap length (filter_map-append sent_number after items) ∙ length-append (frames_sent after) frames in
    let sizes3 = ap length size in
    let low = line-frame log line kept among in
    let made : MayBeMade whole ack =
    record { number = sym counted; frame = omega (arith, sizes, sizes2, sizes3, low); taken = λ h. known } in (
      next-taken one_more f (arrived-due log line there data_packet out),
      follow-append after items (map packet_record lines ++ packet_record ack ∷ [])
          (acted-follows after items sends acted.takes acted.makes acted.ends)
          (follow-append acting (map packet_record lines) (packet_record ack ∷ [])
          (data-follow acting (packet_count log) frames (same_count log acting (sym packets)) (acted-below after items sends))
          (next-packet whole ack made, tt)),
    )

-- a frame that was sent and is not outstanding was taken
pub sent-taken : (log : List Record) (frame : ℕ) → Keeps log → frame < sent_count log → has_number (outstanding log) frame ≡ false
    → has_number (frames_taken log) frame ≡ true
sent-taken log frame kept low out =
    let was =
    has-less (frames_sent log) (frames_taken log) frame ∙ ap (λ b. b && not (has_number (frames_taken log) frame))
    (has-from 0 frame (frames_sent log) kept.numbered (omega arith) (omega arith)) in
    elim (cases_Bool (has_number (frames_taken log) frame)) [
      | inl is ↦ is
      | inr isnt ↦ absurd (false≢true (sym out ∙ was ∙ ap not isnt))
    ]

again-follows : (log : List Record) (line : PacketLine) → Keeps log → AmongLines line (lines_under_way log)
    → has_number (outstanding log) line.frame ≡ false
    → EachFrom MayCome (log ++ Arrived line.number ∷ []) (packet_record (ack_line (packet_count log) line.frame) ∷ [])
again-follows log line kept among out =
    let n = line.number in
    let f = line.frame in
    let after = log ++ Arrived n ∷ [] in
    let size : frames_sent after ≡ frames_sent log = filter_map-same sent_number log (Arrived n) (sent-of-arrived n) in
    let count : packet_lines after ≡ packet_lines log = filter_map-same made_packet log (Arrived n) (line-of-arrived n) in
    let took : frames_taken after ≡ frames_taken log = filter_map-same taken_number log (Arrived n) (taken-of-arrived n) in
    let low = line-frame log line kept among in
    let made : MayBeMade after (ack_line (packet_count log) f) =
    record {
      number = same_count log after (sym count);
      frame = subst (λ l. f < length l) (sym size) low;
      taken = λ h. ap (λ l. has_number l f) took ∙ sent-taken log f kept low out;
    } in
    (next-packet after (ack_line (packet_count log) f) made, tt)

arrival-follows : (log : List Record) (line : PacketLine) (items : List Record) → Keeps log → Contains (lines_under_way log) line
    → AreActed log items
    → (ack out : Bool) → line.ack ≡ ack → has_number (outstanding log) line.frame ≡ out
    → EachFrom MayCome (log ++ Arrived line.number ∷ []) (arrival_records log line items ack out)
arrival-follows log line items kept among acted true out is outs = tt
arrival-follows log line items kept among acted false true is outs = first-follows log line items kept among acted is outs
arrival-follows log line items kept among acted false false is outs =
    again-follows log line kept (among_from (lines_under_way log) line among) outs

pub move-follows : (log : List Record) (move : CarrierMove) → Keeps log → IsCarrierMove log move → EachFrom MayCome log (group_of log move)
move-follows log (Acts index step items) kept is = step-follows log index step items is.0
move-follows log (Arrives line items) kept is = (
  next-arrived log line.number (is-under_way log line (among_from (lines_under_way log) line is.0)),
  arrival-follows log line items kept is.0 is.1 line.ack (has_number (outstanding log) line.frame) refl refl,
)
move-follows log (Loses index place line) kept is = lose-follows log index place line (among_from (lines_under_way log) line is)
move-follows log (Repeats index place line) kept is = repeat-follows log index place line kept (among_from (lines_under_way log) line is)
move-follows log Ticks kept is = tick-follows log kept

moves-follow-kept : (log : List Record) (moves : List CarrierMove) → Keeps log → EachRecord MayCome log → AreCarrierMoves log moves
    → EachRecord MayCome (log_after log moves)
moves-follow-kept log [] kept follow are = follow
moves-follow-kept log (move ∷ moves) kept follow are =
    let group = group_of log move in
    let next = move-follows log move kept are.0 in
    moves-follow-kept (log ++ group) moves (kept-all log group kept next) (follow-append [] log group follow next) are.1

-- ---- from the beginning on

keeps-none : Keeps []
keeps-none = record { numbered = tt; made = tt; ended = tt; frames = tt; taken = tt; once = tt; acks = tt }

pub keeps-all : (log : List Record) → EachRecord MayCome log → Keeps log
keeps-all log come = kept-all [] log keeps-none come

pub moves-follow : (log : List Record) (moves : List CarrierMove) → EachRecord MayCome log → AreCarrierMoves log moves
    → EachRecord MayCome (log_after log moves)
moves-follow log moves come are = moves-follow-kept log moves (keeps-all log come) come are

pub beginning-comes : (settings : SettingsValue) (frames : ℕ) (members : List (List ℕ))
    → EachRecord MayCome (carried_beginning settings frames members)
unfolding sent_number taken_number made_packet ended_number
beginning-comes settings frames members =
    (record { sends = tt; takes = tt; makes = tt; ends = tt }, (record { sends = tt; takes = tt; makes = tt; ends = tt }, tt))

pub groups_follow_hold : GroupsFollow
groups_follow_hold = record {
  beginning = beginning-comes;
  moves = λ log move kept. move-follows log move (keeps_from log kept);
  all = moves-follow;
  more = λ log items kept come. from_keeps (log ++ items) (kept-all log items (keeps_from log kept) come);
  kept = λ log come. from_keeps log (keeps-all log come);
  under_way = under_way-is;
}
