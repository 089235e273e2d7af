-- All boxes are what the log says, with each record that may come, and what their calls then answer.
-- Cited above: boxes_answer_holds, sent-with
use Rattle.std.proofs.Common.{◌≡◌, ℕ, true, false, not, nat_eq, List, [], ◌∷◌, ◌++◌, Option, None, Some, refl, ap, sym, ◌∙◌, arith, subst, inl, inr, append-nil, append_assoc}
use Rattle.std.specs.Prelude.{◌&&◌, if◌then◌else◌, slice_get, Contains}
use Rattle.std.specs.Option.{IfSome, option_map}
use Rattle.std.proofs.lemmas.Option.{none-some, slice_get-map}
use Rattle.std.proofs.lemmas.Bool.{cases_Bool}
use Rattle.tap_name.specs.Settings.{SettingsValue}
use Rattle.tap_log.specs.declared.record.Record.{Record}
use Rattle.tap_log.specs.declared.record.Record.TheVariants.{Sent, Packet}
use Rattle.tap_log.specs.Kinds.{sent_number, taken_number, arrived_number, ended_number}
use Rattle.tap_log.specs.Counts.{sent_count}
use Rattle.tap_log.specs.Log.{EachFrom}
use Rattle.tap_log.specs.MoreRecords.{at_most_one}
use Rattle.tap_history.specs.Moments.{has_number, outstanding, under_way, awaiting}
use Rattle.tap_carry.specs.Outbox.{awaits_one}
use Rattle.tap_carry.specs.Inbox.{has_arrived}
use Rattle.tap_carry.specs.Net.{NetValue, put_with}
use Rattle.tap_packets.specs.Matching.{Outboxes, OutboxesMatch, Inboxes, InboxesMatch, packet_along, numbered_along, NetMatches, SendsFrom, IsAckedAt, AckArrives, OutboxesAfter, FrameArrives, InboxesAfter, net_less, NetAfter, ChangesAlong}
use Rattle.tap_packets.specs.MayCome.{KeepsPackets, MayCome}
use Rattle.tap_packets.specs.PacketLaws.{BoxesBegin, BoxesKept, BoxesAnswer}
use Rattle.tap_packets.specs.Packets.{PacketLine, made_packet, packet_lines, packets_ended, lines_under_way}
use Rattle.tap_packets.specs.Sequence.{Way, sent_way, frame_ways, way_at, sequence_in}
use Rattle.tap_packets.proofs.BoxesBegin.{outboxes-begin, inboxes-begin, net-begins}
use Rattle.tap_packets.proofs.InboxesMatching.{inboxes-others, inboxes-taken, inbox-answers}
use Rattle.tap_packets.proofs.KeptForms.{among_from, Keeps, keeps_from}
use Rattle.tap_packets.proofs.KeptPackets.{among-filter, line-frame, kept-more}
use Rattle.tap_packets.proofs.MoreUnderWay.{acknowledged_lines, none-acknowledged, acknowledged-one}
use Rattle.tap_packets.proofs.NetMatching.{net-others, net-put, net-taken}
use Rattle.tap_packets.proofs.OutboxesMatching.{outboxes-others, outbox-answers, send-answers, outboxes-sent, outboxes-acked}

-- ---- what single records tell

-- a record that sends a frame tells its number and its way
pub sent-with : (settings : SettingsValue) (item : Record) (way : Way) → sent_way settings item ≡ Some way
    → (number : ℕ) × (sent_number item ≡ Some number)
unfolding sent_way sent_number
sent-with settings (Sent number bytes) way is = (number, refl)
sent-with settings item way is = absurd (none-some way is)

pub sent-none : (settings : SettingsValue) (item : Record) → sent_way settings item ≡ None → sent_number item ≡ None
unfolding sent_way sent_number
sent-none settings (Sent number bytes) is = absurd (none-some _ (sym is))
sent-none settings item is = refl

-- no record sends a frame and has a packet arrive
pub sent-or-arrived : (settings : SettingsValue) (item : Record) (way : Way) (number : ℕ) → sent_way settings item ≡ Some way
    → arrived_number item ≡ Some number → ⊥
unfolding sent_way arrived_number
sent-or-arrived settings (Sent sent bytes) way number s a = none-some number a
sent-or-arrived settings item way number s a = none-some way s

-- and none makes a packet and ends one
made-or-ended : (item : Record) (line : PacketLine) (number : ℕ) → made_packet item ≡ Some line → ended_number item ≡ Some number → ⊥
unfolding made_packet ended_number
made-or-ended (Packet made frame ack) line number m e = none-some number e
made-or-ended item line number m e = none-some line m

-- ---- outboxes

-- with no arrival nothing is acknowledged
pub acked-nothing : (log : List Record) (item : Record) → Keeps log → arrived_number item ≡ None
    → (g : ℕ) → has_number (acknowledged_lines (at_most_one (arrived_number item)) (packet_lines log)) g ≡ false
acked-nothing log item kept a g =
    ap (λ o. has_number (acknowledged_lines (at_most_one o) (packet_lines log)) g) a
    ∙ ap (λ l. has_number l g) (none-acknowledged 0 0 [] (packet_lines log) (omega arith) kept.made tt)

-- an acknowledgement goes to the frame's sender, from its receiver
back : (ws : List Way) (line : PacketLine) (boxes after : Outboxes) → line.ack ≡ true
    → IsAckedAt boxes after (packet_along ws line).to (packet_along ws line).from (packet_along ws line).seq
    → IsAckedAt boxes after (way_at ws line.frame).from (way_at ws line.frame).to (sequence_in ws line.frame)
back ws line boxes after ack acked =
    subst (λ b. IsAckedAt boxes after (if b then (way_at ws line.frame).from else (way_at ws line.frame).to)
    (if b then (way_at ws line.frame).to else (way_at ws line.frame).from) (sequence_in ws line.frame)) ack acked

module _ (settings : SettingsValue) (log : List Record) (item : Record) (boxes after : Outboxes) (kept : Keeps log) (next : MayCome log item)
    (match : OutboxesMatch settings log boxes) where
  abbrev Then : Outboxes → Type 0
  Then = OutboxesMatch settings (log ++ item ∷ [])

  pub arrives-then : (number : ℕ) → sent_way settings item ≡ None → arrived_number item ≡ Some number
      → AckArrives settings log number boxes after → Then after
  arrives-then number w a arrives =
      let line = arrives.line in
      let s = sent-none settings item w in
      let among = among_from (lines_under_way log) line arrives.under_way in
      let there = among-filter (λ (l : PacketLine). not (has_number (packets_ended log) l.number)) line (packet_lines log) among in
      elim (cases_Bool line.ack) [
        | inl ack ↦
            outboxes-acked settings log line item boxes after kept next s w (a ∙ ap Some (sym arrives.is)) among ack match
            (back (frame_ways settings log) line boxes after ack (arrives.acked ack))
        | inr data_packet ↦
            subst Then (sym (arrives.other data_packet))
            (outboxes-others settings log item boxes kept next s w
            (λ g. ap (λ o. has_number (acknowledged_lines (at_most_one o) (packet_lines log)) g) a
            ∙ ap (λ n. has_number (acknowledged_lines (n ∷ []) (packet_lines log)) g) (sym arrives.is)
            ∙ acknowledged-one 0 g line (packet_lines log) kept.made there.0 ∙ ap (λ b. b && nat_eq line.frame g) data_packet) match)
      ]

  pub sends-then : (way : Way) → sent_way settings item ≡ Some way → arrived_number item ≡ None
      → SendsFrom boxes after way.from way.to (sent_count log) → Then after
  sends-then way w a sends =
      let number = sent-with settings item way w in
      let is : number.0 ≡ sent_count log =
      let h : IfSome (Some number.0) (λ n. n ≡ sent_count log) = subst (λ o. IfSome o (λ n. n ≡ sent_count log)) number.1 next.sends in h in
      outboxes-sent settings log way item boxes after kept next (number.1 ∙ ap Some is) w a sends match

  outboxes-then : (w : Option Way) (a : Option ℕ) → sent_way settings item ≡ w → arrived_number item ≡ a
      → IfSome w (λ way. SendsFrom boxes after way.from way.to (sent_count log))
      → IfSome a (λ number. AckArrives settings log number boxes after)
      → (w ≡ None → a ≡ None → after ≡ boxes) → Then after
  outboxes-then (Some way) (Some number) w a sends arrives other = absurd (sent-or-arrived settings item way number w a)
  outboxes-then (Some way) None w a sends arrives other = sends-then way w a sends
  outboxes-then None (Some number) w a sends arrives other = arrives-then number w a arrives
  outboxes-then None None w a sends arrives other =
      subst Then (sym (other refl refl))
      (outboxes-others settings log item boxes kept next (sent-none settings item w) w (acked-nothing log item kept a) match)

  pub outboxes-more : OutboxesAfter settings log item boxes after → Then after
  outboxes-more change =
      outboxes-then (sent_way settings item) (arrived_number item) refl refl change.sends change.arrives change.other

-- ---- inboxes and the net

module _ (settings : SettingsValue) (log : List Record) (item : Record) (kept : Keeps log) (next : MayCome log item) where
  inboxes-then : (boxes after : Inboxes) (t : Option ℕ) → taken_number item ≡ t → InboxesMatch settings log boxes
      → IfSome t (λ frame. FrameArrives (frame_ways settings log) frame boxes after) → (t ≡ None → after ≡ boxes)
      → InboxesMatch settings (log ++ item ∷ []) after
  inboxes-then boxes after (Some frame) t match takes other = inboxes-taken settings log frame item boxes after kept next t takes match
  inboxes-then boxes after None t match takes other =
      subst (InboxesMatch settings (log ++ item ∷ [])) (sym (other refl)) (inboxes-others settings log item boxes kept next t match)

  pub inboxes-more : (boxes after : Inboxes) → InboxesMatch settings log boxes → InboxesAfter settings log item boxes after
      → InboxesMatch settings (log ++ item ∷ []) after
  inboxes-more boxes after match change = inboxes-then boxes after (taken_number item) refl match change.takes change.other

  net-then : (net after : NetValue) (m : Option PacketLine) (e : Option ℕ) → made_packet item ≡ m → ended_number item ≡ e
      → NetMatches settings log net → IfSome m (λ line. after ≡ put_with net (packet_along (frame_ways settings log) line))
      → IfSome e (λ number. after ≡ net_less net number) → (m ≡ None → e ≡ None → after ≡ net)
      → NetMatches settings (log ++ item ∷ []) after
  net-then net after (Some line) (Some number) m e match makes ends other = absurd (made-or-ended item line number m e)
  net-then net after (Some line) None m e match makes ends other =
      subst (NetMatches settings (log ++ item ∷ [])) (sym makes) (net-put settings log item net kept next match line m e)
  net-then net after None (Some number) m e match makes ends other =
      subst (NetMatches settings (log ++ item ∷ [])) (sym ends) (net-taken settings log item net kept next match number m e)
  net-then net after None None m e match makes ends other =
      subst (NetMatches settings (log ++ item ∷ [])) (sym (other refl refl)) (net-others settings log item net kept next match m e)

  pub net-more : (net after : NetValue) → NetMatches settings log net → NetAfter settings log item net after
      → NetMatches settings (log ++ item ∷ []) after
  net-more net after match change =
      net-then net after (made_packet item) (ended_number item) refl refl match change.makes change.ends change.other

-- ---- several records

-- what holds of something after the log, and stays so with each change by a record that may come, holds after all of them
along : {B : Type 0} (Match : List Record → B → Type 0) (Change : List Record → Record → B → B → Type 0)
    → ((log : List Record) (item : Record) (before after : B) → Keeps log → MayCome log item
    → Match log before → Change log item before after → Match (log ++ item ∷ []) after)
    → (log items : List Record) (before after : B) → Keeps log → EachFrom MayCome log items → Match log before
    → ChangesAlong Change log items before after → Match (log ++ items) after
along Match Change more log [] before after kept come match change =
    subst (λ l. Match l after) (sym (append-nil log)) (subst (Match log) (sym change) match)
along Match Change more log (item ∷ items) before after kept come match change =
    subst (λ l. Match l after) (append_assoc log (item ∷ []) items)
    (along Match Change more (log ++ item ∷ []) items change.0 after (kept-more log item kept come.0) come.1
    (more log item before change.0 kept come.0 match change.1) change.2)

boxes_begin_hold : BoxesBegin
boxes_begin_hold = record { outboxes = outboxes-begin; inboxes = inboxes-begin; net = net-begins }

pub boxes_kept_holds : BoxesKept
boxes_kept_holds = record {
  begins = boxes_begin_hold;
  outboxes = λ settings log items before after kept.
      along (OutboxesMatch settings) (OutboxesAfter settings)
      (λ l item b a keeps come match. outboxes-more settings l item b a keeps come match) log items before after (keeps_from log kept);
  inboxes = λ settings log items before after kept.
      along (InboxesMatch settings) (InboxesAfter settings)
      (λ l item b a keeps come. inboxes-more settings l item keeps come b a) log items before after (keeps_from log kept);
  net = λ settings log items before after kept.
      along (NetMatches settings) (NetAfter settings)
      (λ l item b a keeps come. net-more settings l item keeps come b a) log items before after (keeps_from log kept);
}

-- ---- answers

arrived-answers : (settings : SettingsValue) (log : List Record) (boxes : Inboxes) (line : PacketLine) → KeepsPackets log
    → InboxesMatch settings log boxes → Contains (lines_under_way log) line → line.ack ≡ false
    → not (has_arrived (boxes (packet_along (frame_ways settings log) line).to) (packet_along (frame_ways settings log) line).from
    (packet_along (frame_ways settings log) line).seq) ≡ has_number (outstanding log) line.frame
arrived-answers settings log boxes line keeps match under_way data_packet =
    let kept = keeps_from log keeps in
    let ws = frame_ways settings log in
    let way = way_at ws line.frame in
    let among = among_from (lines_under_way log) line under_way in
    ap (λ b. not (has_arrived (boxes (if b then way.from else way.to)) (if b then way.to else way.from) (sequence_in ws line.frame)))
    data_packet
    ∙ inbox-answers settings log line.frame boxes kept (line-frame log line kept among) match

acked-answers : (settings : SettingsValue) (log : List Record) (boxes : Outboxes) (line : PacketLine) → KeepsPackets log
    → OutboxesMatch settings log boxes → Contains (lines_under_way log) line → line.ack ≡ true
    → awaits_one (boxes (packet_along (frame_ways settings log) line).to) (packet_along (frame_ways settings log) line).from
    (packet_along (frame_ways settings log) line).seq ≡ has_number (awaiting log) line.frame
acked-answers settings log boxes line keeps match under_way ack =
    let kept = keeps_from log keeps in
    let ws = frame_ways settings log in
    let way = way_at ws line.frame in
    let among = among_from (lines_under_way log) line under_way in
    ap (λ b. awaits_one (boxes (if b then way.from else way.to)) (if b then way.to else way.from) (sequence_in ws line.frame)) ack
    ∙ outbox-answers settings log line.frame boxes kept (line-frame log line kept among) match

looked-answers : (settings : SettingsValue) (log : List Record) (net : NetValue) (place : ℕ) → NetMatches settings log net
    → slice_get net.packets place ≡ option_map (numbered_along (frame_ways settings log)) (slice_get (lines_under_way log) place)
looked-answers settings log net place match =
    ap (λ l. slice_get l place) match.packets ∙ slice_get-map (numbered_along (frame_ways settings log)) (lines_under_way log) place

pub boxes_answer_holds : BoxesAnswer
boxes_answer_holds = record {
  looked = looked-answers;
  arrived = arrived-answers;
  acked = acked-answers;
  sends = λ settings log boxes item way match goes. send-answers settings log way item boxes goes match;
}
