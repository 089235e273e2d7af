-- Outboxes keep what awaits: kept by each record.
use Rattle.std.proofs.Common.{◌≡◌, ℕ, ◌+◌, ◌<◌, ◌≤◌, true, false, not, nat_eq, List, [], ◌∷◌, ◌++◌, length, take, Option, None, Some, ap, sym, ◌∙◌, arith, subst, inl, inr, length-append, append-nil}
use Rattle.std.specs.Prelude.{◌&&◌, if◌then◌else◌}
use Rattle.std.specs.List.{list_any}
use Rattle.std.proofs.lemmas.Bool.{cases_Bool, cases_eq, false≢true}
use Rattle.std.proofs.lemmas.List.{get_or_push, take_at}
use Rattle.std.proofs.lemmas.List.Elements.{filter_map-append, filter_agree}
use Rattle.tap_name.specs.Settings.{SettingsValue}
use Rattle.tap_log.specs.declared.record.Record.{Record}
use Rattle.tap_log.specs.Kinds.{sent_number, arrived_number}
use Rattle.tap_log.specs.Counts.{sent_count}
use Rattle.tap_log.specs.MoreRecords.{at_most_one}
use Rattle.tap_log.proofs.MoreRecords.{filter_map-push, filter_map-same}
use Rattle.tap_history.specs.Moments.{has_number, numbers_less, awaiting}
use Rattle.tap_carry.specs.Names.{is_name}
use Rattle.tap_carry.specs.Outbox.{OutboxValue, last_to, is_await, awaits_one, await_with, awaits_less}
use Rattle.tap_packets.specs.MayCome.{MayCome}
use Rattle.tap_packets.specs.Matching.{Outboxes, is_from, await_of, awaits_from, OutboxesMatch, SendsFrom, IsAckedAt}
use Rattle.tap_packets.specs.Packets.{frames_sent, PacketLine, packet_lines, packets_ended, lines_under_way}
use Rattle.tap_packets.specs.Sequence.{Way, way_between, sent_way, frame_ways, way_count, no_way, way_at, sequence_in}
use Rattle.tap_packets.proofs.AwaitsFrom.{below-filter, awaiting-below, count-append, less-nothing, awaits-none, awaits-own, others_than, awaits-acked, awaits-elsewhere, awaits-has}
use Rattle.tap_packets.proofs.ClockTurns.{stays}
use Rattle.tap_packets.proofs.KeptForms.{AmongLines, Keeps}
use Rattle.tap_packets.proofs.KeptPackets.{among-filter, line-frame, single-on}
use Rattle.tap_packets.proofs.MoreUnderWay.{acknowledged_lines, none-acknowledged, above, acknowledged-one, awaiting-group}
use Rattle.tap_packets.proofs.NumbersInRows.{AreBelow, less-none}
use Rattle.tap_packets.proofs.SameWays.{name_is, name_itself}
use Rattle.tap_packets.proofs.StableWays.{ways-size, way-stays, awaits-append, awaits-stay}

-- ---- what outboxes are to keep after a record

awaits-lines : (settings : SettingsValue) (log : List Record) (item : Record) (name : List ℕ) → Keeps log → MayCome log item
    → awaits_from (frame_ways settings (log ++ item ∷ [])) (awaiting (log ++ item ∷ [])) name
    ≡ awaits_from (frame_ways settings log)
    (numbers_less (awaiting log) (acknowledged_lines (at_most_one (arrived_number item)) (packet_lines log))) name
    ++ awaits_from (frame_ways settings log ++ at_most_one (sent_way settings item)) (at_most_one (sent_number item)) name
awaits-lines settings log item name kept next =
    let ws = frame_ways settings log in
    let more = at_most_one (sent_way settings item) in
    let left = numbers_less (awaiting log) (acknowledged_lines (at_most_one (arrived_number item)) (packet_lines log)) in
    ap (λ w. awaits_from w (awaiting (log ++ item ∷ [])) name) (filter_map-append (sent_way settings) log (item ∷ []))
    ∙ ap (λ l. awaits_from (ws ++ more) l name) (awaiting-group log (item ∷ []) kept (single-on log item kept next))
    ∙ awaits-append (ws ++ more) name left (at_most_one (sent_number item))
    ∙ ap (λ l. l ++ awaits_from (ws ++ more) (at_most_one (sent_number item)) name)
    (awaits-stay ws more name left (subst (λ n. AreBelow n left) (sym (ways-size settings log))
    (below-filter (sent_count log) (λ n. not (has_number (acknowledged_lines (at_most_one (arrived_number item)) (packet_lines log)) n))
    (awaiting log) (awaiting-below log kept))))

last-lines : (settings : SettingsValue) (log : List Record) (item : Record) (way : Way)
    → way_count (frame_ways settings (log ++ item ∷ [])) way
    ≡ way_count (frame_ways settings log) way + way_count (at_most_one (sent_way settings item)) way
last-lines settings log item way =
    ap (λ w. way_count w way) (filter_map-append (sent_way settings) log (item ∷ []))
    ∙ count-append (frame_ways settings log) (at_most_one (sent_way settings item)) way

-- the ways of frames that were sent stay
ways-with : (settings : SettingsValue) (log : List Record) (item : Record) (o : Option Way) → sent_way settings item ≡ o
    → frame_ways settings (log ++ item ∷ []) ≡ frame_ways settings log ++ at_most_one o
ways-with settings log item o is = filter_map-push (sent_way settings) log item ∙ ap (λ l. frame_ways settings log ++ at_most_one l) is

from-stays : (ws more : List Way) (name : List ℕ) (frame : ℕ) → frame < length ws → is_from (ws ++ more) name frame ≡ is_from ws name frame
from-stays ws more name frame low = ap (λ (w : Way). is_name w.from name) (way-stays ws more frame low)

sent-same : (log : List Record) (item : Record) → sent_number item ≡ None → sent_count (log ++ item ∷ []) ≡ sent_count log
sent-same log item none = ap length (filter_map-same sent_number log item none)

sent-more : (log : List Record) (item : Record) (n : ℕ) → sent_number item ≡ Some n → sent_count (log ++ item ∷ []) ≡ sent_count log + 1
sent-more log item n is =
    ap length (filter_map-push sent_number log item ∙ ap (λ o. frames_sent log ++ at_most_one o) is)
    ∙ length-append (frames_sent log) (n ∷ [])

-- the frames of a name after a record that sends none
quiet-above : (settings : SettingsValue) (log : List Record) (item : Record) (box : OutboxValue) (name : List ℕ) → sent_number item ≡ None
    → sent_way settings item ≡ None
    → ((frame : ℕ) → frame < sent_count log → is_from (frame_ways settings log) name frame ≡ true → frame < box.next)
    → (frame : ℕ) → frame < sent_count (log ++ item ∷ []) → is_from (frame_ways settings (log ++ item ∷ [])) name frame ≡ true
    → frame < box.next
quiet-above settings log item box name none no_way above frame low own =
    let size = sent-same log item none in
    let same : frame_ways settings (log ++ item ∷ []) ≡ frame_ways settings log =
    ways-with settings log item None no_way ∙ append-nil (frame_ways settings log) in
    above frame (omega (arith, low, size)) (ap (λ w. is_from w name frame) (sym same) ∙ own)

-- Nothing is sent, and what arrives acknowledges nothing.
pub outboxes-others : (settings : SettingsValue) (log : List Record) (item : Record) (boxes : Outboxes) → Keeps log → MayCome log item
    → sent_number item ≡ None → sent_way settings item ≡ None
    → ((g : ℕ) → has_number (acknowledged_lines (at_most_one (arrived_number item)) (packet_lines log)) g ≡ false)
    → OutboxesMatch settings log boxes → OutboxesMatch settings (log ++ item ∷ []) boxes
outboxes-others settings log item boxes kept next none no_way nothing match =
    let ws = frame_ways settings log in
    let acked = acknowledged_lines (at_most_one (arrived_number item)) (packet_lines log) in
    let size = sent-same log item none in
    record {
      awaits = λ name. match.awaits name ∙ sym (awaits-lines settings log item name kept next
          ∙ ap (λ o. awaits_from ws (numbers_less (awaiting log) acked) name ++ awaits_from (ws ++ at_most_one (sent_way settings item))
          (at_most_one o) name) none
          ∙ append-nil (awaits_from ws (numbers_less (awaiting log) acked) name)
          ∙ ap (λ l. awaits_from ws l name) (less-nothing (awaiting log) acked nothing));
      last = λ name to.
          let way = way_between name to in
          let grown = last-lines settings log item way in
          let was = match.last name to in
          let zero_more : way_count (at_most_one (sent_way settings item)) way ≡ 0 = ap (λ o. way_count (at_most_one o) way) no_way in
          omega (arith, grown, was, zero_more);
      above = λ name. quiet-above settings log item (boxes name) name none no_way (match.above name);
      most = λ name. let was = match.most name in omega (arith, was, size);
    }

-- ---- a frame is sent

module _ (settings : SettingsValue) (log : List Record) (way : Way) (item : Record) (boxes after : Outboxes) (kept : Keeps log)
    (next : MayCome log item) (sent : sent_number item ≡ Some (sent_count log)) (goes : sent_way settings item ≡ Some way)
    (none : arrived_number item ≡ None) (sends : SendsFrom boxes after way.from way.to (sent_count log))
    (match : OutboxesMatch settings log boxes) where
  abbrev ws : List Way
  ws = frame_ways settings log

  abbrev n : ℕ
  n = sent_count log

  abbrev grown : List Way
  grown = ws ++ way ∷ []

  abbrev all : List Record
  all = log ++ item ∷ []

  at : way_at grown n ≡ way
  at = get_or_push ws way no_way n (ways-size settings log)

  number : sequence_in grown n ≡ way_count ws way + 1
  number =
      ap (λ l. way_count l (way_at grown n) + 1) (take_at ws (way ∷ []) n (ways-size settings log)) ∙ ap (λ w. way_count ws w + 1) at

  lines : (name : List ℕ) → awaits_from (frame_ways settings all) (awaiting all) name
      ≡ awaits_from ws (awaiting log) name ++ awaits_from grown (n ∷ []) name
  lines name =
      let more = at_most_one (sent_number item) in
      let now = λ (w : List Way). awaits_from w more name in
      let arrived = at_most_one (arrived_number item) in
      awaits-lines settings log item name kept next
      ∙ ap (λ o. awaits_from ws (numbers_less (awaiting log) (acknowledged_lines (at_most_one o) (packet_lines log))) name
      ++ now (ws ++ at_most_one (sent_way settings item))) none
      ∙ ap (λ l. awaits_from ws (numbers_less (awaiting log) l) name ++ now (ws ++ at_most_one (sent_way settings item)))
      (none-acknowledged 0 0 [] (packet_lines log) (omega arith) kept.made tt)
      ∙ ap (λ l. awaits_from ws l name ++ now (ws ++ at_most_one (sent_way settings item))) (less-none (λ k. k) (awaiting log))
      ∙ ap (λ o. awaits_from ws (awaiting log) name ++ now (ws ++ at_most_one o)) goes
      ∙ ap (λ o. awaits_from ws (awaiting log) name ++ awaits_from grown (at_most_one o) name) sent

  -- the box of another name
  elsewhere : (name : List ℕ) → is_name way.from name ≡ false → after name ≡ boxes name
  elsewhere name apart = elim (sends.others name) [
    | inl same ↦ absurd (false≢true (sym apart ∙ ap (is_name way.from) same ∙ name_itself way.from))
    | inr stays ↦ stays
  ]

  sent-awaits : (name : List ℕ) → (after name).awaits ≡ awaits_from (frame_ways settings all) (awaiting all) name
  sent-awaits name = elim (cases_Bool (is_name way.from name)) [
    | inl here ↦
        let same : way.from ≡ name = name_is way.from name here in
        let own : is_from grown name n ≡ true = ap (λ (w : Way). is_name w.from name) at ∙ here in
        let seq : last_to (boxes way.from) way.to + 1 ≡ sequence_in grown n = ap (λ k. k + 1) (match.last way.from way.to) ∙ sym number in
        ap (λ x. (after x).awaits) (sym same)
        ∙ sends.here.awaits
        ∙ ap (λ l. l ++ await_with way.to (last_to (boxes way.from) way.to + 1) n ∷ []) (match.awaits way.from)
        ∙ ap (λ k. awaits_from ws (awaiting log) way.from ++ await_with way.to k n ∷ []) seq
        ∙ ap (λ (w : Way). awaits_from ws (awaiting log) way.from ++ await_with w.to (sequence_in grown n) n ∷ []) (sym at)
        ∙ ap (λ x. awaits_from ws (awaiting log) x ++ await_of grown n ∷ []) same
        ∙ ap (λ l. awaits_from ws (awaiting log) name ++ l) (sym (awaits-own grown name n own))
        ∙ sym (lines name)
    | inr apart ↦
        let other : is_from grown name n ≡ false = ap (λ (w : Way). is_name w.from name) at ∙ apart in
        ap (λ (o : OutboxValue). o.awaits) (elsewhere name apart) ∙ match.awaits name
        ∙ sym (append-nil (awaits_from ws (awaiting log) name))
        ∙ ap (λ l. awaits_from ws (awaiting log) name ++ l) (sym (awaits-none grown name n other))
        ∙ sym (lines name)
  ]

  sent-last : (name to : List ℕ) → last_to (after name) to ≡ way_count (frame_ways settings all) (way_between name to)
  sent-last name to =
      let goal = way_between name to in
      let more : way_count (frame_ways settings all) goal ≡ way_count ws goal + way_count (way ∷ []) goal =
      last-lines settings log item goal ∙ ap (λ o. way_count ws goal + way_count (at_most_one o) goal) goes in
      let was = match.last name to in
      elim (cases_Bool (is_name way.from name)) [
        | inr apart ↦
            let none_more : way_count (way ∷ []) goal ≡ 0 = ap (λ b. (if b && is_name way.to to then 1 else 0) + 0) apart in
            let stays : last_to (after name) to ≡ last_to (boxes name) to = ap (λ (o : OutboxValue). last_to o to) (elsewhere name apart) in
            omega (arith, was, more, none_more, stays)
        | inl here ↦
            let same : way.from ≡ name = name_is way.from name here in
            let test = is_name way.to to in
            let counted : way_count (way ∷ []) goal ≡ (if test then 1 else 0) + 0 = ap (λ b. (if b && test then 1 else 0) + 0) here in
            let now : last_to (after name) to ≡ (if test then last_to (boxes way.from) way.to + 1 else last_to (boxes way.from) to) =
            ap (λ x. last_to (after x) to) (sym same) ∙ sends.here.last to in
            elim (cases_Bool test) [
              | inl is ↦
                  let one_more : way_count (way ∷ []) goal ≡ 1 = counted ∙ ap (λ b. (if b then 1 else 0) + 0) is in
                  let raised : last_to (after name) to ≡ last_to (boxes name) to + 1 =
                  now ∙ ap (λ b. if b then last_to (boxes way.from) way.to + 1 else last_to (boxes way.from) to) is
                  ∙ ap (λ x. last_to (boxes x) way.to + 1) same ∙ ap (λ x. last_to (boxes name) x + 1) (name_is way.to to is) in
                  omega (arith, raised, was, more, one_more)
              | inr isnt ↦
                  let none_more : way_count (way ∷ []) goal ≡ 0 = counted ∙ ap (λ b. (if b then 1 else 0) + 0) isnt in
                  let stays : last_to (after name) to ≡ last_to (boxes name) to =
                  now ∙ ap (λ b. if b then last_to (boxes way.from) way.to + 1 else last_to (boxes way.from) to) isnt
                  ∙ ap (λ x. last_to (boxes x) to) same in
                  omega (arith, stays, was, more, none_more)
            ]
      ]

  sent-next : (name : List ℕ) → is_name way.from name ≡ true → (after name).next ≡ n + 1
  sent-next name here = ap (λ x. (after x).next) (sym (name_is way.from name here)) ∙ sends.here.next

  sent-above : (name : List ℕ) (frame : ℕ) → frame < sent_count all → is_from (frame_ways settings all) name frame ≡ true
      → frame < (after name).next
  sent-above name frame low own =
      let size = sent-more log item n sent in
      let mine : is_from grown name frame ≡ true =
      ap (λ w. is_from w name frame) (sym (ways-with settings log item (Some way) goes)) ∙ own in
      elim (cases_Bool (is_name way.from name)) [
        | inl here ↦ let is = sent-next name here in omega (arith, low, size, is)
        | inr apart ↦
            elim (cases_eq frame n) [
              | inl last ↦
                  absurd (false≢true (sym apart ∙ sym (ap (λ (w : Way). is_name w.from name) at)
                  ∙ ap (is_from grown name) (sym last) ∙ mine))
              | inr earlier ↦
                  let less : frame < n = omega (arith, low, size, earlier) in
                  let long : frame < length ws = let s = ways-size settings log in omega (arith, s, less) in
                  let was = match.above name frame less (sym (from-stays ws (way ∷ []) name frame long) ∙ mine) in
                  let same = ap (λ (o : OutboxValue). o.next) (elsewhere name apart) in
                  omega (arith, was, same)
            ]
      ]

  sent-most : (name : List ℕ) → (after name).next ≤ sent_count all
  sent-most name =
      let size = sent-more log item n sent in
      elim (cases_Bool (is_name way.from name)) [
        | inl here ↦ let is = sent-next name here in omega (arith, size, is)
        | inr apart ↦
            let was = match.most name in
            let same = ap (λ (o : OutboxValue). o.next) (elsewhere name apart) in
            omega (arith, size, was, same)
      ]

  pub outboxes-sent : OutboxesMatch settings all after
  outboxes-sent = record { awaits = sent-awaits; last = sent-last; above = sent-above; most = sent-most }

-- ---- an acknowledgement arrives

-- what awaits without the frame that this packet acknowledges
pub one-less : (log : List Record) (line : PacketLine) → Keeps log → AmongLines line (lines_under_way log) → line.ack ≡ true
    → numbers_less (awaiting log) (acknowledged_lines (line.number ∷ []) (packet_lines log)) ≡ others_than line.frame (awaiting log)
one-less log line kept among ack =
    let there = among-filter (λ (l : PacketLine). not (has_number (packets_ended log) l.number)) line (packet_lines log) among in
    filter_agree (λ g. not (has_number (acknowledged_lines (line.number ∷ []) (packet_lines log)) g)) (λ g. not (nat_eq line.frame g))
    (λ g. ap not (acknowledged-one 0 g line (packet_lines log) kept.made there.0 ∙ ap (λ b. b && nat_eq line.frame g) ack)) (awaiting log)

-- the frame's acknowledgement arrives at its sender
module _ (settings : SettingsValue) (log : List Record) (line : PacketLine) (item : Record) (boxes after : Outboxes) (kept : Keeps log)
    (next : MayCome log item) (none : sent_number item ≡ None) (no_way : sent_way settings item ≡ None)
    (arrives : arrived_number item ≡ Some line.number) (among : AmongLines line (lines_under_way log)) (ack : line.ack ≡ true)
    (match : OutboxesMatch settings log boxes) where
  abbrev acked_ways : List Way
  acked_ways = frame_ways settings log

  abbrev sender : List ℕ
  sender = (way_at acked_ways line.frame).from

  abbrev receiver : List ℕ
  receiver = (way_at acked_ways line.frame).to

  abbrev seq : ℕ
  seq = sequence_in acked_ways line.frame

  acked-lines : (name : List ℕ) → awaits_from (frame_ways settings (log ++ item ∷ [])) (awaiting (log ++ item ∷ [])) name
      ≡ awaits_from acked_ways (others_than line.frame (awaiting log)) name
  acked-lines name =
      let left =
      λ (o : Option ℕ). awaits_from acked_ways (numbers_less (awaiting log) (acknowledged_lines (at_most_one o) (packet_lines log))) name in
      awaits-lines settings log item name kept next
      ∙ ap (λ o. left (arrived_number item) ++ awaits_from (acked_ways ++ at_most_one (sent_way settings item)) (at_most_one o) name) none
      ∙ append-nil (left (arrived_number item))
      ∙ ap left arrives
      ∙ ap (λ l. awaits_from acked_ways l name) (one-less log line kept among ack)

  acked-awaits : IsAckedAt boxes after sender receiver seq → (name : List ℕ)
      → (after name).awaits ≡ awaits_from (frame_ways settings (log ++ item ∷ [])) (awaiting (log ++ item ∷ [])) name
  acked-awaits acked name =
      let size = ways-size settings log in
      let low : line.frame < length acked_ways = let l = line-frame log line kept among in omega (arith, size, l) in
      let below : AreBelow (length acked_ways) (awaiting log) =
      subst (λ k. AreBelow k (awaiting log)) (sym size) (awaiting-below log kept) in
      elim (cases_Bool (is_name sender name)) [
        | inl here ↦
            let same : sender ≡ name = name_is sender name here in
            ap (λ x. (after x).awaits) (sym same)
            ∙ ap (λ (o : OutboxValue). o.awaits) acked.here
            ∙ ap (λ l. awaits_less l receiver seq) (match.awaits sender)
            ∙ sym (awaits-acked acked_ways line.frame (awaiting log) low below)
            ∙ ap (awaits_from acked_ways (others_than line.frame (awaiting log))) same
            ∙ sym (acked-lines name)
        | inr apart ↦
            elim (acked.others name) [
              | inl same ↦ absurd (false≢true (sym apart ∙ ap (is_name sender) same ∙ name_itself sender))
              | inr stays ↦
                  ap (λ (o : OutboxValue). o.awaits) stays ∙ match.awaits name
                  ∙ sym (awaits-elsewhere acked_ways line.frame name (awaiting log) apart) ∙ sym (acked-lines name)
            ]
      ]

  acked-last : IsAckedAt boxes after sender receiver seq → (name to : List ℕ) → last_to (after name) to ≡ last_to (boxes name) to
  acked-last acked name to = elim (acked.others name) [
    | inl same ↦
        ap (λ x. last_to (after x) to) same ∙ ap (λ (o : OutboxValue). last_to o to) acked.here ∙ ap (λ x. last_to (boxes x) to) (sym same)
    | inr stays ↦ ap (λ (o : OutboxValue). last_to o to) stays
  ]

  acked-next : IsAckedAt boxes after sender receiver seq → (name : List ℕ) → (after name).next ≡ (boxes name).next
  acked-next acked name = elim (acked.others name) [
    | inl same ↦ ap (λ x. (after x).next) same ∙ ap (λ (o : OutboxValue). o.next) acked.here ∙ ap (λ x. (boxes x).next) (sym same)
    | inr stays ↦ ap (λ (o : OutboxValue). o.next) stays
  ]

  pub outboxes-acked : IsAckedAt boxes after sender receiver seq → OutboxesMatch settings (log ++ item ∷ []) after
  outboxes-acked acked =
      let size = sent-same log item none in
      record {
        awaits = acked-awaits acked;
        last = λ name to.
            let way = way_between name to in
            let grown = last-lines settings log item way in
            let was = match.last name to in
            let zero_more : way_count (at_most_one (sent_way settings item)) way ≡ 0 = ap (λ o. way_count (at_most_one o) way) no_way in
            let stays = acked-last acked name to in
            omega (arith, grown, was, zero_more, stays);
        above = λ name.
            quiet-above settings log item (after name) name none no_way
            (λ frame low own. let was = match.above name frame low own in let same = acked-next acked name in omega (arith, was, same));
        most = λ name. let was = match.most name in let same = acked-next acked name in omega (arith, was, size, same);
      }

-- the sender's outbox answers true exactly if the frame awaits
pub outbox-answers : (settings : SettingsValue) (log : List Record) (f : ℕ) (boxes : Outboxes) → Keeps log → f < sent_count log
    → OutboxesMatch settings log boxes
    → awaits_one (boxes (way_at (frame_ways settings log) f).from) (way_at (frame_ways settings log) f).to
    (sequence_in (frame_ways settings log) f) ≡ has_number (awaiting log) f
outbox-answers settings log f boxes kept low match =
    let ws = frame_ways settings log in
    let size = ways-size settings log in
    ap (list_any (is_await (way_at ws f).to (sequence_in ws f))) (match.awaits (way_at ws f).from)
    ∙ awaits-has ws f (awaiting log) (omega (arith, size, low))
    (subst (λ n. AreBelow n (awaiting log)) (sym size) (awaiting-below log kept))

-- a frame is sent with the number that it then has
pub send-answers : (settings : SettingsValue) (log : List Record) (way : Way) (item : Record) (boxes : Outboxes)
    → sent_way settings item ≡ Some way → OutboxesMatch settings log boxes
    → last_to (boxes way.from) way.to + 1 ≡ sequence_in (frame_ways settings (log ++ item ∷ [])) (sent_count log)
send-answers settings log way item boxes goes match =
    let ws = frame_ways settings log in
    let n = sent_count log in
    let size = ways-size settings log in
    let all : (frame_ways settings) (log ++ item ∷ []) ≡ ws ++ way ∷ [] =
    filter_map-append (sent_way settings) log (item ∷ []) ∙ ap (λ o. ws ++ at_most_one o) goes in
    let at : way_at (ws ++ way ∷ []) n ≡ way = get_or_push ws way no_way n size in
    let before : take n (ws ++ way ∷ []) ≡ ws = take_at ws (way ∷ []) n size in
    ap (λ k. k + 1) (match.last way.from way.to)
    ∙ sym (ap (λ w. sequence_in w n) all ∙ ap (λ l. way_count l (way_at (ws ++ way ∷ []) n) + 1) before ∙ ap (λ w. way_count ws w + 1) at)
