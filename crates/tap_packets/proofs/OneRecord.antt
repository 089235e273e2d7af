-- What one more record changes: in boxes and in the net, in what awaits, and in the ways of packets.
-- Cited above: ack-arrives, acked-less, along-later, ArePlain, arrival-comes, awaiting-acked, awaiting-data, awaiting-most, awaiting-plain,
-- awaiting-same, awaiting-sent, data-arrives, inboxes-one, inboxes-stay, kept-one, line-at, line-sent, net-drops, net-one, net-stays, outboxes-plain,
-- outboxes-sends, outboxes-stay, plain-packets, sent-along, ways-one, ways-plain
use Rattle.std.proofs.Common.{◌≡◌, ℕ, zero, suc, ◌+◌, ◌<◌, ◌≤◌, true, false, not, nat_eq, List, [], ◌∷◌, ◌++◌, length, map, Option, None, Some, refl, ap, sym, ◌∙◌, cond, arith, subst, inl, inr, append-nil, append_assoc}
use Rattle.std.specs.Prelude.{◌&&◌, ◌||◌, if◌then◌else◌, slice_get, Contains}
use Rattle.std.specs.List.{AllByRecursion, remove}
use Rattle.std.proofs.lemmas.Bool.{ne_eqb, eq-eqb, eqb-false, cases_eq, or_parts, false≢true}
use Rattle.std.proofs.lemmas.List.{get_or_push}
use Rattle.std.proofs.lemmas.List.Elements.{filter_map-append}
use Rattle.std.proofs.lemmas.List.Filters.{length-filter_both}
use Rattle.std.proofs.lemmas.Option.{none-some}
use Rattle.tap_name.specs.Settings.{SettingsValue}
use Rattle.tap_log.specs.declared.record.Record.{Record}
use Rattle.tap_log.specs.declared.record.Record.TheVariants.{Arrived, Sent}
use Rattle.tap_log.specs.Kinds.{sent_number, taken_number, arrived_number, ended_number}
use Rattle.tap_log.specs.Counts.{sent_count}
use Rattle.tap_log.specs.Log.{EachFrom}
use Rattle.tap_log.specs.MoreRecords.{at_most_one}
use Rattle.tap_log.proofs.MoreRecords.{filter_map-same}
use Rattle.tap_history.specs.Moments.{has_number, numbers_less, acknowledged, awaiting}
use Rattle.tap_carry.specs.declared.net.Numbered.{Numbered}
use Rattle.tap_carry.specs.Net.{NetValue, packets_less, taken_at}
use Rattle.tap_carry.specs.Outbox.{await_with, last_to}
use Rattle.tap_packets.specs.Groups.{data_line}
use Rattle.tap_packets.specs.Bounds.{one_when}
use Rattle.tap_packets.specs.Matching.{Outboxes, OutboxesMatch, Inboxes, InboxesMatch, packet_along, numbered_along, NetMatches, net_less, SendsFrom, IsAckedAt, OutboxesAfter, InboxesAfter, NetAfter, data_packet_of}
use Rattle.tap_packets.specs.MayCome.{KeepsPackets, MayCome}
use Rattle.tap_packets.specs.Packets.{PacketLine, frames_sent, made_packet, packet_lines, packet_record, packets_ended, line_numbers, lines_under_way}
use Rattle.tap_packets.specs.Sequence.{Way, sent_way, frame_ways, no_way, sequence_in, way_at}
use Rattle.tap_packets.proofs.AwaitsFrom.{less-nothing, others_than}
use Rattle.tap_packets.proofs.BoxesByRecord.{acked-nothing, arrives-then, boxes_answer_holds, outboxes-more, inboxes-more, net-more, sends-then}
use Rattle.tap_packets.proofs.GatheredAwaits.{awaiting-distinct}
use Rattle.tap_packets.proofs.InboxesMatching.{inboxes-others}
use Rattle.tap_packets.proofs.KeptForms.{Keeps, among_from, from_keeps, keeps_from}
use Rattle.tap_packets.proofs.KeptPackets.{among-filter, among-has, is-under_way, kept-more, line-frame, single-on}
use Rattle.tap_packets.proofs.LinesCounted.{under_way-distinct}
use Rattle.tap_packets.proofs.MoreUnderWay.{acknowledged_lines, acknowledged-one, awaiting-group}
use Rattle.tap_packets.proofs.NetMatching.{net-others}
use Rattle.tap_packets.proofs.NumbersInRows.{AreDistinct}
use Rattle.tap_packets.proofs.OutboxesMatching.{one-less, outboxes-others}
use Rattle.tap_packets.proofs.RecordsCome.{first-none, next-arrived, sent-of-packet}
use Rattle.tap_packets.proofs.StableWays.{ways-size, numbered-stay}

-- one more record that may come keeps what is said of a log's packets
pub kept-one : (log : List Record) (item : Record) → KeepsPackets log → MayCome log item → KeepsPackets (log ++ item ∷ [])
kept-one log item kept next = from_keeps (log ++ item ∷ []) (kept-more log item (keeps_from log kept) next)

-- ---- ways

-- a record that sends no frame has no way of one
pub way-none : (settings : SettingsValue) (item : Record) → sent_number item ≡ None → sent_way settings item ≡ None
unfolding sent_number sent_way
way-none settings (Sent number bytes) none = absurd (none-some number (sym none))
way-none settings item none = refl

pub ways-one : (settings : SettingsValue) (log : List Record) (item : Record) → sent_number item ≡ None
    → frame_ways settings (log ++ item ∷ []) ≡ frame_ways settings log
ways-one settings log item none = filter_map-same (sent_way settings) log item (way-none settings item none)

-- a packet goes the same way after more records, if its frame was sent before them
pub along-later : (settings : SettingsValue) (log items : List Record) (line : PacketLine) → line.frame < sent_count log
    → packet_along (frame_ways settings (log ++ items)) line ≡ packet_along (frame_ways settings log) line
along-later settings log items line low =
    let size = ways-size settings log in
    ap (λ ws. packet_along ws line) (filter_map-append (sent_way settings) log items)
    ∙ ap (λ (n : Numbered). n.packet) (numbered-stay (frame_ways settings log) (frame_ways settings items) line (omega (arith, low, size)))

-- the frame of a packet that is under way was sent
pub line-sent : (log : List Record) (line : PacketLine) → KeepsPackets log → Contains (lines_under_way log) line → line.frame < sent_count log
line-sent log line kept under_way = line-frame log line (keeps_from log kept) (among_from (lines_under_way log) line under_way)

-- ---- boxes and the net

pub outboxes-one : (settings : SettingsValue) (log : List Record) (item : Record) (before after : Outboxes) → KeepsPackets log
    → MayCome log item → OutboxesMatch settings log before → OutboxesAfter settings log item before after
    → OutboxesMatch settings (log ++ item ∷ []) after
outboxes-one settings log item before after kept next match change =
    outboxes-more settings log item before after (keeps_from log kept) next match change

pub inboxes-one : (settings : SettingsValue) (log : List Record) (item : Record) (before after : Inboxes) → KeepsPackets log
    → MayCome log item → InboxesMatch settings log before → InboxesAfter settings log item before after
    → InboxesMatch settings (log ++ item ∷ []) after
inboxes-one settings log item before after kept next match change =
    inboxes-more settings log item (keeps_from log kept) next before after match change

pub net-one : (settings : SettingsValue) (log : List Record) (item : Record) (before after : NetValue) → KeepsPackets log
    → MayCome log item → NetMatches settings log before → NetAfter settings log item before after
    → NetMatches settings (log ++ item ∷ []) after
net-one settings log item before after kept next match change =
    net-more settings log item (keeps_from log kept) next before after match change

-- inboxes stay if no frame is taken
pub inboxes-stay : (settings : SettingsValue) (log : List Record) (item : Record) (boxes : Inboxes) → KeepsPackets log
    → MayCome log item → taken_number item ≡ None → InboxesMatch settings log boxes → InboxesMatch settings (log ++ item ∷ []) boxes
inboxes-stay settings log item boxes kept next none match =
    inboxes-others settings log item boxes (keeps_from log kept) next none match

-- the net stays if no packet is made, and none ends
pub net-stays : (settings : SettingsValue) (log : List Record) (item : Record) (net : NetValue) → KeepsPackets log
    → MayCome log item → made_packet item ≡ None → ended_number item ≡ None → NetMatches settings log net
    → NetMatches settings (log ++ item ∷ []) net
net-stays settings log item net kept next no_packet no_end match =
    net-others settings log item net (keeps_from log kept) next match no_packet no_end

-- a packet at a place is one of those under way
pub line-at : (lines : List PacketLine) (place : ℕ) (line : PacketLine) → slice_get lines place ≡ Some line → Contains lines line
line-at [] place line at = absurd (none-some line at)
line-at (l ∷ lines) zero line at = let same : l ≡ line = cc in (0, (let low : 0 < suc (length lines) = omega arith in low), same)
line-at (l ∷ lines) (suc place) line at =
    let there = line-at lines place line at in
    let within = there.1 in
    (suc there.0, (let low : suc there.0 < suc (length lines) = omega (arith, within) in low), there.2)

less-absent : (ws : List Way) (n : ℕ) (lines : List PacketLine) → has_number (line_numbers lines) n ≡ false
    → packets_less (map (numbered_along ws) lines) n ≡ map (numbered_along ws) lines
less-absent ws n [] gone = refl
less-absent ws n (l ∷ lines) gone =
    let parts = or_parts (nat_eq l.number n) (has_number (line_numbers lines) n) gone in
    let less = packets_less (map (numbered_along ws) lines) n in
    ap (λ b. cond {A = List Numbered} (not b) (numbered_along ws l ∷ less) less)
    (ne_eqb n l.number (λ e. eqb-false l.number n parts.0 (sym e)))
    ∙ ap (λ x. numbered_along ws l ∷ x) (less-absent ws n lines parts.1)

drops : (ws : List Way) (place : ℕ) (line : PacketLine) (lines : List PacketLine) → AreDistinct (line_numbers lines)
    → slice_get lines place ≡ Some line
    → remove (map (numbered_along ws) lines) place ≡ packets_less (map (numbered_along ws) lines) line.number
drops ws place line [] distinct at = absurd (none-some line at)
drops ws zero line (l ∷ lines) distinct at =
    let same : l ≡ line = cc in
    let number = ap (λ (x : PacketLine). x.number) same in
    let less = packets_less (map (numbered_along ws) lines) line.number in
    sym (ap (λ b. cond {A = List Numbered} (not b) (numbered_along ws l ∷ less) less) (eq-eqb line.number l.number (sym number))
    ∙ less-absent ws line.number lines (ap (has_number (line_numbers lines)) (sym number) ∙ distinct.0))
drops ws (suc place) line (l ∷ lines) distinct at =
    let less = packets_less (map (numbered_along ws) lines) line.number in
    let there = among-has line lines (among_from lines line (line-at lines place line at)) in
    let apart : nat_eq line.number l.number ≡ false =
    ne_eqb line.number l.number (λ e. false≢true (sym distinct.0 ∙ ap (has_number (line_numbers lines)) (sym e) ∙ there)) in
    ap (λ x. numbered_along ws l ∷ x) (drops ws place line lines distinct.1 at)
    ∙ sym (ap (λ b. cond {A = List Numbered} (not b) (numbered_along ws l ∷ less) less) apart)

-- the net without the packet at a place is the net without that number
pub net-drops : (settings : SettingsValue) (log : List Record) (net : NetValue) (place : ℕ) (line : PacketLine) → KeepsPackets log
    → NetMatches settings log net → slice_get (lines_under_way log) place ≡ Some line → taken_at net place ≡ net_less net line.number
net-drops settings log net place line kept match at =
    let ws = frame_ways settings log in
    let lines = lines_under_way log in
    ap (λ l. record net { packets = l })
    (ap (λ l. remove l place) match.packets
    ∙ drops ws place line lines (under_way-distinct log (keeps_from log kept)) at
    ∙ ap (λ l. packets_less l line.number) (sym match.packets))

-- outboxes stay if no frame is sent, and no packet arrives
pub outboxes-stay : (settings : SettingsValue) (log : List Record) (item : Record) (boxes : Outboxes) → KeepsPackets log
    → MayCome log item → sent_number item ≡ None → arrived_number item ≡ None → OutboxesMatch settings log boxes
    → OutboxesMatch settings (log ++ item ∷ []) boxes
outboxes-stay settings log item boxes kept next none no_arrival match =
    let keeps = keeps_from log kept in
    outboxes-others settings log item boxes keeps next none (way-none settings item none) (acked-nothing log item keeps no_arrival) match

-- ---- a frame is sent

-- a record that sends a frame is no arrival
no-arrival : (item : Record) (number : ℕ) → sent_number item ≡ Some number → arrived_number item ≡ None
unfolding sent_number arrived_number
no-arrival (Arrived packet) number is = absurd (none-some number is)
no-arrival item number is = refl

no-way-arrives : (settings : SettingsValue) (item : Record) (way : Way) → sent_way settings item ≡ Some way → arrived_number item ≡ None
unfolding sent_way arrived_number
no-way-arrives settings (Arrived packet) way is = absurd (none-some way is)
no-way-arrives settings item way is = refl

pub outboxes-sends : (settings : SettingsValue) (log : List Record) (item : Record) (way : Way) (before after : Outboxes)
    → KeepsPackets log → MayCome log item → sent_way settings item ≡ Some way
    → SendsFrom before after way.from way.to (sent_count log) → OutboxesMatch settings log before
    → OutboxesMatch settings (log ++ item ∷ []) after
outboxes-sends settings log item way before after kept next goes sends match =
    sends-then settings log item before after (keeps_from log kept) next match way goes (no-way-arrives settings item way goes) sends

-- the frame's way is then the last one
sent-at : (settings : SettingsValue) (log : List Record) (item : Record) (way : Way) → sent_way settings item ≡ Some way
    → way_at (frame_ways settings (log ++ item ∷ [])) (sent_count log) ≡ way
sent-at settings log item way goes =
    ap (λ ws. way_at ws (sent_count log)) (filter_map-append (sent_way settings) log (item ∷ [])
    ∙ ap (λ o. frame_ways settings log ++ at_most_one o) goes)
    ∙ get_or_push (frame_ways settings log) way no_way (sent_count log) (ways-size settings log)

-- what its sender's outbox makes of it is its data packet
pub sent-along : (settings : SettingsValue) (log : List Record) (item : Record) (way : Way) (number : ℕ) (boxes : Outboxes)
    → sent_way settings item ≡ Some way → OutboxesMatch settings log boxes
    → data_packet_of way.from (await_with way.to (last_to (boxes way.from) way.to + 1) (sent_count log))
    ≡ packet_along (frame_ways settings (log ++ item ∷ [])) (data_line number (sent_count log))
sent-along settings log item way number boxes goes match =
    let all = frame_ways settings (log ++ item ∷ []) in
    let frame = sent_count log in
    ap (λ seq. data_packet_of way.from (await_with way.to seq frame)) (boxes_answer_holds.sends settings log boxes item way match goes)
    ∙ ap (λ (w : Way). data_packet_of w.from (await_with w.to (sequence_in all frame) frame)) (sym (sent-at settings log item way goes))

-- ---- a packet arrives

arrived-is : (number : ℕ) → arrived_number (Arrived number) ≡ Some number
unfolding arrived_number
arrived-is number = refl

arrival-sends : (number : ℕ) → sent_number (Arrived number) ≡ None
unfolding sent_number
arrival-sends number = refl

-- its arrival may come
pub arrival-comes : (log : List Record) (line : PacketLine) → Contains (lines_under_way log) line → MayCome log (Arrived line.number)
arrival-comes log line under_way =
    next-arrived log line.number (is-under_way log line (among_from (lines_under_way log) line under_way))

-- one that acknowledges its frame is told to the outbox of the node to which it goes
pub ack-arrives : (settings : SettingsValue) (log : List Record) (line : PacketLine) (before after : Outboxes) → KeepsPackets log
    → Contains (lines_under_way log) line → line.ack ≡ true
    → (let packet = packet_along (frame_ways settings log) line in IsAckedAt before after packet.to packet.from packet.seq)
    → OutboxesMatch settings log before → OutboxesMatch settings (log ++ Arrived line.number ∷ []) after
ack-arrives settings log line before after kept under_way ack acked match =
    arrives-then settings log (Arrived line.number) before after (keeps_from log kept) (arrival-comes log line under_way) match line.number
    (way-none settings (Arrived line.number) (arrival-sends line.number)) (arrived-is line.number) (record {
      line = line;
      under_way = under_way;
      is = refl;
      acked = λ is. acked;
      other = λ is. absurd (false≢true (sym is ∙ ack));
    })

-- and a data packet is not
pub data-arrives : (settings : SettingsValue) (log : List Record) (line : PacketLine) (boxes : Outboxes) → KeepsPackets log
    → Contains (lines_under_way log) line → line.ack ≡ false → OutboxesMatch settings log boxes
    → OutboxesMatch settings (log ++ Arrived line.number ∷ []) boxes
data-arrives settings log line boxes kept under_way data_packet match =
    arrives-then settings log (Arrived line.number) boxes boxes (keeps_from log kept) (arrival-comes log line under_way) match line.number
    (way-none settings (Arrived line.number) (arrival-sends line.number)) (arrived-is line.number) (record {
      line = line;
      under_way = under_way;
      is = refl;
      acked = λ is. absurd (false≢true (sym data_packet ∙ is));
      other = λ is. refl;
    })

-- ---- what awaits

awaiting-one : (log : List Record) (item : Record) → Keeps log → MayCome log item → awaiting (log ++ item ∷ [])
    ≡ numbers_less (awaiting log) (acknowledged_lines (at_most_one (arrived_number item)) (packet_lines log))
    ++ at_most_one (sent_number item)
awaiting-one log item kept next = awaiting-group log (item ∷ []) kept (single-on log item kept next)

-- as many await if no frame is sent, and what arrives acknowledges none
awaiting-quiet : (log : List Record) (item : Record) → Keeps log → MayCome log item → sent_number item ≡ None
    → ((g : ℕ) → has_number (acknowledged_lines (at_most_one (arrived_number item)) (packet_lines log)) g ≡ false)
    → awaiting (log ++ item ∷ []) ≡ awaiting log
awaiting-quiet log item kept next none nothing =
    let left = numbers_less (awaiting log) (acknowledged_lines (at_most_one (arrived_number item)) (packet_lines log)) in
    awaiting-one log item kept next ∙ ap (λ o. left ++ at_most_one o) none ∙ append-nil left
    ∙ less-nothing (awaiting log) (acknowledged_lines (at_most_one (arrived_number item)) (packet_lines log)) nothing

pub awaiting-same : (log : List Record) (item : Record) → KeepsPackets log → MayCome log item → sent_number item ≡ None
    → arrived_number item ≡ None → awaiting (log ++ item ∷ []) ≡ awaiting log
awaiting-same log item kept next none no_arrival =
    awaiting-quiet log item (keeps_from log kept) next none (acked-nothing log item (keeps_from log kept) no_arrival)

-- a frame that is sent awaits from then on
pub awaiting-sent : (log : List Record) (item : Record) (number : ℕ) → KeepsPackets log → MayCome log item → sent_number item ≡ Some number
    → awaiting (log ++ item ∷ []) ≡ awaiting log ++ number ∷ []
awaiting-sent log item number kept next sent =
    let keeps = keeps_from log kept in
    let acked = acknowledged_lines (at_most_one (arrived_number item)) (packet_lines log) in
    awaiting-one log item keeps next ∙ ap (λ o. numbers_less (awaiting log) acked ++ at_most_one o) sent
    ∙ ap (λ l. l ++ number ∷ []) (less-nothing (awaiting log) acked (acked-nothing log item keeps (no-arrival item number sent)))

-- one whose acknowledgement arrives doesn't any longer
pub awaiting-acked : (log : List Record) (line : PacketLine) → KeepsPackets log → Contains (lines_under_way log) line → line.ack ≡ true
    → awaiting (log ++ Arrived line.number ∷ []) ≡ others_than line.frame (awaiting log)
awaiting-acked log line kept under_way ack =
    let keeps = keeps_from log kept in
    let item = Arrived line.number in
    let left : Option ℕ → List ℕ = λ o. numbers_less (awaiting log) (acknowledged_lines (at_most_one o) (packet_lines log)) in
    awaiting-one log item keeps (arrival-comes log line under_way)
    ∙ ap (λ o. left (arrived_number item) ++ at_most_one o) (arrival-sends line.number)
    ∙ append-nil (left (arrived_number item)) ∙ ap left (arrived-is line.number)
    ∙ one-less log line keeps (among_from (lines_under_way log) line under_way) ack

-- and with the arrival of a data packet as many do
pub awaiting-data : (log : List Record) (line : PacketLine) → KeepsPackets log → Contains (lines_under_way log) line → line.ack ≡ false
    → awaiting (log ++ Arrived line.number ∷ []) ≡ awaiting log
awaiting-data log line kept under_way data_packet =
    let keeps = keeps_from log kept in
    let among = among_from (lines_under_way log) line under_way in
    let there = among-filter (λ (l : PacketLine). not (has_number (packets_ended log) l.number)) line (packet_lines log) among in
    awaiting-quiet log (Arrived line.number) keeps (arrival-comes log line under_way) (arrival-sends line.number)
    (λ g. ap (λ o. has_number (acknowledged_lines (at_most_one o) (packet_lines log)) g) (arrived-is line.number)
    ∙ acknowledged-one 0 g line (packet_lines log) keeps.made there.0 ∙ ap (λ b. b && nat_eq line.frame g) data_packet)

-- ---- how many await

-- one less without this number, if it is among them
less-one : (f : ℕ) (xs : List ℕ) → AreDistinct xs → length xs ≡ length (others_than f xs) + (if has_number xs f then 1 else 0)
less-one f [] distinct = refl
less-one f (x ∷ xs) distinct =
    let rest = less-one f xs distinct.1 in
    elim (cases_eq x f) [
      | inl same ↦
          let gone : one_when (has_number xs f) ≡ 0 =
          ap (λ k. one_when (has_number xs k)) (sym same) ∙ ap one_when distinct.0 in
          let there : one_when (nat_eq x f || has_number xs f) ≡ 1 = ap (λ b. one_when (b || has_number xs f)) (eq-eqb x f same) in
          let left : length (others_than f (x ∷ xs)) ≡ length (others_than f xs) =
          ap (λ b. length (cond {A = List ℕ} (not b) (x ∷ others_than f xs) (others_than f xs))) (eq-eqb f x (sym same)) in
          omega (arith, rest, gone, there, left)
      | inr apart ↦
          let there : one_when (nat_eq x f || has_number xs f) ≡ one_when (has_number xs f) =
          ap (λ b. one_when (b || has_number xs f)) (ne_eqb x f apart) in
          let left : length (others_than f (x ∷ xs)) ≡ length (others_than f xs) + 1 =
          ap (λ b. length (cond {A = List ℕ} (not b) (x ∷ others_than f xs) (others_than f xs))) (ne_eqb f x (λ e. apart (sym e)))
          ∙ (let one : suc (length (others_than f xs)) ≡ length (others_than f xs) + 1 = omega arith in one) in
          omega (arith, rest, there, left)
    ]

pub acked-less : (log : List Record) (frame : ℕ) → KeepsPackets log
    → length (awaiting log) ≡ length (others_than frame (awaiting log)) + (if has_number (awaiting log) frame then 1 else 0)
acked-less log frame kept = less-one frame (awaiting log) (awaiting-distinct log (keeps_from log kept))

-- no more await than were sent
pub awaiting-most : (log : List Record) → length (awaiting log) ≤ sent_count log
awaiting-most log =
    let both = length-filter_both (λ n. not (has_number (acknowledged log) n)) (λ n. not (not (has_number (acknowledged log) n)))
    (λ n. refl) (frames_sent log) in
    omega (arith, both)

-- ---- records that send nothing, and are no arrivals

abbrev pub ArePlain : List Record → Type 0
ArePlain items = AllByRecursion (λ item. (sent_number item ≡ None) × (arrived_number item ≡ None)) items

-- of a packet that is made, and of several
arrived-of-packet : (line : PacketLine) → arrived_number (packet_record line) ≡ None
unfolding arrived_number
arrived-of-packet line = refl

pub plain-packets : (lines : List PacketLine) → ArePlain (map packet_record lines)
plain-packets [] = tt
plain-packets (line ∷ lines) = ((sent-of-packet line, arrived-of-packet line), plain-packets lines)

-- records that send no frames and end no packets are such ones
no-end : (item : Record) → ended_number item ≡ None → arrived_number item ≡ None
unfolding ended_number arrived_number
no-end (Arrived packet) none = absurd (none-some packet (sym none))
no-end item none = refl

pub plain-of : (items : List Record) → frames_sent items ≡ [] → packets_ended items ≡ [] → ArePlain items
plain-of [] sends ends = tt
plain-of (item ∷ items) sends ends =
    let s = first-none (sent_number item) (frames_sent items) sends in
    let e = first-none (ended_number item) (packets_ended items) ends in
    ((s.0, no-end item e.0), plain-of items s.1 e.1)

pub ways-plain : (settings : SettingsValue) (log items : List Record) → ArePlain items
    → frame_ways settings (log ++ items) ≡ frame_ways settings log
ways-plain settings log [] plain = ap (frame_ways settings) (append-nil log)
ways-plain settings log (item ∷ items) plain =
    ap (frame_ways settings) (sym (append_assoc log (item ∷ []) items))
    ∙ ways-plain settings (log ++ item ∷ []) items plain.1 ∙ ways-one settings log item plain.0.0

pub awaiting-plain : (log items : List Record) → KeepsPackets log → EachFrom MayCome log items → ArePlain items
    → awaiting (log ++ items) ≡ awaiting log
awaiting-plain log [] kept follow plain = ap awaiting (append-nil log)
awaiting-plain log (item ∷ items) kept follow plain =
    ap awaiting (sym (append_assoc log (item ∷ []) items))
    ∙ awaiting-plain (log ++ item ∷ []) items (kept-one log item kept follow.0) follow.1 plain.1
    ∙ awaiting-same log item kept follow.0 plain.0.0 plain.0.1

pub outboxes-plain : (settings : SettingsValue) (log items : List Record) (boxes : Outboxes) → KeepsPackets log
    → EachFrom MayCome log items → ArePlain items → OutboxesMatch settings log boxes → OutboxesMatch settings (log ++ items) boxes
outboxes-plain settings log [] boxes kept follow plain match = subst (λ l. OutboxesMatch settings l boxes) (sym (append-nil log)) match
outboxes-plain settings log (item ∷ items) boxes kept follow plain match =
    subst (λ l. OutboxesMatch settings l boxes) (append_assoc log (item ∷ []) items)
    (outboxes-plain settings (log ++ item ∷ []) items boxes (kept-one log item kept follow.0) follow.1 plain.1
    (outboxes-stay settings log item boxes kept follow.0 plain.0.0 plain.0.1 match))
