-- What is proved of packets.
use Rattle.std.specs.Prelude.{◌≡◌, ℕ, ◌+◌, ◌*◌, ◌<◌, ◌≤◌, true, false, not, nat_eq, List, [], ◌∷◌, ◌++◌, length, filter, slice_get, All, AllPairs, Contains, Some}
use Rattle.std.specs.Option.{option_map}
use Rattle.tap_name.specs.Settings.{SettingsValue}
use Rattle.tap_wire.specs.Names.{receiver_in, sender_in}
use Rattle.tap_log.specs.declared.record.Record.{Record}
use Rattle.tap_log.specs.declared.record.Record.TheVariants.{Begin, Carrier, Taken}
use Rattle.tap_log.specs.Counts.{packet_count, sent_count}
use Rattle.tap_log.specs.Frames.{bytes_of}
use Rattle.tap_log.specs.Log.{EachFrom, EachRecord}
use Rattle.tap_history.specs.Moments.{awaiting, has_number, outstanding, under_way}
use Rattle.tap_carry.specs.Arrivals.{no_arrivals}
use Rattle.tap_carry.specs.Inbox.{has_arrived}
use Rattle.tap_carry.specs.Net.{NetValue}
use Rattle.tap_carry.specs.Outbox.{awaits_one, last_to}
use Rattle.tap_packets.specs.Packets.{PacketLine, frames_taken, line_numbers, lines_under_way}
use Rattle.tap_packets.specs.Groups.{AreCarrierMoves, IsCarrierMove, CarrierMove, data_line, group_of, log_after}
use Rattle.tap_packets.specs.Sequence.{Way, sent_way, sequence_in, has_sequence, way_at, way_between, frame_ways}
use Rattle.tap_packets.specs.MayCome.{HasJustArrived, KeepsPackets, MayCome}
use Rattle.tap_packets.specs.Matching.{no_frames, no_packets, AreSenders, ChangesAlong, Inboxes, InboxesAfter, InboxesMatch, NetAfter, NetMatches, Outboxes, OutboxesAfter, OutboxesMatch, data_packet_of, frames_kept, numbered_along, packet_along}
use Rattle.tap_packets.specs.Bounds.{AreFewGroups, Clock, Counts, FallsAt, IsAllowed, IsEffect, IsTurn, MayMoves, clock_of, counts_of, measure, most_made, packet_bound}

-- of the frames sent, no two have one way and one sequence number
abbrev pub SequenceTells : Type 0
SequenceTells = (ways : List Way) (way : Way) (seq frame other : ℕ) → frame < length ways → other < length ways
    → has_sequence ways way seq frame ≡ true → has_sequence ways way seq other ≡ true → frame ≡ other

-- the way of a frame that was sent is what its bytes say
abbrev pub WaysOfBytes : Type 0
WaysOfBytes = (settings : SettingsValue) (log : List Record) (frame : ℕ) (bytes : List ℕ) → KeepsPackets log
    → bytes_of log frame ≡ Some bytes
    → way_at (frame_ways settings log) frame ≡ way_between (sender_in settings bytes) (receiver_in settings bytes)

-- the beginning of a carried log
abbrev pub carried_beginning : SettingsValue → ℕ → List (List ℕ) → List Record
carried_beginning settings frames members = Begin settings frames members ∷ Carrier ∷ []

-- The records of each move may come, one after another, from the beginning on; and a log of records that may come keeps what is said of its
-- packets. The packets under way are those whose numbers are.
pub record GroupsFollow : Type 0 where
  pub beginning : (settings : SettingsValue) (frames : ℕ) (members : List (List ℕ))
      → EachRecord MayCome (carried_beginning settings frames members)
  pub moves : (log : List Record) (move : CarrierMove) → KeepsPackets log → IsCarrierMove log move → EachFrom MayCome log (group_of log move)
  pub all : (log : List Record) (moves : List CarrierMove) → EachRecord MayCome log → AreCarrierMoves log moves
      → EachRecord MayCome (log_after log moves)
  pub more : (log items : List Record) → KeepsPackets log → EachFrom MayCome log items → KeepsPackets (log ++ items)
  pub kept : (log : List Record) → EachRecord MayCome log → KeepsPackets log
  pub under_way : (log : List Record) → under_way log ≡ line_numbers (lines_under_way log)

-- Boxes in which nothing is yet are what the beginning of a log says.
pub record BoxesBegin : Type 0 where
  pub outboxes : (settings : SettingsValue) (frames : ℕ) (members : List (List ℕ)) (boxes : Outboxes)
      → ((name : List ℕ) → boxes name ≡ no_frames) → OutboxesMatch settings (carried_beginning settings frames members) boxes
  pub inboxes : (settings : SettingsValue) (frames : ℕ) (members : List (List ℕ)) (boxes : Inboxes)
      → ((name : List ℕ) → boxes name ≡ no_arrivals) → InboxesMatch settings (carried_beginning settings frames members) boxes
  pub net : (settings : SettingsValue) (frames : ℕ) (members : List (List ℕ))
      → NetMatches settings (carried_beginning settings frames members) no_packets

-- Boxes that are what the log says stay so with records that may come, each kind of box by itself.
pub record BoxesKept : Type 0 where
  pub begins : BoxesBegin
  pub outboxes : (settings : SettingsValue) (log items : List Record) (before after : Outboxes)
      → KeepsPackets log → EachFrom MayCome log items → OutboxesMatch settings log before
      → ChangesAlong (OutboxesAfter settings) log items before after → OutboxesMatch settings (log ++ items) after
  pub inboxes : (settings : SettingsValue) (log items : List Record) (before after : Inboxes)
      → KeepsPackets log → EachFrom MayCome log items → InboxesMatch settings log before
      → ChangesAlong (InboxesAfter settings) log items before after → InboxesMatch settings (log ++ items) after
  pub net : (settings : SettingsValue) (log items : List Record) (before after : NetValue)
      → KeepsPackets log → EachFrom MayCome log items → NetMatches settings log before
      → ChangesAlong (NetAfter settings) log items before after → NetMatches settings (log ++ items) after

-- A packet stands in the net at its place. The inbox of the node to which a data packet goes answers that it arrives for the first time
-- exactly if its frame is outstanding; the outbox of the node to which an acknowledgement goes, that it awaited this exactly if its frame
-- does; and a frame is sent with its own sequence number.
pub record BoxesAnswer : Type 0 where
  pub looked : (settings : SettingsValue) (log : List Record) (net : NetValue) (place : ℕ) → NetMatches settings log net
      → slice_get net.packets place ≡ option_map (numbered_along (frame_ways settings log)) (slice_get (lines_under_way log) place)
  pub arrived : (settings : SettingsValue) (log : List Record) (boxes : Inboxes) (line : PacketLine)
      → KeepsPackets log → InboxesMatch settings log boxes → Contains (lines_under_way log) line → line.ack ≡ false
      → (let packet = packet_along (frame_ways settings log) line in
      not (has_arrived (boxes packet.to) packet.from packet.seq) ≡ has_number (outstanding log) line.frame)
  pub acked : (settings : SettingsValue) (log : List Record) (boxes : Outboxes) (line : PacketLine)
      → KeepsPackets log → OutboxesMatch settings log boxes → Contains (lines_under_way log) line → line.ack ≡ true
      → (let packet = packet_along (frame_ways settings log) line in
      awaits_one (boxes packet.to) packet.from packet.seq ≡ has_number (awaiting log) line.frame)
  pub sends : (settings : SettingsValue) (log : List Record) (boxes : Outboxes) (item : Record) (way : Way)
      → OutboxesMatch settings log boxes → sent_way settings item ≡ Some way
      → last_to (boxes way.from) way.to + 1 ≡ sequence_in (frame_ways settings (log ++ item ∷ [])) (sent_count log)

-- The outboxes together keep the frames that await: those of names among which each sender is once, all and no others, and as many. What
-- they keep of a frame makes its data packet. The frames that await ascend, so that what is gathered and sorted is the list of them.
pub record OutboxesTogether : Type 0 where
  pub gathered : (settings : SettingsValue) (log : List Record) (boxes : Outboxes) (names : List (List ℕ))
      → OutboxesMatch settings log boxes → AreSenders (frame_ways settings log) names (awaiting log)
      → (frame : ℕ) → has_number (frames_kept boxes names) frame ≡ has_number (awaiting log) frame
  pub count : (settings : SettingsValue) (log : List Record) (boxes : Outboxes) (names : List (List ℕ))
      → OutboxesMatch settings log boxes → AreSenders (frame_ways settings log) names (awaiting log)
      → length (frames_kept boxes names) ≡ length (awaiting log)
  pub packets : (settings : SettingsValue) (log : List Record) (boxes : Outboxes) (name : List ℕ) (number : ℕ)
      → OutboxesMatch settings log boxes
      → All (λ item. data_packet_of name item ≡ packet_along (frame_ways settings log) (data_line number item.frame)) (boxes name).awaits
  pub sorted : (log : List Record) (frames : List ℕ) → KeepsPackets log → AllPairs (λ frame other. frame < other) frames
      → ((frame : ℕ) → has_number frames frame ≡ has_number (awaiting log) frame) → frames ≡ awaiting log

-- how often a frame was taken
abbrev pub times_taken : List Record → ℕ → ℕ
times_taken log frame = length (filter (λ other. nat_eq other frame) (frames_taken log))

-- Each frame is taken at most once, right after the arrival of a data packet of it; and if no frame is outstanding, each that was sent was
-- taken exactly once. If no frame awaits its acknowledgement, none is outstanding.
pub record TakenOnce : Type 0 where
  pub most : (log : List Record) (frame : ℕ) → KeepsPackets log → times_taken log frame ≤ 1
  pub arrives : (log before after : List Record) (frame : ℕ) → EachRecord MayCome log → log ≡ before ++ Taken frame ∷ after
      → HasJustArrived before frame
  pub all : (log : List Record) (frame : ℕ) → KeepsPackets log → outstanding log ≡ [] → frame < sent_count log
      → times_taken log frame ≡ 1
  pub settled : (log : List Record) → KeepsPackets log → awaiting log ≡ [] → outstanding log ≡ []

-- Each move has its effect on the counts. So the measure falls, the bound on packets never rises, and there are at most two groups for each
-- step and each packet.
pub record MovesCost : Type 0 where
  pub effects : (log : List Record) (move : CarrierMove) → KeepsPackets log → IsCarrierMove log move
      → IsEffect log move (counts_of log) (counts_of (log ++ group_of log move))
  pub falls : (most : ℕ) (log : List Record) (move : CarrierMove) (clock clock_after : Clock) (before after : Counts)
      → IsEffect log move before after → IsTurn log move clock clock_after → after.sent ≤ most
      → FallsAt most clock clock_after before after
  pub groups : (steps groups : ℕ) (log : List Record) (move : CarrierMove) (clock clock_after : Clock) (before after : Counts)
      → IsEffect log move before after → IsTurn log move clock clock_after → AreFewGroups steps groups clock before
      → AreFewGroups steps (groups + 1) clock_after after

-- A run ends: its groups are no more than the measure at its start. And it makes few packets, so it has few groups.
pub record RunsEnd : Type 0 where
  pub turns : (steps : ℕ) (log : List Record) (move : CarrierMove) → IsCarrierMove log move → IsAllowed steps log move
      → IsTurn log move (clock_of steps log) (clock_of steps (log ++ group_of log move))
  pub ends : (steps most : ℕ) (log : List Record) (moves : List CarrierMove) → KeepsPackets log → MayMoves steps most log moves
      → length moves ≤ measure most (clock_of steps log) (counts_of log)
  pub packets : (steps most : ℕ) (log : List Record) (moves : List CarrierMove) → KeepsPackets log → MayMoves steps most log moves
      → packet_count (log_after log moves) ≤ packet_bound most (clock_of steps log) (counts_of log)
  pub few : (settings : SettingsValue) (members : List (List ℕ)) (steps most : ℕ) (moves : List CarrierMove)
      → (let log = carried_beginning settings most members in
      MayMoves steps most log moves → packet_count (log_after log moves) ≤ most_made most steps)
  pub groups : (settings : SettingsValue) (members : List (List ℕ)) (steps most : ℕ) (moves : List CarrierMove)
      → (let log = carried_beginning settings most members in
      MayMoves steps most log moves → length moves ≤ 2 * steps + 2 * packet_count (log_after log moves))
