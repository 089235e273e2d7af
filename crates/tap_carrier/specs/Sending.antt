-- How the packets of a group are made: one for each frame that was sent.
--
-- Rule: docs/PROTOCOL.md, "Packets".
use Rattle.std.specs.Prelude.{◌≡◌, ℕ, ◌+◌, ◌<◌, ◌≤◌, true, if◌then◌else◌, List, [], ◌++◌, All, drop, length, take, Result, Ok, Err, IsOk, MatchOption, Option, None, Some}
use Rattle.tap_name.specs.Settings.{SettingsValue}
use Rattle.tap_wire.specs.Reading.{head_of}
use Rattle.tap_log.specs.declared.record.Record.{Record}
use Rattle.tap_log.specs.declared.record.Record.TheVariants.{Packet as PacketRecord, Sent}
use Rattle.tap_log.specs.Counts.{packet_count, sent_count}
use Rattle.tap_log.specs.Kinds.{sent_number}
use Rattle.tap_log.specs.Log.{EachRecord}
use Rattle.tap_carry.specs.declared.net.Packet.{Packet}
use Rattle.tap_carry.specs.Net.{most_packets}
use Rattle.tap_carry.specs.Outbox.{most_frames}
use Rattle.tap_boxes.specs.Boxes.{BoxesValue}
use Rattle.tap_boxes.specs.Changes.{HasSent, packet_to_send, with_packet}
use Rattle.tap_engine.specs.World.{WorldValue, whole_log}
use Rattle.tap_engine.specs.declared.stop.Stop.{Stop}
use Rattle.tap_engine.specs.declared.stop.Stop.TheVariants.{NoMemory}
use Rattle.tap_packets.specs.Groups.{data_packets}
use Rattle.tap_packets.specs.Matching.{net_less}
use Rattle.tap_packets.specs.MayCome.{MayCome}
use Rattle.tap_packets.specs.Packets.{frames_sent, packets_ended}
use Rattle.tap_packets.specs.Sequence.{sent_way, way_between}
use Rattle.tap_carrier.specs.declared.sending.Sending.{Sending}
use Rattle.tap_carrier.specs.Carrier.{CarrierValue}
use Rattle.tap_carrier.specs.Kept.{Keeps}

-- ---- the frames that were sent

-- if the record sends a frame, its head is read
unfoldable pub HasHead : SettingsValue → Record → Type 0
HasHead p (Sent number bytes) = IsOk (head_of p bytes)
HasHead p other = Unit {0}

-- this is the frame that the record sends: its number, its sender and its receiver
pub record IsSentBy (p : SettingsValue) (item : Record) (sending : Sending) : Type 0 where
  pub number : sent_number item ≡ Some sending.number
  pub way : sent_way p item ≡ Some (way_between sending.from sending.to)

-- the frame that the record sends, if it sends one
abbrev pub IsFrameOf : SettingsValue → Record → Option Sending → Type 0
IsFrameOf p item found = MatchOption found (sent_number item ≡ None) (IsSentBy p item)

-- ---- remarks of a group

-- these records, which are remarks, were added, and all else of the world stays
pub record HasRemarked (items : List Record) (before after : WorldValue) : Type 0 where
  pub log : whole_log after ≡ whole_log before ++ items
  pub plain : after.log ≡ before.log
  pub beginning : after.beginning ≡ before.beginning
  pub refused : after.refused ≡ before.refused
  pub stopped : after.stopped ≡ before.stopped

-- memory was refused: some first ones of these remarks were added, and not all
pub record FallsShort (items : List Record) (before after : WorldValue) : Type 0 where
  pub kept : ℕ
  pub few : kept < length items
  pub log : whole_log after ≡ whole_log before ++ take kept items
  pub plain : after.log ≡ before.log
  pub beginning : after.beginning ≡ before.beginning
  pub refused : after.refused ≡ before.refused

-- By the answer: these remarks were added, and the carrier is then as it is said; or memory was refused. No other answer comes.
abbrev pub RemarksAll : {A : Type 0} → List Record → Type 0 → WorldValue → Result A Stop → WorldValue → Type 0
RemarksAll items IsThen before (Ok answer) after = HasRemarked items before after × IsThen
RemarksAll items IsThen before (Err NoMemory) after = FallsShort items before after
RemarksAll items IsThen before (Err other) after = ⊥

-- ---- single packets

-- the record that makes the packet which is put next
abbrev pub put_record : CarrierValue → Packet → Record
put_record c packet = PacketRecord c.boxes.net.made packet.frame packet.ack

-- the packet that acknowledges the frame of a data packet
abbrev pub ack_of : Packet → Packet
ack_of packet = record { from = packet.to; to = packet.from; seq = packet.seq; frame = packet.frame; ack = true }

-- with a packet more it has made one more once more, if the last step sends packets once more
abbrev pub resent_after : CarrierValue → ℕ
resent_after c = c.resent + (if c.resending then 1 else 0)

-- The packet was put, and if the last step sends packets once more, counted. The boxes of nodes stay.
abbrev pub HasPut : Packet → CarrierValue → CarrierValue → Type 0
HasPut packet before after = after ≡ record before { boxes = with_packet before.boxes packet; resent = resent_after before }

-- the packet of this number is gone, and all else stays
abbrev pub HasDropped : ℕ → CarrierValue → CarrierValue → Type 0
HasDropped number before after = after ≡ record before { boxes = record before.boxes { net = net_less before.boxes.net number } }

-- The frame was put into its sender's outbox, and its data packet into the net.
pub record HasCarried (sending : Sending) (before after : CarrierValue) : Type 0 where
  pub sent : BoxesValue
  pub sends : HasSent sending.from sending.to sending.number before.boxes sent
  pub puts : after.boxes ≡ with_packet sent (packet_to_send before.boxes sending.from sending.to sending.number)
  pub resending : after.resending ≡ before.resending
  pub resent : after.resent ≡ resent_after before

-- ---- the packets of a group

-- From this place on the whole log has the records of a group, and its frames have no packets yet: outboxes are what the log says up to there,
-- and all else what it says. Each record may come after those before it, no packet ends from there on, and there are numbers left for
-- frames and packets.
pub record IsToCarry (p : SettingsValue) (from : ℕ) (w : WorldValue) (c : CarrierValue) : Type 0 where
  pub within : from ≤ length (whole_log w)
  pub keeps : Keeps p (take from (whole_log w)) (whole_log w) c
  pub follow : EachRecord MayCome (whole_log w)
  pub ends : packets_ended (drop from (whole_log w)) ≡ []
  pub heads : All (HasHead p) (whole_log w)
  pub frames : sent_count (whole_log w) ≤ most_frames
  pub room : packet_count (whole_log w) + length (frames_sent (drop from (whole_log w))) ≤ most_packets

-- a data packet for each frame that is sent from this place on
abbrev pub packets_since : ℕ → WorldValue → List Record
packets_since from w = data_packets (whole_log w) (frames_sent (drop from (whole_log w)))
