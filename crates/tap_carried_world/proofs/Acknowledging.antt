-- The packet that acknowledges the frame of a data packet goes back the way of that.
use Rattle.std.proofs.Common.{◌≡◌, ℕ, ◌<◌, Bool, false, List, [], ◌∷◌, ◌++◌, refl, ap, sym, subst, ◌∙◌}
use Rattle.std.specs.Prelude.{if◌then◌else◌}
use Rattle.tap_name.specs.Settings.{SettingsValue}
use Rattle.tap_log.specs.declared.record.Record.{Record}
use Rattle.tap_log.specs.Counts.{packet_count, sent_count}
use Rattle.tap_log.specs.Kinds.{arrived_number, sent_number}
use Rattle.tap_log.specs.Log.{EachFrom}
use Rattle.tap_carry.specs.declared.net.Packet.{Packet}
use Rattle.tap_packets.specs.Groups.{ack_line}
use Rattle.tap_packets.specs.Matching.{packet_along}
use Rattle.tap_packets.specs.MayCome.{KeepsPackets, MayBeMade, MayCome}
use Rattle.tap_packets.specs.Packets.{PacketLine, made_packet, packet_record}
use Rattle.tap_packets.specs.Sequence.{Way, frame_ways, sequence_in, way_at}
use Rattle.tap_packets.proofs.OneRecord.{ArePlain, along-later}
use Rattle.tap_carrier.specs.Carrier.{CarrierValue}
use Rattle.tap_carrier.specs.Kept.{KeepsLog}
use Rattle.tap_carrier.specs.Sending.{HasPut, ack_of, put_record}
use Rattle.tap_carrier.proofs.KeptCarrier.{keeps_plain, keeps_put}

-- a data packet goes the way of its frame
abbrev pub data_along : List Way → ℕ → Packet
data_along ways frame = record {
  from = (way_at ways frame).from;
  to = (way_at ways frame).to;
  seq = sequence_in ways frame;
  frame = frame;
  ack = false;
}

pub along_data : (ways : List Way) (line : PacketLine) → line.ack ≡ false → packet_along ways line ≡ data_along ways line.frame
along_data ways line carries =
    let along : Bool → Packet = λ ack. record {
      from = if ack then (way_at ways line.frame).to else (way_at ways line.frame).from;
      to = if ack then (way_at ways line.frame).from else (way_at ways line.frame).to;
      seq = sequence_in ways line.frame;
      frame = line.frame;
      ack = ack;
    } in
    ap along carries

made_of : (log : List Record) (line : PacketLine) → MayCome log (packet_record line) → MayBeMade log line
unfolding made_packet
made_of log line comes = comes.makes

packet_plain : (line : PacketLine) → ArePlain (packet_record line ∷ [])
unfolding sent_number arrived_number
packet_plain line = ((refl, refl), tt)

module _ (p : SettingsValue) (log more : List Record) (line : PacketLine) (carries : line.ack ≡ false) (sent : line.frame < sent_count log) (number : ℕ) where
  abbrev back : PacketLine
  back = ack_line number line.frame

  -- it goes back
  goes_back : ack_of (packet_along (frame_ways p log) line) ≡ packet_along (frame_ways p (log ++ more)) back
  goes_back = ap ack_of (along_data (frame_ways p log) line carries) ∙ sym (along-later p log more back sent)

  -- once it is put, the carrier keeps what the log says
  pub keeps_back : (whole : List Record) (c d : CarrierValue) → whole ≡ log ++ more → KeepsPackets whole → EachFrom MayCome whole (packet_record back ∷ [])
      → HasPut (ack_of (packet_along (frame_ways p log) line)) c d → KeepsLog p whole c → KeepsLog p (whole ++ packet_record back ∷ []) d
  keeps_back whole c d is kept come put keeps =
      keeps_plain p whole (whole ++ packet_record back ∷ []) (packet_record back ∷ []) d kept come (packet_plain back)
      (keeps_put p whole whole back c d kept (made_of whole back come.0)
      (subst (λ packet. HasPut packet c d) (goes_back ∙ ap (λ l. packet_along (frame_ways p l) back) (sym is)) put) keeps)

-- it has the next number
pub record_back : (p : SettingsValue) (log whole : List Record) (c : CarrierValue) (line : PacketLine) → KeepsLog p whole c
    → put_record c (ack_of (packet_along (frame_ways p log) line)) ≡ packet_record (ack_line (packet_count whole) line.frame)
record_back p log whole c line keeps = ap (λ n. packet_record (ack_line n line.frame)) keeps.boxes.net.made
