-- What a log keeps of its packets, by recursion on its lists.
-- Cited above: among_from
use Rattle.std.proofs.Common.{◌≡◌, ℕ, zero, suc, ◌<◌, true, List, [], ◌∷◌, length, refl, ap, sym, ◌∙◌, arith, subst, inl, inr, ◌⊎◌}
use Rattle.std.specs.Prelude.{Contains}
use Rattle.std.specs.List.{filter_map, range_with_len, AllByRecursion}
use Rattle.std.proofs.lemmas.List.{length-map}
use Rattle.std.proofs.lemmas.List.Elements.{All-from_recursion, recursion_from_All}
use Rattle.tap_log.specs.declared.record.Record.{Record}
use Rattle.tap_log.specs.declared.record.Record.TheVariants.{Packet}
use Rattle.tap_log.specs.Kinds.{packet_number, packet_frame}
use Rattle.tap_log.specs.Counts.{sent_count, packet_count}
use Rattle.tap_history.specs.Moments.{has_number}
use Rattle.tap_packets.specs.MayCome.{KeepsPackets}
use Rattle.tap_packets.specs.Packets.{frames_sent, frames_taken, PacketLine, made_packet, packet_lines, packets_ended, line_numbers, line_frames}
use Rattle.tap_packets.proofs.NumbersInRows.{AreFrom, AreBelow, AreDistinct, from_range, range_of, distinct_of, pairs_of}

-- as many packets were made as there are lines of them
pub count_is : (log : List Record) → packet_count log ≡ length (packet_lines log)
unfolding packet_number made_packet
count_is [] = refl
count_is (Packet number frame ack ∷ log) = let rest = count_is log in omega (arith, rest)
count_is (item ∷ log) = count_is log

-- the lines have the numbers and the frames of the records
pub numbers_same : (log : List Record) → filter_map packet_number log ≡ line_numbers (packet_lines log)
unfolding packet_number made_packet
numbers_same [] = refl
numbers_same (Packet number frame ack ∷ log) = ap (λ l. number ∷ l) (numbers_same log)
numbers_same (item ∷ log) = numbers_same log

frames_same : (log : List Record) → filter_map packet_frame log ≡ line_frames (packet_lines log)
unfolding packet_frame made_packet
frames_same [] = refl
frames_same (Packet number frame ack ∷ log) = ap (λ l. frame ∷ l) (frames_same log)
frames_same (item ∷ log) = frames_same log

-- logs with the same packets have made as many
pub same_count : (log other : List Record) → packet_lines log ≡ packet_lines other → packet_count log ≡ packet_count other
same_count log other same = count_is log ∙ ap length same ∙ sym (count_is other)

-- one of these packets
abbrev pub AmongLines : PacketLine → List PacketLine → Type 0
AmongLines line [] = ⊥
AmongLines line (other ∷ others) = (line ≡ other) ⊎ AmongLines line others

pub among_from : (lines : List PacketLine) (line : PacketLine) → Contains lines line → AmongLines line lines
among_from [] line (k, within, is) = absurd (omega arith)
among_from (other ∷ lines) line (zero, within, is) = inl (sym is)
among_from (other ∷ lines) line (suc k, within, is) =
    inr (among_from lines line (k, (let less : k < length lines = omega arith in less), is))

-- each of these that acknowledges a frame acknowledges one of the frames
abbrev pub AcknowledgeOnly : List ℕ → List PacketLine → Type 0
AcknowledgeOnly frames lines = AllByRecursion (λ line. line.ack ≡ true → has_number frames line.frame ≡ true) lines

-- what a log keeps of its packets, as its lists say it one element after the other
pub record Keeps (log : List Record) : Type 0 where
  pub numbered : AreFrom 0 (frames_sent log)
  pub made : AreFrom 0 (line_numbers (packet_lines log))
  pub ended : AreBelow (packet_count log) (packets_ended log)
  pub frames : AreBelow (sent_count log) (line_frames (packet_lines log))
  pub taken : AreBelow (sent_count log) (frames_taken log)
  pub once : AreDistinct (frames_taken log)
  pub acks : AcknowledgeOnly (frames_taken log) (packet_lines log)

pub keeps_from : (log : List Record) → KeepsPackets log → Keeps log
keeps_from log kept =
    let n = sent_count log in
    let frames = line_frames (packet_lines log) in
    record {
      numbered = from_range 0 n (frames_sent log) kept.sent;
      made = from_range 0 (packet_count log) (line_numbers (packet_lines log)) (sym (numbers_same log) ∙ kept.packets.made);
      ended = recursion_from_All (λ number. number < packet_count log) (packets_ended log) kept.packets.ended;
      frames = subst (AreBelow n) (frames_same log)
          (recursion_from_All (λ number. number < n) (filter_map packet_frame log) kept.packets.frames);
      taken = recursion_from_All (λ number. number < n) (frames_taken log) kept.taken;
      once = distinct_of (frames_taken log) kept.once;
      acks = recursion_from_All (λ (line : PacketLine). line.ack ≡ true → has_number (frames_taken log) line.frame ≡ true)
          (packet_lines log)
          kept.acks;
    }

pub from_keeps : (log : List Record) → Keeps log → KeepsPackets log
from_keeps log kept =
    let n = sent_count log in
    let size : length (line_numbers (packet_lines log)) ≡ packet_count log =
    length-map (packet_lines log) (λ (line : PacketLine). line.number) ∙ sym (count_is log) in
    record {
      sent = range_of 0 (frames_sent log) kept.numbered;
      packets = record {
        made = numbers_same log ∙ range_of 0 (line_numbers (packet_lines log)) kept.made ∙ ap (range_with_len 0) size;
        ended = All-from_recursion (λ number. number < packet_count log) (packets_ended log) kept.ended;
        frames = All-from_recursion (λ number. number < n) (filter_map packet_frame log)
            (subst (AreBelow n) (sym (frames_same log)) kept.frames);
      };
      taken = All-from_recursion (λ number. number < n) (frames_taken log) kept.taken;
      once = pairs_of (frames_taken log) kept.once;
      acks = All-from_recursion (λ (line : PacketLine). line.ack ≡ true → has_number (frames_taken log) line.frame ≡ true)
          (packet_lines log)
          kept.acks;
    }

-- what some more records number on
pub record GoesOn (log group : List Record) : Type 0 where
  pub sent : AreFrom (sent_count log) (frames_sent group)
  pub made : AreFrom (packet_count log) (line_numbers (packet_lines group))
  pub ended : AreBelow (packet_count log) (packets_ended group)
