-- Boxes in which nothing is yet are what the beginning of a log says.
-- Cited above: inboxes-begin, net-begins, outboxes-begin
use Rattle.std.proofs.Common.{◌≡◌, ℕ, zero, suc, Bool, true, false, List, refl, ap, ◌∙◌, arith}
use Rattle.std.specs.Prelude.{nat_le, ◌&&◌, ◌||◌}
use Rattle.std.proofs.lemmas.Bool.{lt-leb}
use Rattle.tap_name.specs.Settings.{SettingsValue}
use Rattle.tap_log.specs.Kinds.{sent_number, taken_number, arrived_number, ended_number, packet_number}
use Rattle.tap_history.specs.Moments.{acknowledged_by}
use Rattle.tap_carry.specs.Outbox.{OutboxValue, last_to}
use Rattle.tap_carry.specs.Arrivals.{no_arrivals}
use Rattle.tap_carry.specs.Inbox.{InboxValue, has_arrived}
use Rattle.tap_packets.specs.Matching.{Outboxes, no_frames, OutboxesMatch, Inboxes, InboxesMatch, NetMatches, no_packets}
use Rattle.tap_packets.specs.PacketLaws.{carried_beginning}
use Rattle.tap_packets.specs.Packets.{made_packet}
use Rattle.tap_packets.specs.Sequence.{sent_way}

pub outboxes-begin : (settings : SettingsValue) (frames : ℕ) (members : List (List ℕ)) (boxes : Outboxes)
    → ((name : List ℕ) → boxes name ≡ no_frames) → OutboxesMatch settings (carried_beginning settings frames members) boxes
unfolding sent_number sent_way arrived_number acknowledged_by
outboxes-begin settings frames members boxes none = record {
  awaits = λ name. ap (λ (o : OutboxValue). o.awaits) (none name);
  last = λ name to. ap (λ (o : OutboxValue). last_to o to) (none name);
  above = λ name frame low own. absurd (omega (arith, low));
  most = λ name. let is : (boxes name).next ≡ 0 = ap (λ (o : OutboxValue). o.next) (none name) in omega (arith, is);
}

none-there : (a b : Bool) → b ≡ false → ((a && b) || false) ≡ false
none-there true true gone = gone
none-there true false gone = refl
none-there false b gone = refl

-- no number from 1 on has arrived
nothing : (seq : ℕ) → ((nat_le 1 seq && nat_le seq 0) || false) ≡ false
nothing zero = refl
nothing (suc k) = none-there (nat_le 1 (suc k)) (nat_le (suc k) 0) (lt-leb (suc k) 0 (omega arith))

pub inboxes-begin : (settings : SettingsValue) (frames : ℕ) (members : List (List ℕ)) (boxes : Inboxes)
    → ((name : List ℕ) → boxes name ≡ no_arrivals) → InboxesMatch settings (carried_beginning settings frames members) boxes
unfolding taken_number sent_way
inboxes-begin settings frames members boxes none = record {
  arrived = λ name from seq. ap (λ (b : InboxValue). has_arrived b from seq) (none name) ∙ nothing seq;
}

pub net-begins : (settings : SettingsValue) (frames : ℕ) (members : List (List ℕ))
    → NetMatches settings (carried_beginning settings frames members) no_packets
unfolding packet_number made_packet ended_number
net-begins settings frames members = record { made = refl; packets = refl }
