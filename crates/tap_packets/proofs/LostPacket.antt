-- The example comes out.
use Rattle.std.proofs.Common.{◌≡◌, ℕ, List, [], ◌∷◌, refl}
use Rattle.tap_name.specs.Settings.{SettingsValue}
use Rattle.tap_log.specs.Kinds.{arrived_number, ended_number, packet_number, sent_number, taken_number}
use Rattle.tap_history.specs.Moments.{acknowledged_by, awaiting, outstanding, under_way}
use Rattle.tap_packets.specs.Packets.{made_packet}
use Rattle.tap_packets.specs.Groups.{log_after}
use Rattle.tap_packets.specs.PacketLaws.{carried_beginning}
use Rattle.tap_packets.specs.Example.{AnExample, lost_packet_groups, lost_packet_log, lost_packet_moves, member_name}

log_is : (settings : SettingsValue) (frames : ℕ) (bytes : ℕ → List ℕ)
    → log_after (carried_beginning settings frames (member_name ∷ [])) (lost_packet_moves bytes) ≡ lost_packet_log settings frames bytes
unfolding sent_number taken_number packet_number arrived_number ended_number made_packet acknowledged_by lost_packet_moves lost_packet_groups
log_is settings frames bytes = refl

none_outstanding : (settings : SettingsValue) (frames : ℕ) (bytes : ℕ → List ℕ) → outstanding (lost_packet_log settings frames bytes) ≡ []
unfolding sent_number taken_number lost_packet_groups
none_outstanding settings frames bytes = refl

none_under_way : (settings : SettingsValue) (frames : ℕ) (bytes : ℕ → List ℕ) → under_way (lost_packet_log settings frames bytes) ≡ []
unfolding packet_number ended_number lost_packet_groups
none_under_way settings frames bytes = refl

none_awaiting : (settings : SettingsValue) (frames : ℕ) (bytes : ℕ → List ℕ) → awaiting (lost_packet_log settings frames bytes) ≡ []
unfolding sent_number arrived_number acknowledged_by lost_packet_groups
none_awaiting settings frames bytes = refl

pub an_example_holds : AnExample
an_example_holds = record {
  log = log_is;
  outstanding = none_outstanding;
  under_way = none_under_way;
  awaiting = none_awaiting;
}
