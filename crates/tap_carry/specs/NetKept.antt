-- What a net keeps: the numbers that are under way in their order, each with the key of its packet, and the packets by their keys.
use Rattle.std.specs.Prelude.{◌≡◌, ◌≢◌, ℕ, ◌+◌, ◌<◌, ◌≤◌, false, List, [], map, length, All, AllPairs, unwrap_or, IsSome}
use Rattle.slab.specs.Slab.{Slab, get, slab_len}
use Rattle.tap_outstanding.specs.Outstanding.{OutstandingValue}
use Rattle.tap_outstanding.specs.declared.outstanding.Flight.{Flight}
use Rattle.tap_carry.specs.declared.net.Packet.{Packet}
use Rattle.tap_carry.specs.declared.net.Numbered.{Numbered}
use Rattle.tap_carry.specs.Net.{most_packets, numbered}

abbrev pub no_packet : Packet
no_packet = record { from = []; to = []; seq = 0; frame = 0; ack = false }

-- the packet that is kept under a key
abbrev pub packet_at : Slab Packet → ℕ → Packet
packet_at packets key = unwrap_or (get packets key) no_packet

-- the packets of these numbers, which are counted after those that have ended
abbrev pub packets_of : ℕ → Slab Packet → List Flight → List Numbered
packets_of ended packets flights = map (λ f. numbered (ended + f.number) (packet_at packets f.record_place)) flights

-- the keys of the packets are others
abbrev pub KeysApart : Flight → Flight → Type 0
KeysApart a b = a.record_place ≢ b.record_place

-- A packet is kept for each number that is under way, for each under a key of its own, and no more packets are kept. Each number was
-- given, after those that have ended. There are places for so many more.
pub record IsNet (ended : ℕ) (places : OutstandingValue) (packets : Slab Packet) (room : ℕ) : Type 0 where
  pub kept : All (λ f. IsSome (get packets f.record_place)) places.frames
  pub apart : AllPairs KeysApart places.frames
  pub given : All (λ f. f.number < places.sent) places.frames
  pub few : slab_len packets ≡ length places.frames
  pub spare : room ≤ places.room
  pub most : ended + places.sent ≤ most_packets
