-- The packets that are under way.
use Rattle.std.specs.Prelude.{ℕ, ◌==◌, ◌+◌, ◌<◌, nat_eq, not, List, [], ◌∷◌, ◌++◌, filter, find, All, AllPairs, Option}
use Rattle.std.specs.List.{remove}
use Rattle.std.specs.Option.{option_map}
use Rattle.tap_carry.specs.declared.net.Packet.{Packet}
use Rattle.tap_carry.specs.declared.net.Numbered.{Numbered}

-- how many packets were put, and those under way in the order of their numbers
pub record NetValue : Type 0 where
  pub made : ℕ
  pub packets : List Numbered

-- how many packets may be put
abbrev pub most_packets : ℕ
most_packets = 4000000000

abbrev pub numbered : ℕ → Packet → Numbered
numbered number packet = record { number = number; packet = packet }

-- one more packet is put
abbrev pub put_with : NetValue → Packet → NetValue
put_with net packet = record {
  made = net.made + 1;
  packets = net.packets ++ numbered net.made packet ∷ [];
}

-- the packet at this place is taken, if there is one
abbrev pub taken_at : NetValue → ℕ → NetValue
taken_at net place = record net { packets = remove net.packets place }

-- the packet of this number, if it is under way
abbrev pub packet_of : List Numbered → ℕ → Option Packet
packet_of packets number = option_map (λ p. p.packet) (find (λ p. number == p.number) packets)

-- the packets without the one of this number
abbrev pub packets_less : List Numbered → ℕ → List Numbered
packets_less packets number = filter (λ p. not (nat_eq number p.number)) packets

-- the numbers ascend, and each was given
pub record AreUnderWay (net : NetValue) : Type 0 where
  pub ascending : AllPairs (λ a b. a.number < b.number) net.packets
  pub given : All (λ p. p.number < net.made) net.packets
