use Rattle.std.proofs.Common.{◌≡◌, ℕ, List, ◌++◌, map}
use Rattle.std.specs.List.{flat_map}
use Rattle.tap_carry.specs.Outbox.{OutboxValue}
use Rattle.tap_packets.specs.Matching.{data_packet_of}
use Rattle.tap_boxes.specs.Boxes.{packets_kept}
use Rattle.tap_boxes.proofs.outboxes.Outboxes.gather.Given as goal

abbrev pub invariant-loop-name : goal.invariant-loop-name
invariant-loop-name l =
    l.packets.items ++ flat_map (λ (entry : List ℕ × OutboxValue). map (data_packet_of entry.0) entry.1.awaits) l.name-iterator
    ≡ packets_kept l.self
