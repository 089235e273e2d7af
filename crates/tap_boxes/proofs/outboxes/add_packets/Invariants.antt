use Rattle.std.proofs.Common.{◌≡◌, ◌+◌, ◌-◌, ◌≤◌, ◌++◌, length, map, take, vec_len, vec_capacity}
use Rattle.tap_packets.specs.Matching.{data_packet_of}
use Rattle.tap_boxes.proofs.outboxes.add_packets.Given as goal

abbrev pub invariant-loop-item : goal.invariant-loop-item
invariant-loop-item l =
    (l.packets.items ≡ l.initial.packets.items ++ map (data_packet_of l.name) (take l.item-index l.list))
    × (vec_len l.packets + (length l.list - l.item-index) ≤ vec_capacity l.packets)
