use Rattle.std.proofs.Common.{◌≡◌, ◌+◌, ◌≤◌, ◌++◌, length, drop, vec_len, vec_capacity}
use Rattle.tap_carry.specs.OutboxKept.{awaits_of}
use Rattle.tap_carry.proofs.outbox.Outbox.gather.Given as goal

abbrev pub invariant-loop-item : goal.invariant-loop-item
invariant-loop-item l =
    (l.list.items ++ awaits_of (drop l.item-index l.item-items) l.self-inside.ways.keys ≡ l.initial.list.items ++ l.self.awaits) ×
    (vec_len l.list + length (awaits_of (drop l.item-index l.item-items) l.self-inside.ways.keys) ≤ vec_capacity l.list)
