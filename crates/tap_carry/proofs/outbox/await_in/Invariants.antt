use Rattle.std.proofs.Common.{◌≡◌, ◌<◌, length, drop, slice_get}
use Rattle.tap_carry.specs.OutboxKept.{awaits_of}
use Rattle.tap_carry.proofs.outbox.await_in.Given as goal

abbrev pub invariant-loop-item : goal.invariant-loop-item
invariant-loop-item l =
    (slice_get (awaits_of (drop l.item-index l.sent) l.ways.keys) l.left ≡ slice_get (awaits_of l.sent l.ways.keys) l.i) ×
    (l.left < length (awaits_of (drop l.item-index l.sent) l.ways.keys))
