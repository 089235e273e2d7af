use Rattle.std.proofs.Common.{ℕ, ◌<◌, get_or, length}
use Rattle.tap_name.specs.declared.slot.Slot.{Slot}
use Rattle.tap_multicast.specs.Covers.{MayWatch}
use Rattle.tap_test_parts.proofs.multicast.may_watch.Given as goal

abbrev pub invariant-loop-slot : goal.invariant-loop-slot
invariant-loop-slot l = (k : ℕ) (d : Slot) → k < l.slot-index → k < length l.slot-items → MayWatch l.base l.prefix (get_or l.slot-items k d)
