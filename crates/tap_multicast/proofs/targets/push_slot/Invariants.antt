use Rattle.std.proofs.Common.{◌≡◌, ◌+◌, ◌++◌, drop}
use Rattle.tap_link.specs.LinkSet.{least_settled}
use Rattle.tap_multicast.specs.Slots.{target_at, told_among}
use Rattle.tap_multicast.specs.Targets.{tells}
use Rattle.tap_multicast.proofs.Picked.{picked}
use Rattle.tap_multicast.proofs.targets.push_slot.Given as goal

abbrev pub invariant-loop-at : goal.invariant-loop-at
invariant-loop-at l =
    l.targets.items
    ++ picked (target_at (l.level + 1)) (tells l.cover l.level (least_settled l.set.links)) (drop l.at l.set.links)
    ≡ l.fn.targets.items ++ told_among l.cover l.level l.set.links
