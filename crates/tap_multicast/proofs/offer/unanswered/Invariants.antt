use Rattle.std.proofs.Common.{◌≡◌, take}
use Rattle.tap_multicast.specs.Offer.{unanswered}
use Rattle.tap_multicast.proofs.offer.unanswered.Given as goal

abbrev pub invariant-loop-slot : goal.invariant-loop-slot
invariant-loop-slot l = l.left.items ≡ unanswered l.table l.cover.joiner (take l.slot-index l.slot-items)
