use Rattle.std.proofs.Common.{◌≡◌, ◌++◌, drop}
use Rattle.tap_multicast.specs.Offer.{offered_as, offers}
use Rattle.tap_multicast.proofs.Picked.{picked}
use Rattle.tap_multicast.proofs.offer.push_slot.Given as goal

abbrev pub invariant-loop-at : goal.invariant-loop-at
invariant-loop-at l =
    l.offer.items ++ picked offered_as (offers l.joiner l.answered l.primary) (drop l.at l.set.links)
    ≡ l.fn.offer.items ++ picked offered_as (offers l.joiner l.answered l.primary) l.set.links
