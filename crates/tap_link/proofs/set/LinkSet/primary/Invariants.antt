use Rattle.std.proofs.Common.{◌≡◌, drop}
use Rattle.tap_link.specs.LinkSet.{least_settled}
use Rattle.tap_link.proofs.set.LinkSet.primary.Given as goal

abbrev pub invariant-loop-at : goal.invariant-loop-at
invariant-loop-at g l = least_settled l.self-inside.places ≡ least_settled (drop l.at l.self-inside.places)
