use Rattle.tap_outstanding.proofs.Searching.{IsSpot}
use Rattle.tap_outstanding.proofs.levels.find.Given as goal

abbrev pub invariant-loop-height : goal.invariant-loop-height
invariant-loop-height l = IsSpot l.marks l.sums l.place l.height l.spot.at l.spot.left
