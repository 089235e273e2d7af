use Rattle.tap_surrogate.proofs.Nearest.{IsNearestSeen}
use Rattle.tap_surrogate.proofs.root.root_of.Given as goal

abbrev pub invariant-loop-name : goal.invariant-loop-name
invariant-loop-name l = IsNearestSeen l.settings l.object l.names l.initial.nearest l.others l.name-index l.nearest
