use Rattle.std.proofs.Common.{◌≡◌, drop}
use Rattle.tap_wire.proofs.Links.{name_cmp}
use Rattle.tap_wire.proofs.lists.is_before.Given as goal

abbrev pub invariant-loop-at : goal.invariant-loop-at
invariant-loop-at l = name_cmp (drop l.at l.one) (drop l.at l.other) ≡ name_cmp l.one l.other
