use Rattle.std.proofs.Common.{◌≡◌, ◌++◌}
use Rattle.tap_cast.specs.Targets.{cast_targets, targets_between}
use Rattle.tap_table.proofs.Stepping.{in_ranges}
use Rattle.tap_cast.proofs.targets.cast_targets.Given as goal

abbrev pub invariant-loop-i : goal.invariant-loop-i
invariant-loop-i l =
    l.targets.items ++ in_ranges (targets_between l.table l.from l.to) l.table.settings l.table.owner l.i
    ≡ cast_targets l.table l.from l.to
