use Rattle.std.proofs.Common.{◌≡◌, ◌++◌}
use Rattle.tap_table.proofs.Stepping.{in_ranges}
use Rattle.tap_multicast.specs.Slots.{told_in}
use Rattle.tap_multicast.specs.Targets.{targets}
use Rattle.tap_multicast.proofs.targets.targets.Given as goal

abbrev pub invariant-loop-i : goal.invariant-loop-i
invariant-loop-i l =
    l.targets.items ++ in_ranges (told_in l.table l.cover) l.table.settings l.table.owner l.i ≡ targets l.table l.cover
