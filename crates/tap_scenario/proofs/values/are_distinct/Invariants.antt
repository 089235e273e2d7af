use Rattle.std.proofs.Common.{◌≡◌, drop}
use Rattle.tap_name.specs.Names.{are_distinct}
use Rattle.tap_scenario.proofs.values.are_distinct.Given as goal

abbrev pub invariant-loop-i : goal.invariant-loop-i
invariant-loop-i l = are_distinct (drop l.i l.names) ≡ are_distinct l.names
