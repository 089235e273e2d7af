use Rattle.std.proofs.Common.{◌≡◌}
use Rattle.tap_depart.specs.Replacement.{first_above, least_above}
use Rattle.tap_table.proofs.LinksByName.{links_from}
use Rattle.tap_depart.proofs.replacement.least_above.Given as goal

abbrev pub invariant-loop-i : goal.invariant-loop-i
invariant-loop-i l = first_above l.table.owner l.level (links_from l.table l.i) ≡ least_above l.table l.level
