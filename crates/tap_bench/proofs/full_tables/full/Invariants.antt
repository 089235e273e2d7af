use Rattle.std.proofs.Common.{◌≡◌}
use Rattle.tap_bench.specs.Settings.{measured}
use Rattle.tap_bench.proofs.full_tables.full.Given as goal

abbrev pub invariant-loop-number : goal.invariant-loop-number
invariant-loop-number l = l.table.settings ≡ measured
