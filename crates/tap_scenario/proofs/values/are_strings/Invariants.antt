use Rattle.std.proofs.Common.{◌≡◌, drop}
use Rattle.toml.specs.View.{items_view}
use Rattle.tap_scenario.specs.Value.{are_strings}
use Rattle.tap_scenario.proofs.values.are_strings.Given as goal

abbrev pub invariant-loop-value : goal.invariant-loop-value
invariant-loop-value l = are_strings (items_view (drop l.value-index l.values)) ≡ are_strings (items_view l.values)
