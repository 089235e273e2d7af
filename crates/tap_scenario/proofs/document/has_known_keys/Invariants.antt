use Rattle.std.proofs.Common.{◌≡◌, string_bytes}
use Rattle.std.specs.List.{list_all}
use Rattle.toml.specs.View.{table_view}
use Rattle.tap_scenario.specs.Key.{is_known, has_known_keys}
use Rattle.tap_scenario.proofs.document.has_known_keys.Given as goal

abbrev pub invariant-loop-key : goal.invariant-loop-key
invariant-loop-key l = list_all (λ key. is_known (string_bytes key)) l.key-iterator ≡ has_known_keys (table_view l.table)
