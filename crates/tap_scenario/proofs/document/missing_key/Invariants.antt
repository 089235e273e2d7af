use Rattle.std.proofs.Common.{◌≡◌, drop}
use Rattle.std.specs.List.{find}
use Rattle.std.specs.Option.{is_none}
use Rattle.toml.specs.View.{table_view}
use Rattle.tap_scenario.specs.Key.{value_at, needed_keys, missing_key}
use Rattle.tap_scenario.proofs.document.missing_key.Given as goal

abbrev pub invariant-loop-key : goal.invariant-loop-key
invariant-loop-key l = find (λ key. is_none (value_at key (table_view l.table))) (drop l.key-index needed_keys)
    ≡ missing_key (table_view l.table)
