use Rattle.std.proofs.Common.{◌≡◌, drop}
use Rattle.toml.specs.View.{items_view}
use Rattle.tap_scenario.specs.Value.{names_of_texts, texts_of}
use Rattle.tap_scenario.proofs.Arrays.{names_before}
use Rattle.tap_scenario.proofs.document.read_names.Given as goal

abbrev pub invariant-loop-value : goal.invariant-loop-value
invariant-loop-value l =
    names_before l.names.items (names_of_texts l.settings (texts_of (items_view (drop l.value-index l.strings))))
    ≡ names_of_texts l.settings (texts_of (items_view l.strings))
