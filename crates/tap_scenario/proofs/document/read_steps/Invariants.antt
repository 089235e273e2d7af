use Rattle.std.proofs.Common.{◌≡◌, ◌≤◌, ◌+◌, [], drop, length}
use Rattle.toml.specs.View.{items_view}
use Rattle.tap_scenario.specs.Document.{steps_from}
use Rattle.tap_scenario.specs.Scenario.{most_steps}
use Rattle.tap_scenario.specs.Value.{texts_of}
use Rattle.tap_scenario.proofs.document.read_steps.Given as goal

abbrev pub invariant-loop-at : goal.invariant-loop-at
invariant-loop-at l = record {
  few : length l.steps.items ≤ most_steps;
  steps : steps_from l.settings l.carrier (l.at + 1) l.steps.items (texts_of (items_view (drop l.at l.strings)))
      ≡ steps_from l.settings l.carrier 1 [] (texts_of (items_view l.strings));
}
