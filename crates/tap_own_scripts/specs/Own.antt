-- The scenario that a log tells of itself: with what it begins, and the steps that it has begun.
--
-- Rule: docs/FORMATS.md, "What comes next" and "The ways a run ends".
use Rattle.std.specs.Prelude.{Bool, true, false, List, [], ◌∷◌}
use Rattle.std.specs.List.{take_while}
use Rattle.tap_scenario.specs.Scenario.{ScenarioValue}
use Rattle.tap_scenario.specs.declared.step.Step.{Step}
use Rattle.tap_log.specs.declared.record.Record.{Record}
use Rattle.tap_log.specs.declared.record.Record.TheVariants.{Begin, Finished}
use Rattle.tap_log.specs.Kinds.{is_carried}
use Rattle.tap_log.specs.Log.{begun_steps}

-- the record doesn't say that all steps were run
unfoldable pub goes_on : Record → Bool
goes_on (Finished steps) = false
goes_on other = true

-- the steps that are begun before the first `Finished`
abbrev pub own_steps : List Record → List Step
own_steps items = begun_steps (take_while goes_on items)

-- the scenario of nothing
abbrev pub no_script : ScenarioValue
no_script =
    record { settings = record { base = 0; digits = 0; width = 0 }; frames = 0; carrier = false; members = []; steps = [] }

-- The scenario of a log: what its first record says, whether `Carrier` is the second one, and its own steps.
unfoldable pub own_script : List Record → ScenarioValue
own_script (Begin settings frames members ∷ items) = record {
  settings = settings;
  frames = frames;
  carrier = is_carried (Begin settings frames members ∷ items);
  members = members;
  steps = own_steps items;
}
own_script other = no_script
