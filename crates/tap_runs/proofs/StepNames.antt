-- Steps of a scenario have names of its settings, and so do damaged copies and choices.
-- Cited above: choice_has_names, step_has_names, step_of_scenario_has_names
use Rattle.std.proofs.Common.{◌≡◌, ◌++◌, Bool, false, true, List, sym, subst}
use Rattle.std.specs.Prelude.{All}
use Rattle.std.proofs.lemmas.List.Elements.{All-append, filter_map-append}
use Rattle.tap_name.specs.Settings.{SettingsValue}
use Rattle.tap_scenario.specs.Step.{IsStep}
use Rattle.tap_scenario.specs.declared.step.Step.{Step}
use Rattle.tap_scenario.specs.declared.step.Step.TheVariants.{Deliver, Settle, SettleNewest, SettleMixed, Garble, Cut, Tick, Lose, Repeat, RootSet}
use Rattle.tap_log.specs.declared.record.Record.{Record}
use Rattle.tap_log.specs.Kinds.{step_of}
use Rattle.tap_log.specs.Log.{begun_steps}
use Rattle.tap_runs.specs.Course.{is_choice}
use Rattle.tap_runs.specs.Named.{HasNames, HaveNames}

-- a step of a scenario that is carried or not
pub step_of_scenario_has_names : (p : SettingsValue) (carrier : Bool) (step : Step) → IsStep p carrier step → HasNames p step
step_of_scenario_has_names p carrier (Deliver place) is = tt
step_of_scenario_has_names p carrier Settle is = tt
step_of_scenario_has_names p carrier SettleNewest is = tt
step_of_scenario_has_names p carrier (SettleMixed seed) is = tt
step_of_scenario_has_names p carrier (Garble place at byte) is = tt
step_of_scenario_has_names p carrier (Cut place bytes) is = tt
step_of_scenario_has_names p carrier Tick is = tt
step_of_scenario_has_names p carrier (Lose place) is = tt
step_of_scenario_has_names p carrier (Repeat place) is = tt
step_of_scenario_has_names p carrier (RootSet object asker) is = tt
step_of_scenario_has_names p carrier other is = is

-- one of a scenario that isn't carried
pub step_has_names : (p : SettingsValue) (step : Step) → IsStep p false step → HasNames p step
step_has_names p step is = step_of_scenario_has_names p false step is

-- a choice
pub choice_has_names : (p : SettingsValue) (step : Step) → is_choice step ≡ true → HasNames p step
unfolding is_choice
choice_has_names p (Deliver place) is = tt
choice_has_names p Settle is = tt
choice_has_names p SettleNewest is = tt
choice_has_names p (SettleMixed seed) is = tt
choice_has_names p Tick is = tt
choice_has_names p (Lose place) is = tt
choice_has_names p (Repeat place) is = tt
choice_has_names p (RootSet object asker) is = tt
choice_has_names p other is = absurd (cc)

-- the steps of records and of those that follow them
pub more_names : (p : SettingsValue) (log more : List Record) → HaveNames p log → HaveNames p more → HaveNames p (log ++ more)
more_names p log more names others =
    subst (All (HasNames p)) (sym (filter_map-append step_of log more))
    (All-append (HasNames p) (begun_steps log) (begun_steps more) names others)
