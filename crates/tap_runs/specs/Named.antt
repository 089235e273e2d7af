-- Steps whose names are names of the settings.
--
-- Rule: docs/FORMATS.md, "The course of a run".
use Rattle.std.specs.Prelude.{false, All, List}
use Rattle.tap_name.specs.Settings.{SettingsValue}
use Rattle.tap_scenario.specs.Step.{IsStep}
use Rattle.tap_scenario.specs.declared.step.Step.{Step}
use Rattle.tap_scenario.specs.declared.step.Step.TheVariants.{Deliver, Settle, SettleNewest, SettleMixed, Garble, Cut, Tick, Lose, Repeat, RootSet}
use Rattle.tap_log.specs.declared.record.Record.{Record}
use Rattle.tap_log.specs.Log.{begun_steps}

-- A step that starts something or observes is one of a scenario with these settings. Of choices and of damaged copies nothing is asked.
abbrev pub HasNames : SettingsValue → Step → Type 0
HasNames p (Deliver place) = Unit {0}
HasNames p Settle = Unit {0}
HasNames p SettleNewest = Unit {0}
HasNames p (SettleMixed seed) = Unit {0}
HasNames p (Garble place at byte) = Unit {0}
HasNames p (Cut place bytes) = Unit {0}
HasNames p Tick = Unit {0}
HasNames p (Lose place) = Unit {0}
HasNames p (Repeat place) = Unit {0}
HasNames p (RootSet object asker) = Unit {0}
HasNames p other = IsStep p false other

-- so are the steps of these records
abbrev pub HaveNames : SettingsValue → List Record → Type 0
HaveNames p records = All (HasNames p) (begun_steps records)
