-- Whoever departs is gone at the next rest, in the words of a log.
--
-- Rule: docs/FORMATS.md, "The course of a run".
use Rattle.std.specs.Prelude.{◌≡◌, ℕ, Bool, false, true, List, [], ◌∷◌, ◌++◌}
use Rattle.tap_name.specs.Names.{has_name}
use Rattle.tap_name.specs.Settings.{SettingsValue}
use Rattle.tap_scenario.specs.declared.step.Step.TheVariants.{Depart}
use Rattle.tap_log.specs.declared.record.Record.{Record}
use Rattle.tap_log.specs.declared.record.Record.TheVariants.{Refused, Spent, Step as StepRecord}
use Rattle.tap_history.specs.Core.{gone_of}
use Rattle.tap_history.specs.Moments.{is_rest}

-- A step after which these records stand took effect: there is a next record, which neither refuses the step nor says that it would send more
-- frames than may be sent. That is so of each step that is accepted, and also of one after which the next group begins at once.
unfoldable pub took_effect : List Record → Bool
took_effect [] = false
took_effect (Refused index refusal ∷ items) = false
took_effect (Spent limit ∷ items) = false
took_effect other = true

-- the log has a step by which this node departs, which took effect, and then come these records
pub record HasDeparture (log : List Record) (name : List ℕ) (after : List Record) : Type 0 where
  pub before : List Record
  pub index : ℕ
  pub is : log ≡ before ++ StepRecord index (Depart name) ∷ after
  pub effect : took_effect after ≡ true

-- at rest each node that departed is gone: its `Gone` stands after the step
abbrev pub LeaversAreGone : SettingsValue → List Record → Type 0
LeaversAreGone p log = is_rest log ≡ true
    → (name : List ℕ) (after : List Record) → HasDeparture log name after → has_name (gone_of after) name ≡ true
