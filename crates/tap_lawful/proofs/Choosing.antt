-- What the last step has chosen, after one more group.
-- Cited above: chosen_by_frame, chosen_by_step
use Rattle.std.proofs.Common.{◌≡◌, ℕ, ◌+◌, false, List, [], ◌∷◌, ◌++◌, All, Some, refl, ap, ◌∙◌}
use Rattle.std.specs.Prelude.{fold}
use Rattle.std.proofs.lemmas.List.Elements.{All-head, All-tail}
use Rattle.std.proofs.lemmas.List.Sums.{fold-append}
use Rattle.tap_name.specs.Settings.{SettingsValue}
use Rattle.tap_scenario.specs.declared.step.Step.{Step}
use Rattle.tap_log.specs.declared.record.Record.{Record}
use Rattle.tap_log.specs.declared.record.Record.TheVariants.{Step as StepRecord, Taken}
use Rattle.tap_log.specs.Kinds.{begins_group}
use Rattle.tap_runs.specs.Course.{MayFollow, system_of}
use Rattle.tap_runs.proofs.Within.{Within, step_within, taken_within}
use Rattle.tap_lawful.specs.Due.{Chosen, chosen_after, chosen_in, nothing_chosen}
use Rattle.tap_runs.specs.Groups.{step_group, taken_group}

-- a record within a group chooses nothing
within_same : (chosen : Chosen) (item : Record) → begins_group false item ≡ false → chosen_after chosen item ≡ chosen
unfolding begins_group chosen_after
within_same chosen (StepRecord index step) is = absurd (cc)
within_same chosen (Taken number) is = absurd (cc)
within_same chosen item is = refl

all_same : (chosen : Chosen) (items : List Record) → All Within items → fold chosen_after chosen items ≡ chosen
all_same chosen [] all = refl
all_same chosen (item ∷ items) all =
    ap (λ c. fold chosen_after c items) (within_same chosen item (All-head Within item items all).0)
    ∙ all_same chosen items (All-tail Within item items all)

-- after a group that begins with this record
after_first : (log : List Record) (first : Record) (items : List Record) → All Within items
    → chosen_in (log ++ first ∷ items) ≡ chosen_after (chosen_in log) first
after_first log first items all =
    fold-append chosen_after nothing_chosen log (first ∷ items) ∙ all_same (chosen_after (chosen_in log) first) items all

by_step : (chosen : Chosen) (index : ℕ) (step : Step) → chosen_after chosen (StepRecord index step) ≡ record { step = Some step; taken = 0 }
unfolding chosen_after
by_step chosen index step = refl

by_taken : (chosen : Chosen) (number : ℕ) → chosen_after chosen (Taken number) ≡ record { step = chosen.step; taken = chosen.taken + 1 }
unfolding chosen_after
by_taken chosen number = refl

module _ (p : SettingsValue) (log : List Record) where
  -- a step that has begun is the last one
  pub chosen_by_step : (index : ℕ) (step : Step) → MayFollow p log (system_of log) (step_group p log index step)
      → chosen_in (log ++ step_group p log index step) ≡ record { step = Some step; taken = 0 }
  unfolding MayFollow
  chosen_by_step index step may =
      after_first log (StepRecord index step) _ (step_within p log (system_of log) index step _ may) ∙ by_step (chosen_in log) index step

  -- one more frame is taken
  pub chosen_by_frame : (number : ℕ) → MayFollow p log (system_of log) (taken_group p log number)
      → chosen_in (log ++ taken_group p log number)
      ≡ record { step = (chosen_in log).step; taken = (chosen_in log).taken + 1 }
  unfolding MayFollow
  chosen_by_frame number may =
      after_first log (Taken number) _ (taken_within p log (system_of log) number _ may) ∙ by_taken (chosen_in log) number
