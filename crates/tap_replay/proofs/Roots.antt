-- What a group tells beyond its plain records: the roots, if it is a root set that isn't refused, and else nothing.
use Rattle.std.proofs.Common.{◌≡◌, ℕ, List, [], ◌∷◌, ◌++◌, Option, None, Some, IsTrue, refl, ap, sym, ◌∙◌, append-nil, ◌≢◌}
use Rattle.tap_name.specs.Settings.{SettingsValue}
use Rattle.tap_scenario.specs.Step.{asks_no_roots}
use Rattle.tap_scenario.specs.declared.step.Step.{Step}
use Rattle.tap_scenario.specs.declared.step.Step.TheVariants.{RootSet}
use Rattle.tap_log.specs.declared.record.Record.{Record}
use Rattle.tap_log.specs.declared.record.Record.TheVariants.{Refused as RefusedRecord, Step as StepRecord, Taken}
use Rattle.tap_log.specs.declared.record.Refusal.{Refusal}
use Rattle.tap_history.specs.Refusals.{first_refusal}
use Rattle.tap_runs.specs.Course.{is_choice, system_of}
use Rattle.tap_runs.specs.Group.{records_unless}
use Rattle.tap_runs.specs.Groups.{step_group, taken_group}
use Rattle.tap_lawful.specs.CarriedNext.{begun_group, choice_group, group_unless}
use Rattle.tap_lawful.specs.RootSets.{roots_record, roots_told, told_after, with_roots}
use Rattle.tap_lawful.proofs.Coming.{choice_alone}
use Rattle.tap_log.specs.Counts.{sent_count}
use Rattle.tap_log.specs.Kinds.{sent_number}

-- ---- groups that tell nothing

other_tells : (p : SettingsValue) (log : List Record) (step : Step) → IsTrue (asks_no_roots step) → roots_told p log step ≡ []
unfolding asks_no_roots roots_told
other_tells p log (RootSet object asker) played = absurd (cc)
other_tells p log step played = refl

module _ (p : SettingsValue) (log : List Record) where
  step_tells : (index : ℕ) (step : Step) (items : List Record) → IsTrue (asks_no_roots step) → told_after p log (StepRecord index step ∷ items) ≡ []
  unfolding told_after
  step_tells index step [] played = other_tells p log step played
  step_tells index step (item ∷ items) played = refl

  taken_tells : (number : ℕ) (items : List Record) → told_after p log (Taken number ∷ items) ≡ []
  unfolding told_after
  taken_tells number items = refl

  -- so they stand alone
  nothing_told : (group : List Record) → told_after p log group ≡ [] → with_roots p log group ≡ group
  nothing_told group none = ap (λ told. group ++ told) none ∙ append-nil group

  pub step_alone_is : (less : List Record) (index : ℕ) (step : Step) → IsTrue (asks_no_roots step)
      → with_roots p log (step_group p less index step) ≡ step_group p less index step
  step_alone_is less index step played = nothing_told (step_group p less index step) (step_tells index step _ played)

  pub taken_alone_is : (less : List Record) (number : ℕ) → with_roots p log (taken_group p less number) ≡ taken_group p less number
  taken_alone_is less number = nothing_told (taken_group p less number) (taken_tells number _)

-- ---- a root set

-- each step is one, or isn't
pub no_root_set : (step : Step) → ((object asker : List ℕ) → step ≢ RootSet object asker) → IsTrue (asks_no_roots step)
unfolding asks_no_roots
no_root_set (RootSet object asker) other = absurd (other object asker refl)
no_root_set step other = refl

-- the group of the log of plain records sends no frame
module _ (p : SettingsValue) (less : List Record) (index : ℕ) (object asker : List ℕ) where
  abbrev step : Step
  step = RootSet object asker

  alone_is : first_refusal less step ≡ None → step_group p less index step ≡ StepRecord index step ∷ []
  unfolding is_choice
  alone_is accepted =
      ap (λ r. StepRecord index step ∷ records_unless p less (system_of less) index step r) accepted
      ∙ ap (λ l. StepRecord index step ∷ l) (choice_alone p less (system_of less) index step refl)

  sent_so : (refusal : Option Refusal) → first_refusal less step ≡ refusal → sent_count (step_group p less index step) ≡ 0
  unfolding sent_number
  sent_so (Some refusal) is = ap (λ r. sent_count (StepRecord index step ∷ records_unless p less (system_of less) index step r)) is
  sent_so None is = ap sent_count (alone_is is)

  pub root_set_unsent : sent_count (step_group p less index step) ≡ 0
  root_set_unsent = sent_so (first_refusal less step) refl

-- it is refused after both logs alike
module _ (p : SettingsValue) (log less : List Record) (index : ℕ) (object asker : List ℕ)
    (same : first_refusal log (RootSet object asker) ≡ first_refusal less (RootSet object asker)) where
  abbrev asks : Step
  asks = RootSet object asker

  abbrev Same : List Record → Type 0
  Same plain = begun_group p log index asks ≡ with_roots p log plain

  refused_tells : (refusal : Refusal)
      → StepRecord index asks ∷ RefusedRecord index refusal ∷ [] ≡ with_roots p log (StepRecord index asks ∷ RefusedRecord index refusal ∷ [])
  unfolding told_after
  refused_tells refusal = refl

  roots_tell : StepRecord index asks ∷ roots_record p log object asker ∷ [] ≡ with_roots p log (StepRecord index asks ∷ [])
  unfolding told_after roots_told
  roots_tell = refl

  accepted_is : first_refusal log asks ≡ None → begun_group p log index asks ≡ StepRecord index asks ∷ roots_record p log object asker ∷ []
  unfolding is_choice choice_group
  accepted_is accepted = ap (group_unless p log index asks) accepted

  by_refusal : (refusal : Option Refusal) → first_refusal less asks ≡ refusal → Same (step_group p less index asks)
  by_refusal (Some refusal) is =
      ap (group_unless p log index asks) (same ∙ is) ∙ refused_tells refusal
      ∙ sym (ap (λ r. with_roots p log (StepRecord index asks ∷ records_unless p less (system_of less) index asks r)) is)
  by_refusal None is = accepted_is (same ∙ is) ∙ roots_tell ∙ sym (ap (with_roots p log) (alone_is p less index object asker is))

  -- its group is that of the log of plain records, with the roots that it tells
  pub root_set_group : Same (step_group p less index asks)
  root_set_group = by_refusal (first_refusal less asks) refl
