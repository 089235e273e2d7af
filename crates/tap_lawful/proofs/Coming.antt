-- The group that comes next is that of a frame which is due, or of the next step, and it may follow.
-- Cited above: BeginsNext, choice_alone, comes_follows, comes_may, coming, due_waits, TakesDue
use Rattle.std.proofs.Common.{◌≡◌, ◌⊎◌, inl, inr, ℕ, zero, suc, ◌+◌, ◌≤◌, Bool, true, false, List, [], ◌∷◌, ◌++◌, Option, None, Some, refl, ap, subst, ◌∙◌}
use Rattle.std.specs.Prelude.{◌||◌, nat_eq, slice_get}
use Rattle.std.proofs.lemmas.Bool.{eq-eqb}
use Rattle.std.proofs.lemmas.Option.{option_and_then_some}
use Rattle.tap_name.specs.Settings.{SettingsValue}
use Rattle.tap_scenario.specs.declared.step.Step.{Step}
use Rattle.tap_scenario.specs.declared.step.Step.TheVariants.{Deliver, Settle, SettleNewest, SettleMixed, Tick, Lose, Repeat, RootSet}
use Rattle.tap_scenario.specs.Scenario.{ScenarioValue}
use Rattle.tap_scenario.proofs.Options.{option_map-back}
use Rattle.tap_log.specs.declared.record.Record.{Record}
use Rattle.tap_log.specs.declared.record.Refusal.{Refusal}
use Rattle.tap_log.specs.Counts.{sent_count}
use Rattle.tap_history.specs.Moments.{has_number, outstanding}
use Rattle.tap_history.specs.Refusals.{first_refusal}
use Rattle.tap_history.specs.StepAsks.{actor_of}
use Rattle.tap_safety.specs.System.{System}
use Rattle.tap_runs.specs.Starts.{start_of_step}
use Rattle.tap_runs.specs.Group.{accepted_records, records_unless, step_records}
use Rattle.tap_runs.specs.Course.{FollowStep, Follows, IsRefused, MayFollow, is_choice, system_of}
use Rattle.tap_lawful.specs.Due.{number_due, place_due}
use Rattle.tap_lawful.specs.Next.{beginning_in, begun_count, group_after, next_step}
use Rattle.tap_runs.specs.Groups.{step_group, taken_group}
use Rattle.tap_lawful.specs.Lawful.{ComesNext}

-- ---- what comes next

-- the frame that is due is taken
pub record TakesDue (s : ScenarioValue) (log group : List Record) : Type 0 where
  pub number : ℕ
  pub due : number_due log ≡ Some number
  pub is : taken_group s.settings log number ≡ group

-- no frame is due, and the next step begins
pub record BeginsNext (s : ScenarioValue) (log group : List Record) : Type 0 where
  pub step : Step
  pub none : number_due log ≡ None
  pub next : next_step s log ≡ Some step
  pub is : step_group s.settings log (begun_count log + 1) step ≡ group

pub coming : (s : ScenarioValue) (log group : List Record) → ComesNext s log group → TakesDue s log group ⊎ BeginsNext s log group
coming s log group comes = by_due (number_due log) refl comes
  where
    by_due : (due : Option ℕ) → number_due log ≡ due → group_after s log due ≡ Some group
        → TakesDue s log group ⊎ BeginsNext s log group
    by_due (Some number) is comes =
        let same : taken_group s.settings log number ≡ group = cc in inl (record { number = number; due = is; is = same })
    by_due None is comes =
        let back = option_map-back (step_group s.settings log (begun_count log + 1)) (next_step s log) group comes in
        inr (record { step = back.0; none = is; next = back.1; is = back.2 })

-- ---- a frame that is due is outstanding

or_true : (b : Bool) → (b || true) ≡ true
or_true true = refl
or_true false = refl

-- a number at some place of these is one of them
number_there : (numbers : List ℕ) (place number : ℕ) → slice_get numbers place ≡ Some number → has_number numbers number ≡ true
number_there [] place number at = absurd (cc)
number_there (first ∷ numbers) zero number at =
    let same : first ≡ number = cc in ap (λ b. b || has_number numbers number) (eq-eqb first number same)
number_there (first ∷ numbers) (suc place) number at =
    ap (λ b. nat_eq first number || b) (number_there numbers place number at) ∙ or_true (nat_eq first number)

pub due_waits : (log : List Record) (number : ℕ) → number_due log ≡ Some number → has_number (outstanding log) number ≡ true
due_waits log number is =
    option_and_then_some (slice_get (outstanding log)) (place_due log) number is
    (λ place due at. number_there (outstanding log) place number at)

-- ---- the group may follow

module _ (p : SettingsValue) (before : List Record) (s : System) (index : ℕ) where
  -- nothing follows a choice that isn't refused
  pub choice_alone : (step : Step) → is_choice step ≡ true → accepted_records p before s step ≡ []
  unfolding is_choice accepted_records actor_of start_of_step
  choice_alone (Deliver place) is = refl
  choice_alone Settle is = refl
  choice_alone SettleNewest is = refl
  choice_alone (SettleMixed seed) is = refl
  choice_alone Tick is = refl
  choice_alone (Lose place) is = refl
  choice_alone (Repeat place) is = refl
  choice_alone (RootSet object asker) is = refl
  choice_alone other is = absurd (cc)

  choice_may : (step : Step) (refusal : Option Refusal) → is_choice step ≡ true
      → (records_unless p before s index step refusal ≡ []) ⊎ IsRefused index (records_unless p before s index step refusal)
  choice_may step None is = inl (choice_alone step is)
  choice_may step (Some refusal) is = inr (record { refusal = refusal; is = refl })

  step_may : (step : Step) (choice : Bool) → is_choice step ≡ choice
      → FollowStep choice p before s index step (step_records p before s index step)
  step_may step true is = choice_may step (first_refusal before step) is
  step_may step false is = refl

taken_may : (p : SettingsValue) (log : List Record) (number : ℕ) → number_due log ≡ Some number
    → MayFollow p log (system_of log) (taken_group p log number)
unfolding MayFollow
taken_may p log number due = record { waits = due_waits log number due; are = refl }

begun_may : (p : SettingsValue) (log : List Record) (index : ℕ) (step : Step)
    → MayFollow p log (system_of log) (step_group p log index step)
unfolding MayFollow
begun_may p log index step = step_may p log (system_of log) index step (is_choice step) refl

pub comes_may : (s : ScenarioValue) (log group : List Record) → ComesNext s log group → MayFollow s.settings log (system_of log) group
comes_may s log group comes =
    elim (coming s log group comes) [
      | inl taken ↦ subst (MayFollow s.settings log (system_of log)) taken.is (taken_may s.settings log taken.number taken.due)
      | inr begun ↦
          subst (MayFollow s.settings log (system_of log)) begun.is (begun_may s.settings log (begun_count log + 1) begun.step)
    ]

pub comes_follows : (s : ScenarioValue) (log group : List Record) → ComesNext s log group → sent_count (log ++ group) ≤ s.frames
    → Follows (beginning_in s) log group
comes_follows s log group comes within = record { may = comes_may s log group comes; within = within }
