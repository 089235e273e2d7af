-- The groups that steps and frames add to the log of a world: each may follow it, if no more frames are sent than may be.
-- Cited above: at_none, choice_may, clash, follows_within, quiet_within, silent_within
use Rattle.std.proofs.Common.{◌≡◌, ◌⊎◌, inl, inr, ℕ, zero, suc, ◌||◌, Bool, true, false, nat_eq, List, [], ◌∷◌, ◌++◌, length, slice_get, Option, None, Some, refl, ap, sym, subst, ◌∙◌, arith}
use Rattle.std.specs.Option.{option_zip}
use Rattle.std.specs.List.{filter_map}
use Rattle.std.proofs.lemmas.Bool.{cases_Bool, eq-eqb, le-leb, leb-true, true≢false}
use Rattle.tap_scenario.specs.declared.step.Step.{Step}
use Rattle.tap_scenario.specs.declared.step.Step.TheVariants.{Walk, Root, Deliver, Settle, SettleNewest, SettleMixed, Table, Pointers, Garble, Cut, Tick, Lose, Repeat, RootSet}
use Rattle.tap_log.specs.declared.record.Record.{Record}
use Rattle.tap_log.specs.declared.record.Record.TheVariants.{Step as StepRecord}
use Rattle.tap_log.specs.Counts.{sent_count}
use Rattle.tap_log.specs.Kinds.{sent_number}
use Rattle.tap_log.proofs.MoreRecords.{sent_count-append}
use Rattle.tap_history.specs.Groups.{is_ended}
use Rattle.tap_history.specs.Moments.{has_number, outstanding}
use Rattle.tap_history.specs.StepAsks.{actor_of, is_start}
use Rattle.tap_rule.specs.Event.{Start}
use Rattle.tap_runs.specs.Beginning.{Beginning}
use Rattle.tap_runs.specs.Course.{FollowStep, Follows, IsCourse, MayFollow, is_choice, system_of}
use Rattle.tap_runs.specs.Group.{step_records}
use Rattle.tap_runs.specs.Starts.{start_of_step}
use Rattle.tap_runs.proofs.Frames.{none_of}
use Rattle.tap_runs.proofs.Within.{step_kind}
use Rattle.tap_engine.specs.Kinds.{damages, may_be_refused, observes}
use Rattle.tap_engine.specs.Outcome.{is_within}
use Rattle.tap_runs.specs.Groups.{step_group, taken_group}
use Rattle.tap_engine.proofs.Courses.{sent_within}

-- ---- kinds of steps

-- a start, an observation or a damaged copy
abbrev pub IsPlayed : Step → Type 0
IsPlayed step = (is_start step ≡ true) ⊎ ((observes step ≡ true) ⊎ (damages step ≡ true))

-- a choice is none of them
not_played : (step : Step) → is_choice step ≡ true → (is_start step ≡ false) × (observes step ≡ false) × (damages step ≡ false)
unfolding is_choice actor_of observes damages
not_played (Deliver place) is = (refl, refl, refl)
not_played Settle is = (refl, refl, refl)
not_played SettleNewest is = (refl, refl, refl)
not_played (SettleMixed seed) is = (refl, refl, refl)
not_played Tick is = (refl, refl, refl)
not_played (Lose place) is = (refl, refl, refl)
not_played (Repeat place) is = (refl, refl, refl)
not_played (RootSet object asker) is = (refl, refl, refl)
not_played step is = absurd (cc)

pub clash : (b : Bool) → b ≡ true → b ≡ false → ⊥
clash b is is_not = absurd (true≢false (sym is ∙ is_not))

pub no_choice : (step : Step) → IsPlayed step → is_choice step ≡ false
no_choice step played = elim (cases_Bool (is_choice step)) [
  | inl choice ↦
      let not = not_played step choice in
      absurd (elim played [
        | inl start ↦ clash (is_start step) start not.0
        | inr other ↦ elim other [
          | inl sees ↦ clash (observes step) sees not.1
          | inr copies ↦ clash (damages step) copies not.2
        ]
      ])
  | inr other ↦ other
]

-- a step that may be refused by whoever runs it is a choice
pub refused_choice : (step : Step) → may_be_refused step ≡ true → is_choice step ≡ true
unfolding is_choice may_be_refused
refused_choice (Deliver place) is = refl
refused_choice Tick is = refl
refused_choice (Lose place) is = refl
refused_choice (Repeat place) is = refl
refused_choice (RootSet object asker) is = refl
refused_choice step is = absurd (cc)

-- at no node an observation or a damaged copy starts anything
sees_at_none : (step : Step) → observes step ≡ true → actor_of step ≡ None
unfolding observes actor_of
sees_at_none (Walk object asker) is = refl
sees_at_none (Root object) is = refl
sees_at_none (Table name) is = refl
sees_at_none (Pointers name) is = refl
sees_at_none step is = absurd (cc)

copies_at_none : (step : Step) → damages step ≡ true → actor_of step ≡ None
unfolding damages actor_of
copies_at_none (Garble place at byte) is = refl
copies_at_none (Cut place bytes) is = refl
copies_at_none step is = absurd (cc)

pub at_none : (step : Step) → (observes step ≡ true) ⊎ (damages step ≡ true) → actor_of step ≡ None
at_none step (inl sees) = sees_at_none step sees
at_none step (inr copies) = copies_at_none step copies

-- ---- what may follow

-- the group of a step that is no choice, and of a choice alone
pub step_may : (b : Beginning) (log : List Record) (index : ℕ) (step : Step) → is_choice step ≡ false
    → MayFollow b.settings log (system_of log) (step_group b.settings log index step)
unfolding MayFollow
step_may b log index step unchosen =
    let s = system_of log in
    let items = step_records b.settings log s index step in
    subst (λ c. FollowStep c b.settings log s index step items) (sym unchosen) refl

pub choice_may : (b : Beginning) (log : List Record) (index : ℕ) (step : Step) → is_choice step ≡ true
    → MayFollow b.settings log (system_of log) (StepRecord index step ∷ [])
unfolding MayFollow
choice_may b log index step is = subst (λ c. FollowStep c b.settings log (system_of log) index step []) (sym is) (inl refl)

or_true : (b : Bool) → (b || true) ≡ true
or_true true = refl
or_true false = refl

-- a number at some place of these is one of them
pub number_there : (numbers : List ℕ) (place number : ℕ) → slice_get numbers place ≡ Some number → has_number numbers number ≡ true
number_there [] place number at = cc
number_there (first ∷ numbers) zero number at =
    let same : first ≡ number = cc in
    ap (λ b. b || has_number numbers number) (eq-eqb first number same)
number_there (first ∷ numbers) (suc place) number at =
    ap (λ b. nat_eq first number || b) (number_there numbers place number at) ∙ or_true (nat_eq first number)

-- the group of a frame that is outstanding
pub taken_may : (b : Beginning) (log : List Record) (number : ℕ) → has_number (outstanding log) number ≡ true
    → MayFollow b.settings log (system_of log) (taken_group b.settings log number)
unfolding MayFollow
taken_may b log number waits = record { waits = waits; are = refl }

-- the group may follow, and no more frames are sent than may be
pub follows_within : (b : Beginning) (log group : List Record) → MayFollow b.settings log (system_of log) group
    → is_within b log group ≡ true → Follows b log group
follows_within b log group may within = record { may = may; within = leb-true (sent_count (log ++ group)) b.frames within }

-- ---- groups that send nothing

module _ (b : Beginning) (log : List Record) (course : IsCourse b log) (going : is_ended log ≡ false) (index : ℕ) (step : Step) where
  step_sends : (items : List Record) → filter_map sent_number items ≡ []
      → sent_count (log ++ StepRecord index step ∷ items) ≡ sent_count log
  unfolding sent_number
  step_sends items none =
      let all = sent_count-append log (StepRecord index step ∷ items) in
      let size : sent_count (StepRecord index step ∷ items) ≡ 0 = ap length none in
      omega (arith, all, size)

  pub silent_within : (items : List Record) → filter_map sent_number items ≡ [] → is_within b log (StepRecord index step ∷ items) ≡ true
  silent_within items none =
      let same = step_sends items none in
      let few = sent_within b log course going in
      le-leb (sent_count (log ++ StepRecord index step ∷ items)) b.frames (omega (arith, same, few))

  -- an observation, or a damaged copy, sends nothing
  pub quiet_within : (observes step ≡ true) ⊎ (damages step ≡ true) → is_within b log (step_group b.settings log index step) ≡ true
  quiet_within kind =
      let s = system_of log in
      let items = step_records b.settings log s index step in
      let none = at_none step kind in
      let unchosen = no_choice step (inr kind) in
      let follow = subst (λ c. FollowStep c b.settings log s index step items) (sym unchosen) refl in
      elim (step_kind b.settings log s index step items follow) [
        | inl idle ↦ silent_within items (none_of sent_number items (λ k d within. (idle.quiet k d within).sent))
        | inr starting ↦
            let wrong : ◌≡◌ {A = Option (List ℕ × Start)} None (Some (starting.name, starting.start)) =
            sym (ap (λ actor. option_zip actor (start_of_step log step)) none) ∙ starting.at in
            absurd (cc)
      ]
