-- What stands of a group of a carried run doesn't say that all steps were run.
use Rattle.std.proofs.Common.{◌≡◌, inl, inr, ℕ, ◌+◌, ◌≤◌, true, false, List, [], ◌∷◌, ◌++◌, take, All, refl, ap, sym, subst, ◌∙◌, append-nil}
use Rattle.std.proofs.lemmas.Bool.{cases_lt, false≢true}
use Rattle.std.proofs.lemmas.List.Elements.{All-append, All-cons, All-head, All-nil, All-tail, All-take, All-weaker}
use Rattle.tap_scenario.specs.declared.step.Step.{Step}
use Rattle.tap_scenario.specs.Scenario.{ScenarioValue}
use Rattle.tap_log.specs.declared.record.Record.{Record}
use Rattle.tap_log.specs.declared.record.Record.TheVariants.{Arrived, Finished, Spent, Step as StepRecord, Taken, Ticked}
use Rattle.tap_log.specs.Counts.{sent_count}
use Rattle.tap_log.specs.Reduced.{is_added, reduced}
use Rattle.tap_history.specs.Groups.{ends_log, is_ended}
use Rattle.tap_history.proofs.Parts.{is_ended-append}
use Rattle.tap_runs.specs.Beginning.{Beginning}
use Rattle.tap_runs.specs.Course.{MayFollow, system_of}
use Rattle.tap_runs.proofs.Within.{Within, step_within, taken_within}
use Rattle.tap_carried.specs.LogTurns.{IsAddedRecord, Turn, group_of_turn}
use Rattle.tap_carried.specs.LogTurns.Turn.{Arrives, Steps, Takes, Ticks}
use Rattle.tap_carried.specs.ReducedRuns.{TurnFollows}
use Rattle.tap_engine.specs.Kinds.{is_finished}
use Rattle.tap_history.specs.Refusals.{first_refusal}
use Rattle.tap_lawful.specs.CarriedRuns.{CarriedComesNext, IsCarriedCut, IsCarriedPlayed, IsCarriedScript}
use Rattle.tap_lawful.specs.Next.{beginning_in, begun_count}
use Rattle.tap_lawful.proofs.CarriedComing.{begun_head, carried_coming}
use Rattle.tap_lawful.proofs.CarriedReduction.{carried_run, script_steps}
use Rattle.tap_lawful.proofs.CarriedTurns.{turn_of_group}
use Rattle.tap_replay.proofs.Running.{unfinished}

-- ---- records with which a log goes on

abbrev Going : Record → Type 0
Going item = ends_log item ≡ false

all_going : (items : List Record) → All Going items → is_ended items ≡ false
all_going [] all = refl
all_going (item ∷ []) all = All-head Going item [] all
all_going (item ∷ next ∷ items) all = all_going (next ∷ items) (All-tail Going item (next ∷ items) all)

-- a log goes on with them
goes_on : (log items : List Record) → is_ended log ≡ false → All Going items → is_ended (log ++ items) ≡ false
goes_on log [] going all = ap is_ended (append-nil log) ∙ going
goes_on log (first ∷ after) going all = is_ended-append log first after ∙ all_going (first ∷ after) all

-- ---- the group of a turn

added_going : (item : Record) → is_added item ≡ true → ends_log item ≡ false
unfolding ends_log is_added
added_going (Spent limit) is = absurd (false≢true is)
added_going (Finished steps) is = absurd (false≢true is)
added_going item is = refl

all_added : (items : List Record) → All IsAddedRecord items → All Going items
all_added items all = All-weaker IsAddedRecord Going (λ item is. added_going item is.left_out) items all

all_within : (items : List Record) → All Within items → All Going items
all_within items all = All-weaker Within Going (λ item is. is.1) items all

module _ (b : Beginning) (log : List Record) where
  stepped : (index : ℕ) (step : Step) (items : List Record) → MayFollow b.settings (reduced log) (system_of (reduced log)) (StepRecord index step ∷ items)
      → All Going items
  unfolding MayFollow
  stepped index step items may = all_within items (step_within b.settings (reduced log) (system_of (reduced log)) index step items may)

  taken : (number : ℕ) (items : List Record) → MayFollow b.settings (reduced log) (system_of (reduced log)) (Taken number ∷ items) → All Going items
  unfolding MayFollow
  taken number items may = all_within items (taken_within b.settings (reduced log) (system_of (reduced log)) number items may)

  turn_going : (turn : Turn) → TurnFollows true b log turn → All Going (group_of_turn true turn)
  unfolding ends_log
  turn_going (Steps index step items added) follows =
      All-cons Going (StepRecord index step) (items ++ added) refl
      (All-append Going items added (stepped index step items follows.0.0.may) (all_added added follows.1.0))
  turn_going (Takes packet number items added) follows =
      All-cons Going (Arrived packet) (Taken number ∷ (items ++ added)) refl
      (All-cons Going (Taken number) (items ++ added) refl
      (All-append Going items added (taken number items follows.0.may) (all_added added follows.1)))
  turn_going (Arrives packet added) follows = All-cons Going (Arrived packet) added refl (all_added added follows.1.0)
  turn_going (Ticks added) follows = All-cons Going Ticked added refl (all_added added follows.1.0)

-- ---- a log that was cut

-- the first record of a group
first_going : (s : ScenarioValue) (log group : List Record) → CarriedComesNext s log group → All Going (take 1 group)
unfolding ends_log
first_going s log group comes =
    elim (carried_coming s log group comes) [
      | inl arrives ↦ subst (λ g. All Going (take 1 g)) arrives.is (All-cons Going _ [] refl (All-nil Going))
      | inr (inl ticks) ↦ subst (λ g. All Going (take 1 g)) ticks.is (All-cons Going _ [] refl (All-nil Going))
      | inr (inr begun) ↦
          let index = begun_count log + 1 in
          let head = begun_head s.settings log index begun.step (first_refusal log begun.step) in
          subst (λ g. All Going (take 1 g)) (head.1 ∙ begun.is) (All-cons Going (StepRecord index begun.step) [] refl (All-nil Going))
    ]

module _ (s : ScenarioValue) (script : IsCarriedScript s) (played log : List Record) (was : IsCarriedPlayed s played) (cut : IsCarriedCut s played log) where
  group_going : sent_count (played ++ cut.group) ≤ s.frames → All Going cut.group
  group_going within =
      let turn = turn_of_group s played (carried_run s script played was) s.frames cut.group (script_steps s script) cut.next within in
      subst (All Going) turn.is (turn_going (beginning_in s) played turn.turn turn.follows)

  kept_going : All Going (take cut.kept cut.group)
  kept_going =
      elim (cases_lt s.frames (sent_count (played ++ cut.group))) [
        | inl over ↦ subst (λ n. All Going (take n cut.group)) (sym (cut.first over)) (first_going s played cut.group cut.next)
        | inr within ↦ All-take Going cut.kept cut.group (group_going within)
      ]

  pub cut_going : is_ended log ≡ false
  cut_going = ap is_ended cut.log_is ∙ goes_on played (take cut.kept cut.group) was.going kept_going

  pub cut_unfinished : is_finished log ≡ false
  cut_unfinished = unfinished log cut_going
