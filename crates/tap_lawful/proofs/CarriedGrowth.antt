-- How the log of a carried run grows: group by group, and its steps are the scenario's first ones, numbered from 1.
-- Cited above: carried_all, carried_indices, carried_more, carried_starts, carried_steps, within_none
use Rattle.std.proofs.Common.{◌≡◌, inl, inr, ℕ, suc, ◌+◌, ◌≤◌, true, false, List, [], ◌∷◌, ◌++◌, take, get_or, All, Option, None, Some, refl, ap, sym, subst, ◌∙◌, arith, append-nil}
use Rattle.std.specs.List.{filter_map, range_with_len}
use Rattle.std.specs.Option.{option_map}
use Rattle.std.proofs.lemmas.Bool.{false≢true}
use Rattle.tap_scenario.specs.declared.step.Step.{Step}
use Rattle.tap_scenario.specs.Scenario.{ScenarioValue}
use Rattle.tap_log.specs.declared.record.Record.{Record}
use Rattle.tap_log.specs.declared.record.Record.TheVariants.{Step as StepRecord, Arrived, Ticked}
use Rattle.tap_log.specs.Counts.{sent_count}
use Rattle.tap_log.specs.Kinds.{begins_group, is_carried, sent_number, step_of}
use Rattle.tap_log.specs.Log.{begun_steps}
use Rattle.tap_history.specs.Groups.{EachGroupFrom, beginning_of, ends_log, groups_of}
use Rattle.tap_history.specs.Refusals.{first_refusal}
use Rattle.tap_history.proofs.Ends.{log_in_groups_holds}
use Rattle.tap_history.proofs.Parts.{EachGroup-push, beginning_of-group, is_ended-append}
use Rattle.tap_runs.proofs.Frames.{none_of}
use Rattle.tap_carried.specs.LogTurns.{beginning_records}
use Rattle.tap_carried.specs.ReducedRuns.{IsRunOfTurns}
use Rattle.tap_lawful.specs.CarriedDue.{Due, carried_due}
use Rattle.tap_lawful.specs.CarriedDue.Due.{ArrivalDue, TickDue}
use Rattle.tap_lawful.specs.CarriedNext.{begun_group, carried_group_after, carried_next_group}
use Rattle.tap_lawful.specs.CarriedRuns.{CarriedComesNext, IsCarriedPlayed, IsCarriedScript}
use Rattle.tap_lawful.specs.Next.{beginning_in, begun_count, next_step}
use Rattle.tap_lawful.specs.PlayedLaws.{index_of}
use Rattle.tap_lawful.proofs.BegunSteps.{AreFirst, Begins, first_grows, one_more_index, step_first, take_all, take_next}
use Rattle.tap_lawful.proofs.CarriedComing.{begun_head, carried_coming}
use Rattle.tap_lawful.proofs.CarriedReduction.{by_carried, carried_run, run_more, run_starts, whole_next}
use Rattle.tap_lawful.proofs.CarriedWhole.{IsCarriedWhole, after_alone}

-- ---- the beginning

module _ (s : ScenarioValue) where
  abbrev start : List Record
  start = beginning_records true (beginning_in s)

  start_alone : beginning_of start ≡ start
  unfolding is_carried
  start_alone = refl

  no_groups : groups_of start ≡ []
  no_groups = log_in_groups_holds.none_carried s.settings s.frames s.members

  pub carried_starts : IsCarriedPlayed s start
  unfolding ends_log sent_number
  carried_starts = record {
    begins = start_alone;
    each = subst (EachGroupFrom (CarriedComesNext s) (beginning_of start)) (sym no_groups) tt;
    within = omega arith;
    going = refl;
  }

-- ---- one more group

module _ (s : ScenarioValue) (log group : List Record) (script : IsCarriedScript s) (played : IsCarriedPlayed s log)
    (comes : CarriedComesNext s log group) (within : sent_count (log ++ group) ≤ s.frames) where
  whole_group : IsCarriedWhole log group
  whole_group = whole_next s script log group (carried_run s script log played) comes within

  more_with : (w : IsCarriedWhole log group) → CarriedComesNext s log (w.first ∷ w.after)
      → sent_count (log ++ w.first ∷ w.after) ≤ s.frames → IsCarriedPlayed s (log ++ w.first ∷ w.after)
  more_with w comes_so within_so = record {
    begins = beginning_of-group log w.first w.after w.whole ∙ played.begins;
    each = EachGroup-push (CarriedComesNext s) log w.first w.after w.whole played.going w.going played.each comes_so;
    within = within_so;
    going = is_ended-append log w.first w.after ∙ w.going;
  }

  pub carried_more : IsCarriedPlayed s (log ++ group)
  carried_more =
      let w = whole_group in
      subst (λ g. IsCarriedPlayed s (log ++ g)) (sym w.is)
      (more_with w (subst (CarriedComesNext s log) w.is comes) (subst (λ g. sent_count (log ++ g) ≤ s.frames) w.is within))

-- ---- the steps

-- a record within a group begins no step
none_begun : (item : Record) → begins_group true item ≡ false → (step_of item ≡ None) × (index_of item ≡ None)
unfolding begins_group index_of
none_begun (StepRecord index step) is = absurd (false≢true (sym is))
none_begun item is = (refl, refl)

pub within_none : (items : List Record) → All (λ item. begins_group true item ≡ false) items → Begins items [] []
within_none items all = record {
  steps_are = none_of step_of items (λ k d within. (none_begun (get_or items k d) (all k d within)).0);
  indices_are = none_of index_of items (λ k d within. (none_begun (get_or items k d) (all k d within)).1);
}

arrived_first : (packet : ℕ) (items : List Record) → Begins items [] [] → Begins (Arrived packet ∷ items) [] []
unfolding index_of
arrived_first packet items none = record { steps_are = none.steps_are; indices_are = none.indices_are }

ticked_first : (items : List Record) → Begins items [] [] → Begins (Ticked ∷ items) [] []
unfolding index_of
ticked_first items none = record { steps_are = none.steps_are; indices_are = none.indices_are }

-- what follows the first record of a group begins no step
after_none : (log group : List Record) (first : Record) (items : List Record) → IsCarriedWhole log group → first ∷ items ≡ group
    → Begins items [] []
after_none log group first items w is = within_none items (after_alone log group first items w is)

module _ (s : ScenarioValue) where
  -- a group that begins no step
  first_stays : (log group : List Record) → Begins group [] [] → AreFirst s log → AreFirst s (log ++ group)
  first_stays log group begins first =
      let n = begun_count log in
      first_grows s log group [] [] n begins first (let e : n + 0 ≡ n = omega arith in e) (append-nil (take n s.steps))
      (append-nil (range_with_len 1 n))

  first_step : (log group : List Record) (step : Step) → Begins group (step ∷ []) ((begun_count log + 1) ∷ []) → next_step s log ≡ Some step
      → AreFirst s log → AreFirst s (log ++ group)
  first_step log group step begins next first =
      let n = begun_count log in
      first_grows s log group (step ∷ []) ((n + 1) ∷ []) (n + 1) begins first refl
      (sym (take_next n s.steps step next) ∙ ap (λ k. take k s.steps) (let e : suc n ≡ n + 1 = omega arith in e)) (one_more_index s n)

  first_kept : (log group : List Record) → IsCarriedWhole log group → CarriedComesNext s log group → AreFirst s log → AreFirst s (log ++ group)
  first_kept log group w comes first =
      elim (carried_coming s log group comes) [
        | inl arrives ↦
            let number = arrives.line.number in
            let begins = arrived_first number _ (after_none log group (Arrived number) _ w arrives.is) in
            first_stays log group (subst (λ g. Begins g [] []) arrives.is begins) first
        | inr (inl ticks) ↦
            let begins = ticked_first _ (after_none log group Ticked _ w ticks.is) in
            first_stays log group (subst (λ g. Begins g [] []) ticks.is begins) first
        | inr (inr started) ↦
            let index = begun_count log + 1 in
            let step = started.step in
            let head = begun_head s.settings log index step (first_refusal log step) in
            let is : StepRecord index step ∷ head.0 ≡ group = head.1 ∙ started.is in
            let begins = step_first index step head.0 (after_none log group (StepRecord index step) head.0 w is) in
            first_step log group step (subst (λ g. Begins g (step ∷ []) (index ∷ [])) is begins) started.next first
      ]

  first_starts : AreFirst s (start s)
  unfolding index_of
  first_starts = record { steps = refl; indices = refl }

  -- the log of a run, whose steps are the first ones
  record IsCounted (log : List Record) : Type 0 where
    run : IsRunOfTurns true (beginning_in s) log
    first : AreFirst s log

  counted : IsCarriedScript s → (log : List Record) → IsCarriedPlayed s log → IsCounted log
  counted script = by_carried s IsCounted
      (λ log group before comes within. record {
        run = run_more s script log group before.run comes within;
        first = first_kept log group (whole_next s script log group before.run comes within) comes before.first;
      })
      (record { run = run_starts s script; first = first_starts })

  pub carried_steps : (log : List Record) → IsCarriedScript s → IsCarriedPlayed s log → begun_steps log ≡ take (begun_count log) s.steps
  carried_steps log script played = (counted script log played).first.steps

  pub carried_indices : (log : List Record) → IsCarriedScript s → IsCarriedPlayed s log
      → filter_map index_of log ≡ range_with_len 1 (begun_count log)
  carried_indices log script played = (counted script log played).first.indices

  -- if no group comes next, no step is left
  none_left : (log : List Record) (due : Option Due) → carried_group_after s log due ≡ None → next_step s log ≡ None
  none_left log (Some (ArrivalDue line)) none = absurd (cc)
  none_left log (Some TickDue) none = absurd (cc)
  none_left log None none = no_step (next_step s log) none
    where
      no_step : (step : Option Step) → option_map (begun_group s.settings log (begun_count log + 1)) step ≡ None → step ≡ None
      no_step None is = refl
      no_step (Some step) is = absurd (cc)

  pub carried_all : (log : List Record) → IsCarriedScript s → IsCarriedPlayed s log → carried_next_group s log ≡ None → begun_steps log ≡ s.steps
  carried_all log script played none =
      carried_steps log script played ∙ take_all (begun_count log) s.steps (none_left log (carried_due log) none)
