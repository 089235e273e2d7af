-- The steps that a run has begun are the scenario's first ones, numbered from 1.
-- Cited above: played_all, played_indices, played_steps, take_next
use Rattle.std.proofs.Common.{◌≡◌, inl, inr, ℕ, zero, suc, ◌+◌, false, List, [], ◌∷◌, ◌++◌, length, take, get_or, All, Option, None, Some, refl, ap, sym, subst, ◌∙◌, arith, append-nil, length-append}
use Rattle.std.specs.Prelude.{slice_get}
use Rattle.std.specs.List.{filter_map, range_with_len}
use Rattle.std.specs.Option.{option_map}
use Rattle.std.proofs.lemmas.List.Elements.{filter_map-append}
use Rattle.tap_name.specs.Settings.{SettingsValue}
use Rattle.tap_scenario.specs.declared.step.Step.{Step}
use Rattle.tap_scenario.specs.Scenario.{ScenarioValue}
use Rattle.tap_log.specs.declared.record.Record.{Record}
use Rattle.tap_log.specs.declared.record.Record.TheVariants.{Step as StepRecord, Taken}
use Rattle.tap_log.specs.Kinds.{begins_group, step_of}
use Rattle.tap_log.specs.Log.{begun_steps}
use Rattle.tap_history.proofs.Numbering.{range-append}
use Rattle.tap_runs.specs.Beginning.{begin_record}
use Rattle.tap_runs.specs.Course.{MayFollow, system_of}
use Rattle.tap_runs.proofs.Frames.{none_of}
use Rattle.tap_runs.proofs.Within.{Within, step_within, taken_within}
use Rattle.tap_lawful.specs.Due.{number_due}
use Rattle.tap_lawful.specs.Next.{beginning_in, begun_count, group_after, next_group, next_step}
use Rattle.tap_runs.specs.Groups.{step_group, taken_group}
use Rattle.tap_lawful.specs.Lawful.{ComesNext, IsPlayed}
use Rattle.tap_lawful.specs.PlayedLaws.{index_of}
use Rattle.tap_lawful.proofs.Coming.{coming, comes_may}
use Rattle.tap_lawful.proofs.Played.{by_coming}

-- ---- lists

-- one more element of the first ones
pub take_next : {X : Type 0} (n : ℕ) (xs : List X) (x : X) → slice_get xs n ≡ Some x → take (suc n) xs ≡ take n xs ++ x ∷ []
take_next zero [] x at = absurd (cc)
take_next zero (first ∷ xs) x at = let same : first ≡ x = cc in ap (λ y. y ∷ []) same
take_next (suc n) [] x at = absurd (cc)
take_next (suc n) (first ∷ xs) x at = ap (λ l. first ∷ l) (take_next n xs x at)

-- without a next one they are all
pub take_all : {X : Type 0} (n : ℕ) (xs : List X) → slice_get xs n ≡ None → take n xs ≡ xs
take_all zero [] at = refl
take_all zero (first ∷ xs) at = absurd (cc)
take_all (suc n) [] at = refl
take_all (suc n) (first ∷ xs) at = ap (λ l. first ∷ l) (take_all n xs at)

-- ---- what a group begins

begins_none : (item : Record) → begins_group false item ≡ false → step_of item ≡ None
unfolding begins_group
begins_none (StepRecord index step) is = absurd (cc)
begins_none item is = refl

no_index : (item : Record) → begins_group false item ≡ false → index_of item ≡ None
unfolding begins_group index_of
no_index (StepRecord index step) is = absurd (cc)
no_index item is = refl

-- what a group tells of the step that it begins
pub record Begins (group : List Record) (steps : List Step) (indices : List ℕ) : Type 0 where
  pub steps_are : begun_steps group ≡ steps
  pub indices_are : filter_map index_of group ≡ indices

within_none : (items : List Record) → All Within items → Begins items [] []
within_none items all = record {
  steps_are = none_of step_of items (λ k d within. begins_none (get_or items k d) (all k d within).0);
  indices_are = none_of index_of items (λ k d within. no_index (get_or items k d) (all k d within).0);
}

pub step_first : (index : ℕ) (step : Step) (items : List Record) → Begins items [] []
    → Begins (StepRecord index step ∷ items) (step ∷ []) (index ∷ [])
unfolding index_of
step_first index step items none =
    record { steps_are = ap (λ l. step ∷ l) none.steps_are; indices_are = ap (λ l. index ∷ l) none.indices_are }

taken_first : (number : ℕ) (items : List Record) → Begins items [] [] → Begins (Taken number ∷ items) [] []
unfolding index_of
taken_first number items none = record { steps_are = none.steps_are; indices_are = none.indices_are }

module _ (p : SettingsValue) (log : List Record) where
  step_begins : (index : ℕ) (step : Step) → MayFollow p log (system_of log) (step_group p log index step)
      → Begins (step_group p log index step) (step ∷ []) (index ∷ [])
  unfolding MayFollow
  step_begins index step may =
      step_first index step _ (within_none _ (step_within p log (system_of log) index step _ may))

  taken_begins : (number : ℕ) → MayFollow p log (system_of log) (taken_group p log number) → Begins (taken_group p log number) [] []
  unfolding MayFollow
  taken_begins number may = taken_first number _ (within_none _ (taken_within p log (system_of log) number _ may))

-- ---- each log of a run

-- the steps are the first ones, and numbered from 1
pub record AreFirst (s : ScenarioValue) (log : List Record) : Type 0 where
  pub steps : begun_steps log ≡ take (begun_count log) s.steps
  pub indices : filter_map index_of log ≡ range_with_len 1 (begun_count log)

module _ (s : ScenarioValue) where
  pub first_grows : (log group : List Record) (steps : List Step) (indices : List ℕ) (count : ℕ) → Begins group steps indices → AreFirst s log
      → begun_count log + length steps ≡ count → take (begun_count log) s.steps ++ steps ≡ take count s.steps
      → range_with_len 1 (begun_count log) ++ indices ≡ range_with_len 1 count → AreFirst s (log ++ group)
  first_grows log group steps indices count begins first size taken ranged =
      let all : begun_steps (log ++ group) ≡ begun_steps log ++ steps =
      filter_map-append step_of log group ∙ ap (λ l. begun_steps log ++ l) begins.steps_are in
      let counted : begun_count (log ++ group) ≡ count = ap length all ∙ length-append (begun_steps log) steps ∙ size in
      record {
        steps = all ∙ ap (λ l. l ++ steps) first.steps ∙ taken ∙ ap (λ n. take n s.steps) (sym counted);
        indices = filter_map-append index_of log group ∙ ap (λ l. l ++ filter_map index_of group) first.indices
            ∙ ap (λ l. range_with_len 1 (begun_count log) ++ l) begins.indices_are ∙ ranged ∙ ap (range_with_len 1) (sym counted);
      }

  pub one_more_index : (count : ℕ) → range_with_len 1 count ++ (count + 1) ∷ [] ≡ range_with_len 1 (count + 1)
  one_more_index count =
      ap (λ k. range_with_len 1 count ++ k ∷ []) (let e : count + 1 ≡ 1 + count = omega arith in e) ∙ range-append 1 count 1

  first_keeps : (log group : List Record) → AreFirst s log → ComesNext s log group → AreFirst s (log ++ group)
  first_keeps log group first comes =
      let p = s.settings in
      let n = begun_count log in
      let may = comes_may s log group comes in
      elim (coming s log group comes) [
        | inl taken ↦
            let begins = taken_begins p log taken.number (subst (MayFollow p log (system_of log)) (sym taken.is) may) in
            subst (λ g. AreFirst s (log ++ g)) taken.is
            (first_grows log (taken_group p log taken.number) [] [] n begins first (let e : n + 0 ≡ n = omega arith in e)
            (append-nil (take n s.steps)) (append-nil (range_with_len 1 n)))
        | inr begun ↦
            let begins = step_begins p log (n + 1) begun.step (subst (MayFollow p log (system_of log)) (sym begun.is) may) in
            subst (λ g. AreFirst s (log ++ g)) begun.is
            (first_grows log (step_group p log (n + 1) begun.step) (begun.step ∷ []) ((n + 1) ∷ []) (n + 1) begins first refl
            (sym (take_next n s.steps begun.step begun.next) ∙ ap (λ k. take k s.steps) (let e : suc n ≡ n + 1 = omega arith in e))
            (one_more_index n))
      ]

  first_starts : AreFirst s (begin_record (beginning_in s) ∷ [])
  unfolding index_of
  first_starts = record { steps = refl; indices = refl }

  are_first : (log : List Record) → IsPlayed s log → AreFirst s log
  are_first = by_coming s (AreFirst s) first_keeps first_starts

  pub played_steps : (log : List Record) → IsPlayed s log → begun_steps log ≡ take (begun_count log) s.steps
  played_steps log played = (are_first log played).steps

  pub played_indices : (log : List Record) → IsPlayed s log → filter_map index_of log ≡ range_with_len 1 (begun_count log)
  played_indices log played = (are_first log played).indices

  -- if no group comes next, no step is left
  none_left : (log : List Record) (due : Option ℕ) → group_after s log due ≡ None → next_step s log ≡ None
  none_left log (Some number) none = absurd (cc)
  none_left log None none = no_step (next_step s log) none
    where
      no_step : (step : Option Step) → option_map (step_group s.settings log (begun_count log + 1)) step ≡ None → step ≡ None
      no_step None is = refl
      no_step (Some step) is = absurd (cc)

  pub played_all : (log : List Record) → IsPlayed s log → next_group s log ≡ None → begun_steps log ≡ s.steps
  played_all log played none =
      played_steps log played ∙ take_all (begun_count log) s.steps (none_left log (number_due log) none)
