-- The steps that the log of a run accepts are of those that it begins, and these are the first ones of its scenario: so there are no more
-- joins among them, and nothing else if there is nothing else in the scenario.
use Rattle.std.proofs.Common.{◌≡◌, inl, inr, ℕ, zero, suc, ◌+◌, ◌*◌, ◌≤◌, Bool, true, false, List, [], ◌∷◌, filter, length, take, Option, None, Some, arith, refl, ap, sym, subst, ◌∙◌}
use Rattle.std.specs.Prelude.{if◌then◌else◌, slice_get}
use Rattle.std.specs.List.{cons_option, filter_map}
use Rattle.std.proofs.lemmas.Bool.{cases_Bool}
use Rattle.std.proofs.lemmas.Nat.{mul-le}
use Rattle.tap_name.specs.Settings.{SettingsValue}
use Rattle.tap_scenario.specs.declared.step.Step.{Step}
use Rattle.tap_log.specs.Kinds.{accepts, step_of}
use Rattle.tap_log.specs.Log.{begun_steps}
use Rattle.tap_log.specs.declared.record.Record.{Record}
use Rattle.tap_history.specs.Core.{accepted_in, accepted_step}
use Rattle.tap_history.specs.StepAsks.{join_name}
use Rattle.tap_bounds_runs.specs.Joins.{most_of_joins, is_other_start}

-- ---- the bound grows

pub most_grows : (p : SettingsValue) (joins names more all : ℕ) → joins ≤ more → names ≤ all
    → most_of_joins p joins names ≤ most_of_joins p more all
most_grows p joins names more all few fewer =
    let one : names + 1 ≤ all + 1 = omega (arith, fewer) in
    let square = mul-le (names + 1) (names + 1) (all + 1) (all + 1) one one in
    let each : 16 * (names + 1) * (names + 1) + p.digits + 2 ≤ 16 * (all + 1) * (all + 1) + p.digits + 2 = omega (arith, square) in
    mul-le joins (16 * (names + 1) * (names + 1) + p.digits + 2) more (16 * (all + 1) * (all + 1) + p.digits + 2) few each

-- with one join more among as many names and one, one frame more may be sent
pub most_more : (p : SettingsValue) (joins names : ℕ) → most_of_joins p joins names + 1 ≤ most_of_joins p (joins + 1) (names + 1)
most_more p joins names = omega arith

-- ---- what is accepted was begun

accepted_of : (accepted : Bool) (step : Option Step) (steps begun : List Step)
    → length (filter_map join_name steps) ≤ length (filter_map join_name begun)
    → length (filter_map join_name (cons_option (if accepted then step else None) steps))
    ≤ length (filter_map join_name (cons_option step begun))
accepted_of true None steps begun few = few
accepted_of true (Some step) steps begun few = joins_too (join_name step)
  where
    joins_too : (name : Option (List ℕ))
        → length (cons_option name (filter_map join_name steps)) ≤ length (cons_option name (filter_map join_name begun))
    joins_too None = few
    joins_too (Some name) = omega (arith, few)
accepted_of false None steps begun few = few
accepted_of false (Some step) steps begun few = none_first (join_name step)
  where
    none_first : (name : Option (List ℕ)) → length (filter_map join_name steps) ≤ length (cons_option name (filter_map join_name begun))
    none_first None = few
    none_first (Some name) = omega (arith, few)

-- at most as many joins were accepted as were begun
pub joins_begun : (carried : Bool) (log : List Record)
    → length (filter_map join_name (accepted_in carried log)) ≤ length (filter_map join_name (begun_steps log))
unfolding accepted_step
joins_begun carried [] = omega arith
joins_begun carried (item ∷ []) = omega arith
joins_begun carried (item ∷ next ∷ items) =
    accepted_of (accepts carried next) (step_of item) (accepted_in carried (next ∷ items)) (begun_steps (next ∷ items))
    (joins_begun carried (next ∷ items))

first_alone : (accepted : Bool) (step : Option Step) (steps begun : List Step) → filter is_other_start (cons_option step begun) ≡ []
    → (filter is_other_start begun ≡ [] → filter is_other_start steps ≡ [])
    → filter is_other_start (cons_option (if accepted then step else None) steps) ≡ []
first_alone true None steps begun none later = later none
first_alone false None steps begun none later = later none
first_alone accepted (Some step) steps begun none later =
    elim (cases_Bool (is_other_start step)) [
      | inl other ↦ let wrong : step ∷ filter is_other_start begun ≡ [] = rw other at none in absurd (cc)
      | inr fits ↦ by_test accepted fits (later (rw fits at none))
    ]
  where
    by_test : (test : Bool) → is_other_start step ≡ false → filter is_other_start steps ≡ []
        → filter is_other_start (cons_option (if test then Some step else None) steps) ≡ []
    by_test true fits rest = rw fits rest
    by_test false fits rest = rest

-- if nothing but joins was begun, nothing else was accepted
pub alone_begun : (carried : Bool) (log : List Record) → filter is_other_start (begun_steps log) ≡ []
    → filter is_other_start (accepted_in carried log) ≡ []
unfolding accepted_step
alone_begun carried [] none = refl
alone_begun carried (item ∷ []) none = refl
alone_begun carried (item ∷ next ∷ items) none =
    first_alone (accepts carried next) (step_of item) (accepted_in carried (next ∷ items)) (begun_steps (next ∷ items)) none
    (alone_begun carried (next ∷ items))

-- ---- the first steps of a scenario

-- among the first ones are no other steps
pub first_steps : (n : ℕ) (steps : List Step) → filter is_other_start steps ≡ [] → filter is_other_start (take n steps) ≡ []
first_steps zero steps none = refl
first_steps (suc n) [] none = refl
first_steps (suc n) (step ∷ steps) none =
    elim (cases_Bool (is_other_start step)) [
      | inl other ↦ let wrong : step ∷ filter is_other_start steps ≡ [] = rw other at none in absurd (cc)
      | inr fits ↦ let rest = first_steps n steps (rw fits at none) in rw fits rest
    ]

pub this_step : (n : ℕ) (steps : List Step) (step : Step) → filter is_other_start steps ≡ [] → slice_get steps n ≡ Some step
    → is_other_start step ≡ false
this_step n [] step none at = absurd (cc)
this_step zero (first ∷ steps) step none at =
    let same : first ≡ step = cc in
    elim (cases_Bool (is_other_start first)) [
      | inl other ↦ let wrong : first ∷ filter is_other_start steps ≡ [] = rw other at none in absurd (cc)
      | inr fits ↦ ap is_other_start (sym same) ∙ fits
    ]
this_step (suc n) (first ∷ steps) step none at =
    elim (cases_Bool (is_other_start first)) [
      | inl other ↦ let wrong : first ∷ filter is_other_start steps ≡ [] = rw other at none in absurd (cc)
      | inr fits ↦ this_step n steps step (rw fits at none) at
    ]

-- the joins of the first steps and of the next one are joins of the scenario
pub joins_of_first : (n : ℕ) (steps : List Step) → length (filter_map join_name (take n steps)) ≤ length (filter_map join_name steps)
joins_of_first zero steps = omega arith
joins_of_first (suc n) [] = omega arith
joins_of_first (suc n) (step ∷ steps) = by_name (join_name step) (joins_of_first n steps)
  where
    by_name : (name : Option (List ℕ)) → length (filter_map join_name (take n steps)) ≤ length (filter_map join_name steps)
        → length (cons_option name (filter_map join_name (take n steps))) ≤ length (cons_option name (filter_map join_name steps))
    by_name None few = few
    by_name (Some name) few = omega (arith, few)

pub joins_with : (n : ℕ) (steps : List Step) (step : Step) (name : List ℕ) → slice_get steps n ≡ Some step → join_name step ≡ Some name
    → length (filter_map join_name (take n steps)) + 1 ≤ length (filter_map join_name steps)
joins_with n [] step name at joins = absurd (cc)
joins_with zero (first ∷ steps) step name at joins =
    let same : first ≡ step = cc in
    let here : join_name first ≡ Some name = ap join_name same ∙ joins in
    subst (λ o. 0 + 1 ≤ length (cons_option o (filter_map join_name steps))) (sym here) (omega arith)
joins_with (suc n) (first ∷ steps) step name at joins = by_name (join_name first) (joins_with n steps step name at joins)
  where
    by_name : (one : Option (List ℕ)) → length (filter_map join_name (take n steps)) + 1 ≤ length (filter_map join_name steps)
        → length (cons_option one (filter_map join_name (take n steps))) + 1 ≤ length (cons_option one (filter_map join_name steps))
    by_name None few = few
    by_name (Some one) few = omega (arith, few)
