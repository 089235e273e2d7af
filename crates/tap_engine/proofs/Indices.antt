-- The indices of the steps that have begun, as the log of a world grows.
-- Cited above: few_steps, steps_are
use Rattle.std.proofs.Common.{◌≡◌, ℕ, ◌+◌, ◌<◌, ◌≤◌, List, [], ◌∷◌, ◌++◌, length, All, Option, None, Some, refl, ap, sym, subst, ◌∙◌, arith, append-nil, length-append}
use Rattle.std.specs.Prelude.{unwrap_or}
use Rattle.std.specs.List.{filter_map, last_or}
use Rattle.std.proofs.lemmas.List.Elements.{filter_map-append}
use Rattle.tap_scenario.specs.declared.step.Step.{Step}
use Rattle.tap_log.specs.declared.record.Record.{Record}
use Rattle.tap_log.specs.declared.record.Record.TheVariants.{Step as StepRecord}
use Rattle.tap_log.specs.Kinds.{step_of}
use Rattle.tap_log.specs.Log.{begun_steps}
use Rattle.tap_runs.proofs.Frames.{none_of}
use Rattle.tap_engine.specs.Kinds.{begun_index, begun_indices, last_index, most_index}
use Rattle.tap_engine.specs.WorldLog.{HasIndices}

-- a record that begins no step has no index
pub unbegun : (item : Record) → step_of item ≡ None → begun_index item ≡ None
unfolding begun_index
unbegun (StepRecord index step) none = absurd (cc)
unbegun item none = refl

last_push : (o : Option ℕ) (xs : List ℕ) (x : ℕ) → last_or o (xs ++ x ∷ []) ≡ Some x
last_push o [] x = refl
last_push o (y ∷ xs) x = last_push (Some y) xs x

-- records that begin no step leave the indices
module _ (log items : List Record) (none : All (λ item. step_of item ≡ None) items) where
  indices_same : begun_indices (log ++ items) ≡ begun_indices log
  indices_same =
      filter_map-append begun_index log items
      ∙ ap (λ l. begun_indices log ++ l) (none_of begun_index items (λ k d within. unbegun _ (none k d within)))
      ∙ append-nil (begun_indices log)

  pub indices_stay : HasIndices log → HasIndices (log ++ items)
  indices_stay are =
      let Kept : List ℕ → Type 0 = λ l. (length l ≤ unwrap_or (last_or None l) 0) × (unwrap_or (last_or None l) 0 ≤ most_index) in
      let both = subst Kept (sym indices_same) (are.count, are.most) in
      record { count = both.0; most = both.1 }

-- a step with the next index, and records that begin none
module _ (log : List Record) (index : ℕ) (step : Step) (are : HasIndices log) (above : last_index log < index) (most : index ≤ most_index) where
  indices_push : begun_indices (log ++ StepRecord index step ∷ []) ≡ begun_indices log ++ index ∷ []
  unfolding begun_index
  indices_push = filter_map-append begun_index log (StepRecord index step ∷ [])

  pub indices_next : HasIndices (log ++ StepRecord index step ∷ [])
  indices_next =
      let few = are.count in
      let size : length (begun_indices (log ++ StepRecord index step ∷ [])) ≡ length (begun_indices log) + 1 =
      ap length indices_push ∙ length-append (begun_indices log) (index ∷ []) in
      let last : last_index (log ++ StepRecord index step ∷ []) ≡ index =
      ap (λ l. unwrap_or (last_or None l) 0) indices_push ∙ ap (λ o. unwrap_or o 0) (last_push None (begun_indices log) index) in
      record { count = omega (arith, size, few, above, last); most = omega (arith, most, last) }

-- as many steps have begun as indices
steps_one : (item : Record) (items : List Record) → length (filter_map step_of items) ≡ length (filter_map begun_index items)
    → length (filter_map step_of (item ∷ items)) ≡ length (filter_map begun_index (item ∷ items))
unfolding begun_index
steps_one (StepRecord index step) items same = omega (arith, same)
steps_one item items same = same

pub steps_are : (log : List Record) → length (begun_steps log) ≡ length (begun_indices log)
steps_are [] = refl
steps_are (item ∷ items) = steps_one item items (steps_are items)

pub few_steps : (log : List Record) → HasIndices log → length (begun_steps log) ≤ most_index
few_steps log are =
    let same = steps_are log in
    let count = are.count in
    let most = are.most in
    omega (arith, same, count, most)
