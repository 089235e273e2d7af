-- Which starts a log accepts, and which pairs it has as published, with its ending.
use Rattle.std.proofs.Common.{◌≡◌, inl, inr, Bool, false, List, [], ◌∷◌, ◌++◌, filter, Option, None, Some, refl, ap, sym, ◌∙◌, append-nil}
use Rattle.std.specs.Prelude.{ℕ, fold, if◌then◌else◌}
use Rattle.std.specs.List.{cons_option, filter_map}
use Rattle.std.proofs.lemmas.Bool.{cases_Bool}
use Rattle.std.proofs.lemmas.List.Elements.{filter-append}
use Rattle.tap_scenario.specs.declared.step.Step.{Step}
use Rattle.tap_scenario.specs.declared.step.Step.TheVariants.{Depart}
use Rattle.tap_log.specs.declared.record.Pair.{Pair}
use Rattle.tap_log.specs.declared.record.Record.{Record}
use Rattle.tap_log.specs.declared.record.Record.TheVariants.{Finished, Spent, Step as StepRecord}
use Rattle.tap_log.specs.Kinds.{accepts, begin_members, begins_group, is_carried, published_pair, step_of, withdrawn_pair}
use Rattle.tap_log.specs.MoreRecords.{at_most_one}
use Rattle.tap_log.specs.Log.{last_of}
use Rattle.tap_history.specs.Core.{accepted_step, accepted_steps, departures_of}
use Rattle.tap_history.specs.Names.{names_of, with_name}
use Rattle.tap_history.specs.Published.{pairs_less, published_of, same_pair, without_servers}
use Rattle.tap_history.specs.RecordLaws.{accepted_by, accepted_next}
use Rattle.tap_history.specs.StepAsks.{actor_of, depart_name, is_start, join_name}
use Rattle.tap_history.proofs.RecordChanges.{accepted_steps-push, names_of-push, published_of-push}
use Rattle.tap_history.proofs.Less.{less_by-none}
use Rattle.tap_safe_runs.proofs.Ended.{starts_no_join}
use Rattle.tap_safe_runs.proofs.NeverAlone.{HasNoStartLast}

-- ---- records that accept no start and tell of no pair

pub record IsIdle (log : List Record) (item : Record) : Type 0 where
  pub starts : filter is_start (accepted_by log item) ≡ []
  pub published : published_pair item ≡ None
  pub withdrawn : withdrawn_pair item ≡ None
  pub members : begin_members item ≡ []

-- a record that accepts no step accepts no start
none_starts : (carried : Bool) (last : Option Record) (item : Record) → accepts carried item ≡ false
    → filter is_start (accepted_next carried last item) ≡ []
unfolding accepted_step
none_starts carried None item is = refl
none_starts carried (Some last) item is = ap (λ b. filter is_start (at_most_one (if b then step_of last else None))) is

-- how many steps were run accepts no start, if none stands alone before it
finished_starts : (carried : Bool) (log : List Record) (last : Option Record) (steps : ℕ) → HasNoStartLast log → last_of log ≡ last
    → filter is_start (accepted_next carried last (Finished steps)) ≡ []
unfolding accepted_step accepts begins_group
finished_starts carried log None steps alone is = refl
finished_starts carried log (Some (StepRecord index step)) steps alone is =
    let none : is_start step ≡ false = alone index step is in rw none refl
finished_starts carried log (Some last) steps alone is = refl

pub step_idle : (log : List Record) (index : ℕ) (step : Step) → IsIdle log (StepRecord index step)
unfolding accepts begins_group begin_members published_pair withdrawn_pair
step_idle log index step = record {
  starts = none_starts (is_carried log) (last_of log) (StepRecord index step) refl;
  published = refl;
  withdrawn = refl;
  members = refl;
}

pub spent_idle : (log : List Record) (limit : ℕ) → IsIdle log (Spent limit)
unfolding accepts begin_members published_pair withdrawn_pair
spent_idle log limit = record {
  starts = none_starts (is_carried log) (last_of log) (Spent limit) refl;
  published = refl;
  withdrawn = refl;
  members = refl;
}

pub finished_idle : (log : List Record) (steps : ℕ) → HasNoStartLast log → IsIdle log (Finished steps)
unfolding begin_members published_pair withdrawn_pair
finished_idle log steps alone = record {
  starts = finished_starts (is_carried log) log (last_of log) steps alone refl;
  published = refl;
  withdrawn = refl;
  members = refl;
}

-- ---- what is then the same

-- who starts nothing doesn't depart
starts_no_departure : (step : Step) → is_start step ≡ false → depart_name step ≡ None
unfolding actor_of depart_name
starts_no_departure (Depart name) none = absurd (cc)
starts_no_departure step none = refl

-- what only starts name is named by the starts of these steps
module _ (named : Step → Option (List ℕ)) (of_starts : (step : Step) → is_start step ≡ false → named step ≡ None) where
  pub named_by_starts : (steps : List Step) → filter_map named (filter is_start steps) ≡ filter_map named steps
  named_by_starts [] = refl
  named_by_starts (step ∷ steps) =
      elim (cases_Bool (is_start step)) [
        | inl is ↦ rw is (ap (cons_option (named step)) (named_by_starts steps))
        | inr other ↦
            rw other (named_by_starts steps ∙ sym (ap (λ one. cons_option one (filter_map named steps)) (of_starts step other)))
      ]

pub idle_starts : (log : List Record) (item : Record) → IsIdle log item
    → filter is_start (accepted_steps (log ++ item ∷ [])) ≡ filter is_start (accepted_steps log)
idle_starts log item idle =
    ap (filter is_start) (accepted_steps-push log item) ∙ filter-append is_start (accepted_steps log) (accepted_by log item)
    ∙ ap (λ l. filter is_start (accepted_steps log) ++ l) idle.starts ∙ append-nil (filter is_start (accepted_steps log))

pub names_no_departure : (steps : List Step) → filter is_start steps ≡ [] → filter_map depart_name steps ≡ []
names_no_departure steps none = sym (named_by_starts depart_name starts_no_departure steps) ∙ ap (filter_map depart_name) none

pub idle_names : (log : List Record) (item : Record) → IsIdle log item → names_of (log ++ item ∷ []) ≡ names_of log
idle_names log item idle =
    names_of-push log item idle.members
    ∙ ap (fold with_name (names_of log)) (sym (named_by_starts join_name starts_no_join (accepted_by log item)) ∙ ap (filter_map join_name) idle.starts)

of_no_server : (pairs : List Pair) → without_servers [] pairs ≡ pairs
of_no_server [] = refl
of_no_server (pair ∷ pairs) = ap (λ l. pair ∷ l) (of_no_server pairs)

pub idle_published : (log : List Record) (item : Record) → IsIdle log item → published_of (log ++ item ∷ []) ≡ published_of log
idle_published log item idle =
    let gone = departures_of log in
    let left = accepted_by log item in
    published_of-push log item
    ∙ ap (λ l. without_servers l (pairs_less (published_of log) (at_most_one (withdrawn_pair item))
    ++ without_servers gone (at_most_one (published_pair item))))
    (names_no_departure left idle.starts)
    ∙ of_no_server (pairs_less (published_of log) (at_most_one (withdrawn_pair item))
    ++ without_servers gone (at_most_one (published_pair item)))
    ∙ ap (λ o. pairs_less (published_of log) (at_most_one o) ++ without_servers gone (at_most_one (published_pair item))) idle.withdrawn
    ∙ ap (λ o. pairs_less (published_of log) [] ++ without_servers gone (at_most_one o)) idle.published
    ∙ append-nil (pairs_less (published_of log) []) ∙ less_by-none same_pair (published_of log)
