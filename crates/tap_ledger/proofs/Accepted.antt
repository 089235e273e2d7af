-- The step that one more record accepts, and what it makes of the names of a log.
-- Cited above: last_at
use Rattle.std.proofs.Common.{◌≡◌, ℕ, ◌-◌, false, List, [], ◌∷◌, ◌++◌, length, Option, None, Some, refl, ap, ◌∙◌}
use Rattle.std.specs.Prelude.{fold, option_and_then, slice_get}
use Rattle.std.specs.List.{filter_map, last_or}
use Rattle.std.proofs.lemmas.List.Elements.{filter_map-append}
use Rattle.tap_name.specs.Names.{names_without}
use Rattle.tap_scenario.specs.declared.step.Step.{Step}
use Rattle.tap_log.specs.declared.record.Record.{Record}
use Rattle.tap_log.specs.Kinds.{abandoned_name, begin_members, gone_name, is_carried}
use Rattle.tap_log.specs.MoreRecords.{at_most_one}
use Rattle.tap_log.specs.Log.{last_of}
use Rattle.tap_log.proofs.Gathering.{last_is}
use Rattle.tap_log.proofs.MoreRecords.{filter_map-push}
use Rattle.tap_history.specs.Core.{abandoned_of, accepted_step, accepted_steps, departures_of, gone_of, present_of}
use Rattle.tap_history.specs.Names.{names_of, with_name}
use Rattle.tap_history.specs.RecordLaws.{accepted_by, accepted_next}
use Rattle.tap_history.specs.StepAsks.{depart_name, join_name}
use Rattle.tap_history.proofs.RecordChanges.{accepted_steps-push, core_of-push, names_of-push, present_of-push}
use Rattle.tap_ledger.specs.NameLists.{NameLists, accepted_after, lists_after, lists_of}

-- the last one of some records, the first of them given
last_of-first : (first : Record) (items : List Record) → last_or (Some first) items ≡ last_of (first ∷ items)
last_of-first first [] = refl
last_of-first first (next ∷ items) = last_of-first next items

-- the record at the last place is the last one
pub last_at : (log : List Record) → slice_get log (length log - 1) ≡ last_of log
last_at [] = refl
last_at (first ∷ items) = last_is (first ∷ items) ∙ last_of-first first items

-- what one step names, or none
named_one : {X : Type 0} (h : Step → Option X) (one : Option Step) → filter_map h (at_most_one one) ≡ at_most_one (option_and_then h one)
named_one h None = refl
named_one h (Some step) = refl

-- what the step names that one more record accepts, after this last one
pub named_by : {X : Type 0} (h : Step → Option X) (last : Option Record) (item : Record)
    → filter_map h (accepted_next false last item) ≡ at_most_one (option_and_then h (accepted_after last item))
named_by h None item = refl
named_by h (Some last) item = named_one h (accepted_step false (last, item))

-- what the step that one more record accepts names
pub named : {X : Type 0} (h : Step → Option X) (log : List Record) (item : Record) → is_carried log ≡ false
    → filter_map h (accepted_by log item) ≡ at_most_one (option_and_then h (accepted_after (last_of log) item))
named h log item uncarried =
    ap (λ b. filter_map h (accepted_next b (last_of log) item)) uncarried ∙ named_by h (last_of log) item

unfoldable pub make_lists : List (List ℕ) → List (List ℕ) → List (List ℕ) → List (List ℕ) → List (List ℕ) → List (List ℕ) → NameLists
make_lists core present names gone abandoned departed = record {
  core = core;
  present = present;
  names = names;
  gone = gone;
  abandoned = abandoned;
  departed = departed;
}

-- what one more record makes of the names that a log tells of, if it is no beginning and the log isn't carried
pub lists_push : (log : List Record) (item : Record) → begin_members item ≡ [] → is_carried log ≡ false
    → lists_of (log ++ item ∷ []) ≡ lists_after (lists_of log) (accepted_after (last_of log) item) item
unfolding make_lists
lists_push log item none uncarried =
    let new = log ++ item ∷ [] in
    let joined = named join_name log item uncarried in
    let after = lists_after (lists_of log) (accepted_after (last_of log) item) item in
    let present = present_of-push log item none
    ∙ ap (λ l. names_without (present_of log ++ names_without l (gone_of log)) (at_most_one (gone_name item))) joined in
    let names = names_of-push log item none ∙ ap (fold with_name (names_of log)) joined in
    let departed = ap (filter_map depart_name) (accepted_steps-push log item)
    ∙ filter_map-append depart_name (accepted_steps log) (accepted_by log item)
    ∙ ap (λ l. departures_of log ++ l) (named depart_name log item uncarried) in
    ap (λ l. make_lists l (present_of new) (names_of new) (gone_of new) (abandoned_of new) (departures_of new)) (core_of-push log item none)
    ∙ ap (λ l. make_lists after.core l (names_of new) (gone_of new) (abandoned_of new) (departures_of new)) present
    ∙ ap (λ l. make_lists after.core after.present l (gone_of new) (abandoned_of new) (departures_of new)) names
    ∙ ap (λ l. make_lists after.core after.present after.names l (abandoned_of new) (departures_of new))
    (filter_map-push gone_name log item)
    ∙ ap (λ l. make_lists after.core after.present after.names after.gone l (departures_of new)) (filter_map-push abandoned_name log item)
    ∙ ap (make_lists after.core after.present after.names after.gone after.abandoned) departed
