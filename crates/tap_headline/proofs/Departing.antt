-- Who departs is the same once a log has its ending.
use Rattle.std.proofs.Common.{◌≡◌, ◌⊎◌, inl, inr, ℕ, zero, suc, ◌≤◌, Bool, true, false, List, [], ◌∷◌, ◌++◌, length, Option, None, refl, ap, sym, ◌∙◌, append-nil, append_assoc}
use Rattle.std.specs.Prelude.{drop, if◌then◌else◌}
use Rattle.std.specs.List.{cons_option, filter_map, last_or}
use Rattle.std.proofs.lemmas.List.Elements.{All-append, All-cons, All-nil, filter_map-append}
use Rattle.tap_name.specs.Settings.{SettingsValue}
use Rattle.tap_scenario.specs.declared.step.Step.{Step}
use Rattle.tap_log.specs.declared.record.Record.{Record}
use Rattle.tap_log.specs.declared.record.Record.TheVariants.{Begin, Step as StepRecord}
use Rattle.tap_log.specs.Kinds.{accepts, begins_group, is_carried, step_of}
use Rattle.tap_log.specs.Log.{last_of}
use Rattle.tap_history.specs.Core.{accepted_in, accepted_step, accepted_steps}
use Rattle.tap_history.specs.Departing.{departing_of, last_still}
use Rattle.tap_history.specs.GroupLaws.{IsGroup}
use Rattle.tap_history.specs.Groups.{is_ended}
use Rattle.tap_history.specs.Moments.{is_none, is_still, outstanding}
use Rattle.tap_history.specs.RecordLaws.{accepted_by, accepted_next}
use Rattle.tap_history.specs.StepAsks.{depart_name}
use Rattle.tap_history.proofs.OneMoreGroup.{carried_first, departs, is_carried-group, one_more_group_holds}
use Rattle.tap_history.proofs.RecordChanges.{accepted_steps-push, record_changes_hold}
use Rattle.tap_runs.specs.Beginning.{Beginning, begin_record}
use Rattle.tap_runs.specs.Course.{Follows, IsCourse}
use Rattle.tap_runs.proofs.CourseGrows.{by_groups, whole}
use Rattle.tap_safe_runs.specs.Safe.{IsRun}
use Rattle.tap_safe_runs.proofs.Ended.{step_says}
use Rattle.tap_headline.proofs.Starts.{IsIdle, names_no_departure}

-- ---- the last group

-- the log is this group after what stands before it
pub record HasLastGroup (log : List Record) : Type 0 where
  pub before : List Record
  pub first : Record
  pub after : List Record
  pub is : log ≡ before ++ first ∷ after
  pub group : IsGroup before first after

-- the log is its beginning, or has a last group
abbrev pub IsBegunOrGrown : Beginning → List Record → Type 0
IsBegunOrGrown b log = (log ≡ begin_record b ∷ []) ⊎ HasLastGroup log

pub begun_or_grown : (b : Beginning) (log : List Record) → IsRun b log → IsBegunOrGrown b log
begun_or_grown b log run = by_groups b (IsBegunOrGrown b) grows (inl refl) log run.course run.going
  where
    grows : (log group : List Record) → IsCourse b log → is_ended log ≡ false → Follows b log group → IsBegunOrGrown b log
        → IsBegunOrGrown b (log ++ group)
    grows log group course going follows before =
        let w = whole b log group course going follows in
        inr (record { before = log; first = w.first; after = w.after; is = ap (λ g. log ++ g) w.is; group = w.whole })

pub step_begins : (carried : Bool) (index : ℕ) (step : Step) → begins_group carried (StepRecord index step) ≡ true
unfolding begins_group
step_begins carried index step = refl

step_group : (log : List Record) (index : ℕ) (step : Step) → 1 ≤ length log → IsGroup log (StepRecord index step) []
step_group log index step begun = record {
  begun = begun;
  begins = step_begins (is_carried log) index step;
  alone = All-nil (λ item. begins_group (is_carried log) item ≡ false);
}

-- ---- a record that begins no group

last_in_group : (before : List Record) (first : Record) (after : List Record) → last_of (before ++ first ∷ after) ≡ last_of (first ∷ after)
last_in_group [] first after = refl
last_in_group (item ∷ []) first after = refl
last_in_group (item ∷ next ∷ items) first after = last_in_group (next ∷ items) first after

-- after a group, one that accepts no departure
module _ (before : List Record) (first : Record) (after : List Record) (group : IsGroup before first after) (item : Record)
    (uncarried : is_carried before ≡ false) (alone : begins_group false item ≡ false)
    (none : filter_map depart_name (accepted_next false (last_of (before ++ first ∷ after)) item) ≡ [])
    (frames : outstanding ((before ++ first ∷ after) ++ item ∷ []) ≡ outstanding (before ++ first ∷ after)) where
  abbrev grown : List Record
  grown = before ++ first ∷ after

  abbrev more : List Record
  more = after ++ item ∷ []

  longer : grown ++ item ∷ [] ≡ before ++ first ∷ more
  longer = append_assoc before (first ∷ after) (item ∷ [])

  longer_group : IsGroup before first more
  longer_group = record {
    begun = group.begun;
    begins = group.begins;
    alone =
        All-append (λ other. begins_group (is_carried before) other ≡ false) after (item ∷ []) group.alone
        (All-cons (λ other. begins_group (is_carried before) other ≡ false) item [] (ap (λ c. begins_group c item) uncarried ∙ alone)
        (All-nil (λ other. begins_group (is_carried before) other ≡ false)));
  }

  -- the steps that a group accepts
  of_steps : (items : List Record) → accepted_in (is_carried before) (first ∷ items) ≡ accepted_steps (first ∷ items)
  of_steps items =
      ap (λ c. accepted_in c (first ∷ items)) (uncarried ∙ sym (carried_first (is_carried before) first items group.begins))

  none_more : filter_map depart_name (accepted_by (first ∷ after) item) ≡ []
  none_more =
      ap (λ c. filter_map depart_name (accepted_next c (last_of (first ∷ after)) item))
      (carried_first (is_carried before) first after group.begins)
      ∙ ap (λ last. filter_map depart_name (accepted_next false last item)) (sym (last_in_group before first after)) ∙ none

  same_departures : filter_map depart_name (accepted_in (is_carried before) (first ∷ more))
      ≡ filter_map depart_name (accepted_in (is_carried before) (first ∷ after))
  same_departures =
      ap (filter_map depart_name) (of_steps more ∙ accepted_steps-push (first ∷ after) item)
      ∙ filter_map-append depart_name (accepted_steps (first ∷ after)) (accepted_by (first ∷ after) item)
      ∙ ap (λ l. filter_map depart_name (accepted_steps (first ∷ after)) ++ l) none_more
      ∙ append-nil (filter_map depart_name (accepted_steps (first ∷ after))) ∙ sym (ap (filter_map depart_name) (of_steps after))

  grown_departs : departing_of (grown ++ item ∷ []) ≡ departing_of grown
  grown_departs =
      ap departing_of longer ∙ one_more_group_holds.departing before first more longer_group
      ∙ ap (λ l. if is_none l then None else last_or (departing_of before)
      (filter_map depart_name (accepted_in (is_carried before) (first ∷ more)))) (ap outstanding (sym longer) ∙ frames)
      ∙ ap (λ l. if is_still grown then None else last_or (departing_of before) l) same_departures
      ∙ sym (one_more_group_holds.departing before first after group)

-- after the beginning
accepts_no_begin : (p : SettingsValue) (frames : ℕ) (members : List (List ℕ)) (carried : Bool) (item : Record)
    → accepted_step carried (Begin p frames members, item) ≡ None
unfolding accepted_step
accepts_no_begin p frames members carried item = by_item (accepts carried item)
  where
    by_item : (b : Bool) → (if b then step_of (Begin p frames members) else None) ≡ None
    by_item true = refl
    by_item false = refl

begun_departs : (b : Beginning) (item : Record) (carried : Bool) (k : ℕ) → departs carried (drop k (begin_record b ∷ item ∷ [])) ≡ None
begun_departs b item carried zero =
    ap (λ o. last_or None (filter_map depart_name (cons_option o []))) (accepts_no_begin b.settings b.frames b.members carried item)
begun_departs b item carried (suc zero) = refl
begun_departs b item carried (suc (suc zero)) = refl
begun_departs b item carried (suc (suc (suc k))) = refl

nobody_begins : (b : Beginning) → departing_of (begin_record b ∷ []) ≡ None
nobody_begins b = (record_changes_hold.begins b.settings b.frames b.members).departing

-- an idle record that begins no group
pub idle_departs : (b : Beginning) (log : List Record) (item : Record) → IsBegunOrGrown b log → is_carried log ≡ false → IsIdle log item
    → begins_group false item ≡ false → outstanding (log ++ item ∷ []) ≡ outstanding log → departing_of (log ++ item ∷ []) ≡ departing_of log
idle_departs b log item (inl begun) uncarried idle alone frames =
    let longer = begin_record b ∷ item ∷ [] in
    ap (λ l. departing_of (l ++ item ∷ [])) begun ∙ begun_departs b item (is_carried longer) (last_still longer)
    ∙ sym (ap departing_of begun ∙ nobody_begins b)
idle_departs b log item (inr last) uncarried idle alone frames =
    let front = last.before ++ last.first ∷ last.after in
    let before_uncarried : is_carried last.before ≡ false =
    sym (is_carried-group (is_carried last.before) last.before last.first last.after last.group.begins) ∙ ap is_carried (sym last.is) ∙ uncarried in
    let none : filter_map depart_name (accepted_next false (last_of front) item) ≡ [] =
    ap (λ l. filter_map depart_name (accepted_next false (last_of l) item)) (sym last.is)
    ∙ ap (λ c. filter_map depart_name (accepted_next c (last_of log) item)) (sym uncarried) ∙ names_no_departure (accepted_by log item) idle.starts in
    ap (λ l. departing_of (l ++ item ∷ [])) last.is
    ∙ grown_departs last.before last.first last.after last.group item before_uncarried alone none
    (ap (λ l. outstanding (l ++ item ∷ [])) (sym last.is) ∙ frames ∙ ap outstanding last.is)
    ∙ ap departing_of (sym last.is)

-- ---- a step alone

none_twice : (still : Bool) (leaver other : Option (List ℕ)) → leaver ≡ (if still then None else other)
    → (if still then None else leaver) ≡ leaver
none_twice true leaver other is = sym is
none_twice false leaver other is = refl

none_either : (still : Bool) (leaver : Option (List ℕ)) → leaver ≡ None → (if still then None else leaver) ≡ leaver
none_either true leaver none = sym none
none_either false leaver none = refl

-- nobody departs at rest
rests : (b : Beginning) (log : List Record) → IsBegunOrGrown b log → (if is_still log then None else departing_of log) ≡ departing_of log
rests b log (inl begun) = none_either (is_still log) (departing_of log) (ap departing_of begun ∙ nobody_begins b)
rests b log (inr last) =
    let front = last.before ++ last.first ∷ last.after in
    let names = filter_map depart_name (accepted_in (is_carried last.before) (last.first ∷ last.after)) in
    none_twice (is_still log) (departing_of log) (last_or (departing_of last.before) names)
    (ap departing_of last.is ∙ one_more_group_holds.departing last.before last.first last.after last.group
    ∙ ap (λ l. if is_still l then None else last_or (departing_of last.before) names) (sym last.is))

pub step_departs : (b : Beginning) (log : List Record) (index : ℕ) (step : Step) → IsBegunOrGrown b log → 1 ≤ length log
    → departing_of (log ++ StepRecord index step ∷ []) ≡ departing_of log
step_departs b log index step grown begun =
    one_more_group_holds.departing log (StepRecord index step) [] (step_group log index step begun)
    ∙ ap (λ l. if is_none l then None else departing_of log) (step_says log index step).frames ∙ rests b log grown

-- the step is then the last group
pub step_grown : (b : Beginning) (log : List Record) (index : ℕ) (step : Step) → 1 ≤ length log
    → IsBegunOrGrown b (log ++ StepRecord index step ∷ [])
step_grown b log index step begun =
    inr (record { before = log; first = StepRecord index step; after = []; is = refl; group = step_group log index step begun })
