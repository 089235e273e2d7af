-- Each call leaves a world with the log of one.
-- Cited above: finish_log, IsNoted, mark_log, note_log, noted, world_log_grows
use Rattle.std.proofs.Common.{◌≡◌, ◌⊎◌, inl, inr, ℕ, Bool, true, false, List, [], ◌∷◌, ◌++◌, length, slice_get, All, Option, None, Some, refl, ap, sym, subst, ◌∙◌, arith, append_assoc}
use Rattle.std.specs.Prelude.{if◌then◌else◌}
use Rattle.std.specs.Option.{option_map_or}
use Rattle.std.proofs.lemmas.List.Elements.{All-cons, All-nil}
use Rattle.tap_scenario.specs.declared.step.Step.{Step}
use Rattle.tap_log.specs.declared.record.Record.{Record}
use Rattle.tap_log.specs.declared.record.Record.TheVariants.{Finished, Refused, Spent, Step as StepRecord, Taken}
use Rattle.tap_log.specs.declared.record.Refusal.{Refusal}
use Rattle.tap_log.specs.declared.record.Refusal.TheVariants.{NoSuchFlight}
use Rattle.tap_log.specs.Kinds.{sent_number, step_of}
use Rattle.tap_log.specs.Log.{begun_steps, last_of}
use Rattle.tap_log.proofs.MoreRecords.{last_of-push}
use Rattle.tap_history.specs.Groups.{ends_log, is_ended}
use Rattle.tap_history.specs.Moments.{has_number, outstanding}
use Rattle.tap_history.specs.Refusals.{first_refusal}
use Rattle.tap_history.specs.StepAsks.{is_start}
use Rattle.tap_node.specs.Node.{NodeValue}
use Rattle.tap_runs.specs.Beginning.{Beginning, IsWithinLimits, begin_record}
use Rattle.tap_runs.specs.Course.{FollowStep, Follows, IsCourse, MayFollow, is_choice, system_of}
use Rattle.tap_runs.specs.Group.{records_unless, step_records, taken_records}
use Rattle.tap_runs.proofs.CourseGrows.{grown, grown_going, start_course}
use Rattle.tap_runs.proofs.Nodes.{no_steps}
use Rattle.tap_runs.proofs.Within.{step_within, taken_within}
use Rattle.tap_engine.specs.Kinds.{begun_index, finishes_run, is_finished}
use Rattle.tap_engine.specs.Growth.{WorldLogGrows, left_by_outcome}
use Rattle.tap_engine.specs.Outcome.{IsNextIndex, MayGoOn, MayNote, WorldOutcome, adds, adds_within, is_within, refuses_step, spends, takes_number, unless_refused, unless_stopped, world_stays}
use Rattle.tap_runs.specs.Groups.{step_group, taken_group}
use Rattle.tap_engine.specs.World.{HasBegun, WorldValue}
use Rattle.tap_engine.specs.WorldLog.{HasCome, HasGoneTo, HasIndices, HasStopped, IsCourseOrFinished, IsPending, IsWorldLog}
use Rattle.tap_engine.specs.declared.stop.Stop.{Stop}
use Rattle.tap_engine.specs.declared.stop.Stop.TheVariants.{Ended, Refused as StopRefused}
use Rattle.tap_engine.proofs.Courses.{last_step}
use Rattle.tap_engine.proofs.Indices.{indices_next, indices_stay}
use Rattle.tap_engine.proofs.AddedGroups.{IsPlayed, choice_may, clash, follows_within, no_choice, number_there, quiet_within, refused_choice, silent_within, step_may, taken_may}

-- ---- where a world is

come_to : (b : Beginning) (stopped : Bool) (refused : Option Refusal) (course log : List Record) → stopped ≡ false → refused ≡ None
    → HasGoneTo b stopped refused course log → IsCourseOrFinished course log
come_to b stopped refused course log runs none gone = rw (runs, none) at gone

finished_so : (course : List Record) (steps : ℕ) → is_finished (course ++ Finished steps ∷ []) ≡ true
unfolding finishes_run
finished_so course steps = ap (λ last. option_map_or finishes_run last false) (last_of-push course (Finished steps))

unfinished_is : (course log : List Record) → IsCourseOrFinished course log → is_finished log ≡ false → log ≡ course
unfinished_is course log (inl same) unfinished = same
unfinished_is course log (inr is) unfinished =
    absurd (clash (is_finished log) (ap is_finished is ∙ finished_so course (length (begun_steps course))) unfinished)

-- where it comes to: a course, a step that is refused, and the end
pub gone_course : (b : Beginning) (stopped : Bool) (refused : Option Refusal) (log : List Record) → stopped ≡ false → refused ≡ None
    → HasGoneTo b stopped refused log log
gone_course b stopped refused log runs none = rw (runs, none) (inl refl)

gone_pending : (b : Beginning) (stopped : Bool) (refusal : Refusal) (course log : List Record) → stopped ≡ false → IsPending course refusal log
    → HasGoneTo b stopped (Some refusal) course log
gone_pending b stopped refusal course log runs pending = rw runs pending

gone_stopped : (b : Beginning) (refused : Option Refusal) (course log : List Record) → refused ≡ None → HasStopped b course log
    → HasGoneTo b true refused course log
gone_stopped b refused course log none stops = rw none stops

gone_finished : (b : Beginning) (stopped : Bool) (refused : Option Refusal) (course log : List Record) → stopped ≡ false → refused ≡ None
    → log ≡ course ++ Finished (length (begun_steps course)) ∷ [] → HasGoneTo b stopped refused course log
gone_finished b stopped refused course log runs none is = rw (runs, none) (inr is)

-- a world that goes on: its log is a course
pub record IsAtCourse (w : WorldValue) : Type 0 where
  pub runs : w.stopped ≡ false
  pub noted : w.refused ≡ None
  pub course : IsCourse w.beginning w.log
  pub going : is_ended w.log ≡ false
  pub indices : HasIndices w.log

pub goes_on : (w : WorldValue) → IsWorldLog w → MayGoOn w → w.stopped ≡ false → IsAtCourse w
goes_on w is may runs =
    let come = come_to w.beginning w.stopped w.refused is.course w.log runs may.noted is.gone_to in
    let same = unfinished_is is.course w.log come may.unfinished in
    record {
      runs = runs;
      noted = may.noted;
      course = subst (IsCourse w.beginning) (sym same) is.is_course;
      going = ap is_ended same ∙ is.open_end;
      indices = is.indices;
    }

-- ---- what a call leaves

module _ (w : WorldValue) (nodes : List (List ℕ × NodeValue)) where
  pub stays_log : (stop : Stop) → IsWorldLog w → IsWorldLog (left_by_outcome w (world_stays w stop) nodes)
  stays_log stop is = record {
    course = is.course;
    is_course = is.is_course;
    open_end = is.open_end;
    gone_to = is.gone_to;
    indices = is.indices;
  }

  -- a world that was stopped stays, and another one is left as the outcome says
  pub unless_log : (outcome : WorldOutcome) → IsWorldLog w → (w.stopped ≡ false → IsWorldLog (left_by_outcome w outcome nodes))
      → IsWorldLog (left_by_outcome w (unless_stopped w outcome) nodes)
  unless_log outcome is left = by_stopped w.stopped refl
    where
      by_stopped : (stopped : Bool) → w.stopped ≡ stopped → IsWorldLog (left_by_outcome w (if stopped then world_stays w Ended else outcome) nodes)
      by_stopped true at = stays_log Ended is
      by_stopped false at = left at

  module _ (on : IsAtCourse w) where
    -- a group that may follow is added
    pub adds_log : (group : List Record) → Follows w.beginning w.log group → HasIndices (w.log ++ group)
        → IsWorldLog (left_by_outcome w (adds w group) nodes)
    adds_log group follows are = record {
      course = w.log ++ group;
      is_course = grown w.beginning w.log group on.course on.going follows;
      open_end = grown_going w.beginning w.log group on.course on.going follows;
      gone_to = gone_course w.beginning w.stopped w.refused (w.log ++ group) on.runs on.noted;
      indices = are;
    }

    -- a step, by its index and what follows it
    module _ (index : ℕ) (step : Step) (next : IsNextIndex w index) where
      step_indices : HasIndices (w.log ++ StepRecord index step ∷ [])
      step_indices = indices_next w.log index step on.indices next.above next.most

      group_indices : (items : List Record) → All (λ item. step_of item ≡ None) items → HasIndices (w.log ++ StepRecord index step ∷ items)
      group_indices items none =
          subst HasIndices (append_assoc w.log (StepRecord index step ∷ []) items)
          (indices_stay (w.log ++ StepRecord index step ∷ []) items none step_indices)

      -- the step alone, whose refusal isn't noted yet
      pub refuses_log : (refusal : Refusal) → first_refusal w.log step ≡ Some refusal → is_choice step ≡ false
          → IsWorldLog (left_by_outcome w (refuses_step w index step refusal) nodes)
      refuses_log refusal is unchosen = record {
        course = w.log;
        is_course = on.course;
        open_end = on.going;
        gone_to = gone_pending w.beginning w.stopped refusal w.log (w.log ++ StepRecord index step ∷ []) on.runs
            (record { index = index; step = step; log_is = refl; refused = is; no_choice = unchosen });
        indices = step_indices;
      }

      abbrev group : List Record
      group = step_group w.beginning.settings w.log index step

      items_begin_none : is_choice step ≡ false → All (λ item. step_of item ≡ None) (step_records w.beginning.settings w.log (system_of w.log) index step)
      items_begin_none unchosen =
          let p = w.beginning.settings in
          let s = system_of w.log in
          let items = step_records p w.log s index step in
          let follow : FollowStep (is_choice step) p w.log s index step items = subst (λ c. FollowStep c p w.log s index step items) (sym unchosen) refl in
          no_steps items (step_within p w.log s index step items follow)

      -- the group of a step that isn't refused, if it is within the limit
      pub within_log : is_choice step ≡ false → is_within w.beginning w.log group ≡ true → IsWorldLog (left_by_outcome w (adds w group) nodes)
      within_log unchosen within =
          adds_log group (follows_within w.beginning w.log group (step_may w.beginning w.log index step unchosen) within)
          (group_indices (step_records w.beginning.settings w.log (system_of w.log) index step) (items_begin_none unchosen))

      -- and else the start alone, and `Spent`
      spent_indices : HasIndices (w.log ++ StepRecord index step ∷ Spent w.beginning.frames ∷ [])
      spent_indices = group_indices (Spent w.beginning.frames ∷ [])
          (All-cons (λ item. step_of item ≡ None) (Spent w.beginning.frames) [] refl (All-nil (λ item. step_of item ≡ None)))

      pub over_log : is_start step ≡ true → first_refusal w.log step ≡ None → is_within w.beginning w.log group ≡ false
          → IsWorldLog (left_by_outcome w (spends w (StepRecord index step ∷ [])) nodes)
      over_log starts accepted over = record {
        course = w.log;
        is_course = on.course;
        open_end = on.going;
        gone_to = gone_stopped w.beginning w.refused w.log (w.log ++ StepRecord index step ∷ Spent w.beginning.frames ∷ []) on.noted
            (inr (inr (record { index = index; step = step; starts = starts; accepted = accepted; over = over; log_is = refl })));
        indices = spent_indices;
      }

      accepted_log : IsPlayed step → first_refusal w.log step ≡ None
          → IsWorldLog (left_by_outcome w (adds_within w (StepRecord index step ∷ []) group) nodes)
      accepted_log kind accepted = by_within (is_within w.beginning w.log group) refl
        where
          by_within : (within : Bool) → is_within w.beginning w.log group ≡ within
              → IsWorldLog (left_by_outcome w (if within then adds w group else spends w (StepRecord index step ∷ [])) nodes)
          by_within true at = within_log (no_choice step kind) at
          by_within false at = elim kind [
            | inl starts ↦ over_log starts accepted at
            | inr quiet ↦ absurd (clash (is_within w.beginning w.log group) (quiet_within w.beginning w.log on.course on.going index step quiet) at)
          ]

      pub step_log : IsPlayed step → IsWorldLog (left_by_outcome w (unless_refused w index step (first_refusal w.log step)) nodes)
      step_log kind = by_refusal (first_refusal w.log step) refl
        where
          by_refusal : (refusal : Option Refusal) → first_refusal w.log step ≡ refusal
              → IsWorldLog (left_by_outcome w (unless_refused w index step refusal) nodes)
          by_refusal None at = accepted_log kind at
          by_refusal (Some refusal) at = refuses_log refusal at (no_choice step kind)

    -- a frame that is outstanding
    module _ (number : ℕ) (waits : has_number (outstanding w.log) number ≡ true) where
      abbrev taking : List Record
      taking = taken_group w.beginning.settings w.log number

      taking_indices : MayFollow w.beginning.settings w.log (system_of w.log) taking → HasIndices (w.log ++ taking)
      unfolding MayFollow
      taking_indices may =
          let items = taken_records w.beginning.settings w.log (system_of w.log) number in
          let none = no_steps items (taken_within w.beginning.settings w.log (system_of w.log) number items may) in
          indices_stay w.log taking (All-cons (λ item. step_of item ≡ None) (Taken number) items refl none) on.indices

      pub takes_over : is_within w.beginning w.log taking ≡ false → IsWorldLog (left_by_outcome w (spends w []) nodes)
      takes_over over = record {
        course = w.log;
        is_course = on.course;
        open_end = on.going;
        gone_to = gone_stopped w.beginning w.refused w.log (w.log ++ Spent w.beginning.frames ∷ []) on.noted
            (inr (inl (record { number = number; waits = waits; over = over; log_is = refl })));
        indices = indices_stay w.log (Spent w.beginning.frames ∷ [])
            (All-cons (λ item. step_of item ≡ None) (Spent w.beginning.frames) [] refl (All-nil (λ item. step_of item ≡ None))) on.indices;
      }

      pub takes_log : IsWorldLog (left_by_outcome w (adds_within w [] taking) nodes)
      takes_log = by_within (is_within w.beginning w.log taking) refl
        where
          by_within : (within : Bool) → is_within w.beginning w.log taking ≡ within
              → IsWorldLog (left_by_outcome w (if within then adds w taking else spends w []) nodes)
          by_within true at =
              let may = taken_may w.beginning w.log number waits in
              adds_log taking (follows_within w.beginning w.log taking may at) (taking_indices may)
          by_within false at = takes_over at

    pub place_log : (place : ℕ) → IsWorldLog w → IsWorldLog (left_by_outcome w (takes_number w (slice_get (outstanding w.log) place)) nodes)
    place_log place is = by_number (slice_get (outstanding w.log) place) refl
      where
        by_number : (number : Option ℕ) → slice_get (outstanding w.log) place ≡ number → IsWorldLog (left_by_outcome w (takes_number w number) nodes)
        by_number None at = stays_log (StopRefused (NoSuchFlight (length (outstanding w.log)))) is
        by_number (Some number) at = takes_log number (number_there (outstanding w.log) place number at)

    -- a choice alone
    pub mark_log : (index : ℕ) (step : Step) → IsNextIndex w index → is_choice step ≡ true
        → IsWorldLog (left_by_outcome w (adds w (StepRecord index step ∷ [])) nodes)
    mark_log index step next choice =
        adds_log (StepRecord index step ∷ [])
        (follows_within w.beginning w.log (StepRecord index step ∷ []) (choice_may w.beginning w.log index step choice)
        (silent_within w.beginning w.log on.course on.going index step [] refl))
        (step_indices index step next)

    -- the end of all steps
    pub finish_log : (steps : ℕ) → steps ≡ length (begun_steps w.log) → IsWorldLog (left_by_outcome w (adds w (Finished steps ∷ [])) nodes)
    finish_log steps all = record {
      course = w.log;
      is_course = on.course;
      open_end = on.going;
      gone_to = gone_finished w.beginning w.stopped w.refused w.log (w.log ++ Finished steps ∷ []) on.runs on.noted
          (ap (λ n. w.log ++ Finished n ∷ []) all);
      indices = indices_stay w.log (Finished steps ∷ [])
          (All-cons (λ item. step_of item ≡ None) (Finished steps) [] refl (All-nil (λ item. step_of item ≡ None))) on.indices;
    }

    -- want of memory
    pub short_log : IsWorldLog (record w { stopped = true })
    short_log = record {
      course = w.log;
      is_course = on.course;
      open_end = on.going;
      gone_to = gone_stopped w.beginning w.refused w.log w.log on.noted (inl refl);
      indices = on.indices;
    }

-- ---- a refusal that is noted

-- with the refusal after the step, the log is a course
noted_course : (b : Beginning) (course : List Record) (index : ℕ) (step : Step) (refusal : Refusal) → IsCourse b course
    → is_ended course ≡ false → MayFollow b.settings course (system_of course) (StepRecord index step ∷ Refused index refusal ∷ [])
    → Follows b course (StepRecord index step ∷ Refused index refusal ∷ [])
unfolding sent_number
noted_course b course index step refusal is going may =
    follows_within b course (StepRecord index step ∷ Refused index refusal ∷ []) may
    (silent_within b course is going index step (Refused index refusal ∷ []) refl)

-- the first refusal of a step that is no choice, and any refusal of a choice
refused_may : (b : Beginning) (course : List Record) (index : ℕ) (step : Step) (refusal : Refusal) → is_choice step ≡ false
    → first_refusal course step ≡ Some refusal
    → MayFollow b.settings course (system_of course) (StepRecord index step ∷ Refused index refusal ∷ [])
unfolding MayFollow
refused_may b course index step refusal unchosen is =
    let p = b.settings in
    let s = system_of course in
    let items = Refused index refusal ∷ [] in
    let are : items ≡ step_records p course s index step = sym (ap (records_unless p course s index step) is) in
    subst (λ c. FollowStep c p course s index step items) (sym unchosen) are

chosen_may : (b : Beginning) (course : List Record) (index : ℕ) (step : Step) (refusal : Refusal) → is_choice step ≡ true
    → MayFollow b.settings course (system_of course) (StepRecord index step ∷ Refused index refusal ∷ [])
unfolding MayFollow
chosen_may b course index step refusal choice =
    let items = Refused index refusal ∷ [] in
    subst (λ c. FollowStep c b.settings course (system_of course) index step items) (sym choice)
    (inr (record { refusal = refusal; is = refl }))

-- the log before the step, the step, and what may follow both
record IsNotable (b : Beginning) (log : List Record) (index : ℕ) (refusal : Refusal) : Type 0 where
  course : List Record
  step : Step
  is_course : IsCourse b course
  going : is_ended course ≡ false
  log_is : log ≡ course ++ StepRecord index step ∷ []
  may : MayFollow b.settings course (system_of course) (StepRecord index step ∷ Refused index refusal ∷ [])

same_step : (index other : ℕ) (step next : Step) → ◌≡◌ {A = Record} (StepRecord index step) (StepRecord other next)
    → (index ≡ other) × (step ≡ next)
same_step index other step next same = (cc, cc)

pending_notable : (b : Beginning) (course log : List Record) (index : ℕ) (refusal : Refusal) (step : Step) → IsCourse b course
    → is_ended course ≡ false → IsPending course refusal log → last_of log ≡ Some (StepRecord index step)
    → IsNotable b log index refusal
pending_notable b course log index refusal step is going pending last =
    let both : Some (StepRecord pending.index pending.step) ≡ Some (StepRecord index step) =
    sym (last_of-push course (StepRecord pending.index pending.step)) ∙ ap last_of (sym pending.log_is) ∙ last in
    let one : StepRecord pending.index pending.step ≡ StepRecord index step = cc in
    let same = same_step pending.index index pending.step step one in
    record {
      course = course;
      step = pending.step;
      is_course = is;
      going = going;
      log_is = pending.log_is ∙ ap (λ i. course ++ StepRecord i pending.step ∷ []) same.0;
      may = refused_may b course index pending.step refusal pending.no_choice pending.refused;
    }

chosen_notable : (b : Beginning) (log : List Record) (index : ℕ) (refusal : Refusal) (step : Step) → IsCourse b log
    → is_ended log ≡ false → last_of log ≡ Some (StepRecord index step) → is_choice step ≡ true → IsNotable b log index refusal
chosen_notable b log index refusal step is going last choice =
    let ends = last_step b log index step is going last in
    record {
      course = ends.before;
      step = step;
      is_course = ends.course;
      going = ends.going;
      log_is = ends.is;
      may = chosen_may b ends.before index step refusal choice;
    }

no_step_ends : (course : List Record) (steps index : ℕ) (step : Step) (log : List Record) → log ≡ course ++ Finished steps ∷ []
    → last_of log ≡ Some (StepRecord index step) → ⊥
no_step_ends course steps index step log is last =
    let wrong : Some (Finished steps) ≡ Some (StepRecord index step) =
    sym (last_of-push course (Finished steps)) ∙ ap last_of (sym is) ∙ last in
    absurd (cc)

module _ (b : Beginning) (course log : List Record) (index : ℕ) (refusal : Refusal) (step : Step) (is : IsCourse b course)
    (going : is_ended course ≡ false) (last : last_of log ≡ Some (StepRecord index step)) where
  of_finished : IsCourseOrFinished course log → is_choice step ≡ true → IsNotable b log index refusal
  of_finished (inl same) choice =
      chosen_notable b log index refusal step (subst (IsCourse b) (sym same) is) (ap is_ended same ∙ going) last choice
  of_finished (inr finished) choice = absurd (no_step_ends course (length (begun_steps course)) index step log finished last)

  notable : (refused : Option Refusal) → HasCome course refused log → (refused ≡ Some refusal) ⊎ (is_choice step ≡ true)
      → IsNotable b log index refusal
  notable None come (inl same) = cc
  notable None come (inr choice) = of_finished come choice
  notable (Some other) pending (inl same) =
      let alike : other ≡ refusal = cc in
      pending_notable b course log index refusal step is going (subst (λ r. IsPending course r log) alike pending) last
  notable (Some other) pending (inr choice) =
      let both : Some (StepRecord pending.index pending.step) ≡ Some (StepRecord index step) =
      sym (last_of-push course (StepRecord pending.index pending.step)) ∙ ap last_of (sym pending.log_is) ∙ last in
      let one : StepRecord pending.index pending.step ≡ StepRecord index step = cc in
      let same = same_step pending.index index pending.step step one in
      absurd (clash (is_choice step) choice (ap is_choice (sym same.1) ∙ pending.no_choice))

runs_come : (b : Beginning) (stopped : Bool) (refused : Option Refusal) (course log : List Record) → stopped ≡ false
    → HasGoneTo b stopped refused course log → HasCome course refused log
runs_come b stopped refused course log runs gone = rw runs at gone

may_be : (w : WorldValue) (index : ℕ) (refusal : Refusal) (may : MayNote w index refusal)
    → (w.refused ≡ Some refusal) ⊎ (is_choice may.step ≡ true)
may_be w index refusal may = elim may.may [ inl refused ↦ inl refused | inr chosen ↦ inr (refused_choice may.step chosen) ]

note_indices : (course : List Record) (index : ℕ) (step : Step) (refusal : Refusal) (log : List Record)
    → log ≡ course ++ StepRecord index step ∷ [] → HasIndices log → HasIndices (log ++ Refused index refusal ∷ [])
note_indices course index step refusal log is are =
    indices_stay log (Refused index refusal ∷ [])
    (All-cons (λ item. step_of item ≡ None) (Refused index refusal) [] refl (All-nil (λ item. step_of item ≡ None))) are

-- a course, once a refusal was noted
pub record IsNoted (b : Beginning) (log : List Record) (index : ℕ) (refusal : Refusal) : Type 0 where
  pub before : List Record
  pub step : Step
  pub course_before : IsCourse b before
  pub going_before : is_ended before ≡ false
  pub follows : Follows b before (StepRecord index step ∷ Refused index refusal ∷ [])
  pub log_is : log ≡ before ++ StepRecord index step ∷ []
  pub whole_is : log ++ Refused index refusal ∷ [] ≡ before ++ StepRecord index step ∷ Refused index refusal ∷ []

pub noted : (w : WorldValue) (index : ℕ) (refusal : Refusal) → IsWorldLog w → MayNote w index refusal → w.stopped ≡ false
    → IsNoted w.beginning w.log index refusal
noted w index refusal is may runs =
    let come = runs_come w.beginning w.stopped w.refused is.course w.log runs is.gone_to in
    let n = notable w.beginning is.course w.log index refusal may.step is.is_course is.open_end may.last w.refused come
    (may_be w index refusal may) in
    record {
      before = n.course;
      step = n.step;
      course_before = n.is_course;
      going_before = n.going;
      follows = noted_course w.beginning n.course index n.step refusal n.is_course n.going n.may;
      log_is = n.log_is;
      whole_is = ap (λ l. l ++ Refused index refusal ∷ []) n.log_is ∙ append_assoc n.course (StepRecord index n.step ∷ []) (Refused index refusal ∷ []);
    }

pub note_log : (w : WorldValue) (nodes : List (List ℕ × NodeValue)) (index : ℕ) (refusal : Refusal) → IsWorldLog w → MayNote w index refusal
    → w.stopped ≡ false → IsWorldLog (left_by_outcome w (record (adds w (Refused index refusal ∷ [])) { refused = None }) nodes)
note_log w nodes index refusal is may runs =
    let n = noted w index refusal is may runs in
    let group = StepRecord index n.step ∷ Refused index refusal ∷ [] in
    let whole = w.log ++ Refused index refusal ∷ [] in
    record {
      course = whole;
      is_course = subst (IsCourse w.beginning) (sym n.whole_is) (grown w.beginning n.before group n.course_before n.going_before n.follows);
      open_end = ap is_ended n.whole_is ∙ grown_going w.beginning n.before group n.course_before n.going_before n.follows;
      gone_to = gone_course w.beginning w.stopped None whole runs refl;
      indices = note_indices n.before index n.step refusal w.log n.log_is is.indices;
    }

-- ---- the beginning

begin_going : (b : Beginning) → is_ended (begin_record b ∷ []) ≡ false
unfolding ends_log
begin_going b = refl

begin_indices : (b : Beginning) → HasIndices (begin_record b ∷ [])
unfolding begun_index
begin_indices b = record { count = omega arith; most = omega arith }

begun_log : (b : Beginning) (w : WorldValue) → IsWithinLimits b → HasBegun b w → IsWorldLog w
begun_log b w limits has = record {
  course = begin_record b ∷ [];
  is_course = subst (λ c. IsCourse c (begin_record b ∷ [])) (sym has.beginning) (start_course b limits);
  open_end = begin_going b;
  gone_to =
      subst (λ l. HasGoneTo w.beginning w.stopped w.refused (begin_record b ∷ []) l) (sym has.log)
      (gone_course w.beginning w.stopped w.refused (begin_record b ∷ []) has.goes_on has.refused);
  indices = subst HasIndices (sym has.log) (begin_indices b);
}

-- ---- the law

pub world_log_grows : WorldLogGrows
world_log_grows = record {
  begins = begun_log;
  steps = λ w index step nodes is may next kind.
      unless_log w nodes (unless_refused w index step (first_refusal w.log step)) is
      (λ runs. step_log w nodes (goes_on w is may runs) index step next kind);
  takes = λ w place nodes is may.
      unless_log w nodes (takes_number w (slice_get (outstanding w.log) place)) is
      (λ runs. place_log w nodes (goes_on w is may runs) place is);
  marks = λ w index step nodes is may next choice.
      unless_log w nodes (adds w (StepRecord index step ∷ [])) is
      (λ runs. mark_log w nodes (goes_on w is may runs) index step next choice);
  notes = λ w index refusal nodes is may.
      unless_log w nodes (record (adds w (Refused index refusal ∷ [])) { refused = None }) is
      (λ runs. note_log w nodes index refusal is may runs);
  finishes = λ w steps nodes is may all.
      unless_log w nodes (adds w (Finished steps ∷ [])) is (λ runs. finish_log w nodes (goes_on w is may runs) steps all);
  stops = λ w is may. by_stopped w is may w.stopped refl;
  course = λ w is may runs. let on = goes_on w is may runs in (on.course, on.going);
  quiet = λ w index step is may runs kind.
      let on = goes_on w is may runs in quiet_within w.beginning w.log on.course on.going index step kind;
}
  where
    by_stopped : (w : WorldValue) → IsWorldLog w → MayGoOn w → (stopped : Bool) → w.stopped ≡ stopped
        → IsWorldLog (record w { stopped = true })
    by_stopped w is may false runs = short_log w w.nodes (goes_on w is may runs)
    by_stopped w is may true over = record {
      course = is.course;
      is_course = is.is_course;
      open_end = is.open_end;
      gone_to = subst (λ s. HasGoneTo w.beginning s w.refused is.course w.log) over is.gone_to;
      indices = is.indices;
    }
