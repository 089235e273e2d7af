-- The world of a run that isn't over: what its calls ask, and which group comes next.
-- Cited above: unfinished
use Rattle.std.proofs.Common.{◌≡◌, inl, inr, ℕ, zero, suc, ◌+◌, ◌<◌, ◌≤◌, true, false, List, [], ◌∷◌, ◌++◌, length, get_or, All, Option, None, Some, refl, ap, sym, subst, ◌∙◌, arith}
use Rattle.std.specs.Prelude.{is_some, nat_lt, option_and_then, slice_get, unwrap_or}
use Rattle.std.specs.List.{filter_map, last_or, range_with_len}
use Rattle.std.specs.Option.{option_map}
use Rattle.std.proofs.lemmas.Bool.{cases_lt, le-ltb, lt-ltb}
use Rattle.std.proofs.lemmas.Option.{get_or_from_slice_get, slice_get-get_or, slice_get_past, slice_get_within}
use Rattle.tap_scenario.specs.declared.step.Step.{Step}
use Rattle.tap_scenario.specs.Scenario.{IsScript, ScenarioValue}
use Rattle.tap_log.specs.declared.record.Record.{Record}
use Rattle.tap_log.specs.declared.record.Record.TheVariants.{Finished, Step as StepRecord}
use Rattle.tap_log.specs.Counts.{sent_count}
use Rattle.tap_history.specs.Groups.{ends_log, is_ended}
use Rattle.tap_history.specs.Moments.{outstanding}
use Rattle.tap_history.proofs.Numbering.{range-append}
use Rattle.tap_runs.specs.Beginning.{Beginning, begin_record}
use Rattle.tap_runs.proofs.CourseGrows.{starts_uncarried}
use Rattle.tap_engine.specs.Kinds.{begun_index, finishes_run, is_finished, last_index}
use Rattle.tap_engine.specs.Outcome.{IsNextIndex, MayGoOn}
use Rattle.tap_engine.specs.World.{HasBegun, WorldValue, whole_log}
use Rattle.tap_lawful.specs.Due.{chosen_after, chosen_in, number_due, place_by, place_chosen}
use Rattle.tap_lawful.specs.Next.{beginning_in, begun_count, group_after, next_group, next_step, uncarried_next_group}
use Rattle.tap_runs.specs.Groups.{step_group, taken_group}
use Rattle.tap_lawful.specs.Lawful.{IsPlayed, IsUncarriedPlayed}
use Rattle.tap_lawful.specs.PlayedLaws.{index_of}
use Rattle.tap_lawful.proofs.Played.{starts_with}
use Rattle.tap_lawful.proofs.BegunSteps.{played_all, played_indices}
use Rattle.tap_replay.specs.Choice.{IsChoiceOf}
use Rattle.tap_replay.specs.Run.{IsRunOf, WorldGoesOn}
use Rattle.tap_replay.specs.StepCalls.{MayRun}
use Rattle.tap_replay.specs.declared.choice.Choice.TheVariants.{Nothing}
use Rattle.tap_replay.specs.declared.run.Run.{Run}
use Rattle.tap_replay.proofs.Choosing.{chosen_within}
use Rattle.tap_log.specs.Reduced.{is_added, reduced}
use Rattle.tap_ledger.specs.Woven.{woven}
use Rattle.tap_ledger.proofs.Woven.{woven_nothing}
use Rattle.tap_carried.specs.ReducedLogs.{AgreesWithReduced}
use Rattle.tap_carried.proofs.ReducedLogs.{logs_agree}
use Rattle.tap_carried.proofs.ReducedRuns.{runs_reduce}
use Rattle.tap_root_sets.specs.AskedRoots.{MayAsk}
use Rattle.tap_lawful.specs.RootSets.{with_roots}
use Rattle.tap_lawful.proofs.Uncarried.{uncarried_far}
use Rattle.tap_lawful.proofs.UncarriedLogs.{none_back, plain_played}
use Rattle.tap_runs.specs.Course.{IsCourse}
use Rattle.tap_runs.specs.Named.{HaveNames}

-- ---- a world whose run isn't over

unfinished_item : (item : Record) → ends_log item ≡ false → finishes_run item ≡ false
unfolding ends_log finishes_run
unfinished_item (Finished steps) is = absurd (cc)
unfinished_item item is = refl

pub unfinished : (log : List Record) → is_ended log ≡ false → is_finished log ≡ false
unfinished [] is = refl
unfinished (item ∷ []) is = unfinished_item item is
unfinished (item ∷ next ∷ items) is = unfinished (next ∷ items) is

module _ (s : ScenarioValue) (valid : IsScript s) (w : WorldValue) (on : WorldGoesOn s w) where
  -- its log of plain records is that of a run without roots
  pub plain_run : IsPlayed s w.log
  plain_run = subst (IsPlayed s) on.plain (plain_played s valid (whole_log w) on.played)

  pub may_go_on : MayGoOn w
  may_go_on = record { noted = on.noted; unfinished = unfinished w.log plain_run.going }

  pub may_run : MayRun w
  may_run = record {
    goes_on = may_go_on;
    runs = on.unstopped;
    uncarried = starts_uncarried w.log (begin_record (beginning_in s)) plain_run.begins;
    few = subst (λ b. sent_count w.log ≤ b.frames) (sym on.beginning) plain_run.within;
  }

  -- both logs agree
  pub agrees : AgreesWithReduced (whole_log w)
  agrees =
      let b = beginning_in s in
      logs_agree.agree false (whole_log w) (runs_reduce.turns false b (whole_log w) (uncarried_far s valid (whole_log w) on.played).run)

  -- it may be asked for roots
  pub may_ask : MayAsk s.settings w
  may_ask =
      let b = beginning_in s in
      let less = runs_reduce.run false b (whole_log w) (uncarried_far s valid (whole_log w) on.played).run in
      record {
        run = record {
          course = subst (λ x. IsCourse x w.log) (sym on.beginning) (subst (IsCourse b) on.plain less.course);
          going = plain_run.going;
          steps = subst (λ x. HaveNames x.settings w.log) (sym on.beginning) (subst (HaveNames b.settings) on.plain less.steps);
        };
        settings = ap (λ x. x.settings) on.beginning;
        agrees = agrees;
        runs = on.unstopped;
      }

begin_same : (b : Beginning) → reduced (begin_record b ∷ []) ≡ begin_record b ∷ []
unfolding is_added
begin_same b = refl

-- a run that has just begun
pub starts_run : (s : ScenarioValue) (b : Beginning) (run : Run) → IsScript s → b.settings ≡ s.settings → b.frames ≡ s.frames
    → b.members ≡ s.members → run.begun ≡ 0 → run.choice ≡ Nothing → HasBegun b run.world → IsRunOf s run
unfolding chosen_after
starts_run s b run valid settings frames members none nothing begun =
    let w = run.world in
    let same : b ≡ beginning_in s =
    ap (λ p. record { settings = p; frames = b.frames; members = b.members }) settings
    ∙ ap (λ n. record { settings = s.settings; frames = n; members = b.members }) frames
    ∙ ap (λ names. record { settings = s.settings; frames = s.frames; members = names }) members in
    let first : List Record = begin_record (beginning_in s) ∷ [] in
    let log : w.log ≡ first = begun.log ∙ ap (λ x. begin_record x ∷ []) same in
    let whole : whole_log w ≡ first = ap (woven w.log) begun.added ∙ woven_nothing w.log ∙ log in
    record {
      valid = valid;
      goes_on = record {
        played = subst (IsUncarriedPlayed s) (sym whole) (starts_with s (uncarried_next_group s));
        plain = ap reduced whole ∙ begin_same (beginning_in s) ∙ sym log;
        beginning = begun.beginning ∙ same;
        noted = begun.refused;
        unstopped = begun.goes_on;
      };
      begun = none ∙ sym (ap begun_count log);
      choice = subst (IsChoiceOf (chosen_in w.log)) (sym nothing)
          (subst (λ l. (count : ℕ) → place_by (chosen_in l) count ≡ None) (sym log) (λ count. refl));
    }

-- ---- the index of the next step

index_one : (item : Record) (items : List Record) → filter_map begun_index items ≡ filter_map index_of items
    → filter_map begun_index (item ∷ items) ≡ filter_map index_of (item ∷ items)
unfolding begun_index index_of
index_one (StepRecord index step) items same = ap (λ l. index ∷ l) same
index_one item items same = same

indices_same : (log : List Record) → filter_map begun_index log ≡ filter_map index_of log
indices_same [] = refl
indices_same (item ∷ items) = index_one item items (indices_same items)

last_push : (o : Option ℕ) (xs : List ℕ) (x : ℕ) → last_or o (xs ++ x ∷ []) ≡ Some x
last_push o [] x = refl
last_push o (y ∷ xs) x = last_push (Some y) xs x

-- the last of so many numbers from 1 on
last_number : (count : ℕ) → unwrap_or (last_or None (range_with_len 1 count)) 0 ≡ count
last_number zero = refl
last_number (suc count) =
    let all : range_with_len 1 count ++ (1 + count) ∷ [] ≡ range_with_len 1 (count + 1) = range-append 1 count 1 in
    let more : range_with_len 1 (count + 1) ≡ range_with_len 1 (suc count) = ap (range_with_len 1) (let e : count + 1 ≡ suc count = omega arith in e) in
    let last : last_or None (range_with_len 1 (suc count)) ≡ Some (1 + count) =
    sym (ap (last_or None) (all ∙ more)) ∙ last_push None (range_with_len 1 count) (1 + count) in
    ap (λ o. unwrap_or o 0) last ∙ (let e : 1 + count ≡ suc count = omega arith in e)

pub next_index : (s : ScenarioValue) (w : WorldValue) → IsScript s → IsPlayed s w.log → begun_count w.log < length s.steps
    → IsNextIndex w (begun_count w.log + 1)
next_index s w valid played left =
    let indices = indices_same w.log ∙ played_indices s w.log played in
    let few = valid.steps_to in
    let last : last_index w.log ≡ begun_count w.log = ap (λ l. unwrap_or (last_or None l) 0) indices ∙ last_number (begun_count w.log) in
    record { above = omega (arith, last); most = omega (arith, left, few) }

-- ---- the frame that is due

by_within_step : (step : Option Step) (taken count place : ℕ)
    → option_and_then (λ s. place_chosen s taken count) step ≡ Some place → place < count
by_within_step None taken count place is = absurd (cc)
by_within_step (Some step) taken count place is = chosen_within step taken count place is

module _ (log : List Record) (count : ℕ) (all : count ≡ length (outstanding log)) where
  due_at : (place : Option ℕ) → place_by (chosen_in log) count ≡ place → number_due log ≡ option_and_then (slice_get (outstanding log)) place
  due_at place is =
      ap (option_and_then (slice_get (outstanding log))) (ap (place_by (chosen_in log)) (sym all) ∙ is)

  -- if no place is chosen, no frame is due
  pub none_due : place_by (chosen_in log) count ≡ None → number_due log ≡ None
  none_due is = due_at None is

  -- the number of the frame at the place that is chosen
  pub record IsDueAt (place : ℕ) : Type 0 where
    pub number : ℕ
    pub at : slice_get (outstanding log) place ≡ Some number
    pub due : number_due log ≡ Some number

  pub frame_due : (place : ℕ) → place_by (chosen_in log) count ≡ Some place → IsDueAt place
  frame_due place is =
      let within : place < length (outstanding log) =
      subst (λ n. place < n) all (by_within_step (chosen_in log).step (chosen_in log).taken count place is) in
      let at = slice_get-get_or (outstanding log) place 0 within in
      record { number = get_or (outstanding log) place 0; at = at; due = due_at (Some place) is ∙ at }

-- what holds of each element holds of that at a place
pub all_at : {X : Type 0} (P : X → Type 0) (xs : List X) (i : ℕ) (x : X) → All P xs → slice_get xs i ≡ Some x → P x
all_at P xs i x all at = subst P (get_or_from_slice_get xs i x x at) (all i x (slice_get_within xs i x at))

-- ---- which group comes next

-- whether there is one
some_map : {X Y : Type 0} (f : X → Y) (o : Option X) → is_some (option_map f o) ≡ is_some o
some_map f None = refl
some_map f (Some x) = refl

module _ (s : ScenarioValue) (log : List Record) where
  pub frame_next : (number : ℕ) → number_due log ≡ Some number → next_group s log ≡ Some (taken_group s.settings log number)
  frame_next number due = ap (group_after s log) due

  pub step_next : (step : Step) → number_due log ≡ None → next_step s log ≡ Some step
      → next_group s log ≡ Some (step_group s.settings log (begun_count log + 1) step)
  step_next step none is =
      ap (group_after s log) none ∙ ap (option_map (step_group s.settings log (begun_count log + 1))) is

  -- whether one does
  pub is_more_frame : is_some (number_due log) ≡ true → is_some (next_group s log) ≡ true
  is_more_frame some = by_due (number_due log) some
    where
      by_due : (due : Option ℕ) → is_some due ≡ true → is_some (group_after s log due) ≡ true
      by_due (Some number) some = refl
      by_due None some = absurd (cc)

  pub is_more_step : number_due log ≡ None → is_some (next_group s log) ≡ is_some (next_step s log)
  is_more_step none = ap (λ due. is_some (group_after s log due)) none ∙ some_map (step_group s.settings log (begun_count log + 1)) (next_step s log)

-- whether there is an element at a place
pub some_at : {X : Type 0} (xs : List X) (i : ℕ) → is_some (slice_get xs i) ≡ nat_lt i (length xs)
some_at [] i = sym (le-ltb i 0 (omega arith))
some_at (x ∷ xs) i = elim (cases_lt i (length (x ∷ xs))) [
  | inl within ↦ ap is_some (slice_get-get_or (x ∷ xs) i x within) ∙ sym (lt-ltb i (length (x ∷ xs)) within)
  | inr past ↦ ap is_some (slice_get_past (x ∷ xs) i past) ∙ sym (le-ltb i (length (x ∷ xs)) past)
]

-- if a place is chosen, or none
module _ (s : ScenarioValue) (log : List Record) (count : ℕ) (all : count ≡ length (outstanding log)) where
  pub more_frame : is_some (place_by (chosen_in log) count) ≡ true → is_some (next_group s log) ≡ true
  more_frame some = by_place (place_by (chosen_in log) count) refl some
    where
      by_place : (place : Option ℕ) → place_by (chosen_in log) count ≡ place → is_some place ≡ true → is_some (next_group s log) ≡ true
      by_place (Some place) is some = is_more_frame s log (ap is_some (frame_due log count all place is).due)
      by_place None is some = absurd (cc)

  pub more_step : is_some (place_by (chosen_in log) count) ≡ false → is_some (next_group s log) ≡ nat_lt (begun_count log) (length s.steps)
  more_step none = by_place (place_by (chosen_in log) count) refl none
    where
      by_place : (place : Option ℕ) → place_by (chosen_in log) count ≡ place → is_some place ≡ false
          → is_some (next_group s log) ≡ nat_lt (begun_count log) (length s.steps)
      by_place (Some place) is none = absurd (cc)
      by_place None is none = is_more_step s log (none_due log count all is) ∙ some_at s.steps (begun_count log)

-- with the roots that it tells, or without them
module _ (s : ScenarioValue) (w : WorldValue) (on : WorldGoesOn s w) where
  pub whole_more : is_some (uncarried_next_group s (whole_log w)) ≡ is_some (next_group s w.log)
  whole_more =
      some_map (with_roots s.settings (whole_log w)) (next_group s (reduced (whole_log w))) ∙ ap (λ l. is_some (next_group s l)) on.plain

  plain_none : uncarried_next_group s (whole_log w) ≡ None → next_group s w.log ≡ None
  plain_none none = subst (λ l. next_group s l ≡ None) on.plain (none_back s (whole_log w) (next_group s (reduced (whole_log w))) none)

  -- all steps were begun, if none comes
  pub all_begun : IsScript s → uncarried_next_group s (whole_log w) ≡ None → begun_count w.log ≡ length s.steps
  all_begun valid none = ap length (played_all s w.log (plain_run s valid w on) (plain_none none))
