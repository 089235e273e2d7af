-- The reduced log of a run, carried or not, is that of a run.
-- Cited above: runs_reduce
use Rattle.std.proofs.Common.{◌≡◌, ℕ, Bool, true, false, List, [], ◌∷◌, ◌++◌, length, take, drop, All, None, refl, ap, sym, subst, ◌∙◌, arith, append-nil}
use Rattle.std.specs.List.{cons_option}
use Rattle.std.proofs.lemmas.Bool.{false≢true}
use Rattle.std.proofs.lemmas.List.{take-append-drop, take-append-le, take_all}
use Rattle.std.proofs.lemmas.List.Elements.{All-append, All-cons, All-head, All-nil, All-tail, All-take, filter_map-append}
use Rattle.tap_name.specs.Settings.{SettingsValue}
use Rattle.tap_scenario.specs.declared.step.Step.{Step}
use Rattle.tap_log.specs.declared.record.Record.{Record}
use Rattle.tap_log.specs.declared.record.Record.TheVariants.{Step as StepRecord, Taken}
use Rattle.tap_log.specs.Kinds.{begins_group, step_of}
use Rattle.tap_log.specs.Log.{begun_steps}
use Rattle.tap_log.specs.Reduced.{is_added, reduced}
use Rattle.tap_history.specs.Groups.{ends_log, is_ended}
use Rattle.tap_history.specs.Moments.{is_moment}
use Rattle.tap_runs.specs.Beginning.{Beginning, IsWithinLimits, begin_record}
use Rattle.tap_runs.specs.Course.{Follows, IsCourse, system_of}
use Rattle.tap_runs.specs.Named.{HasNames, HaveNames}
use Rattle.tap_runs.proofs.CourseGrows.{course_grows_holds}
use Rattle.tap_carried.specs.LogTurns.{IsPlainRecord, IsTurn, Turn, beginning_records, group_of_turn, log_after_turns}
use Rattle.tap_carried.specs.LogTurns.Turn.{Arrives, Steps, Takes, Ticks}
use Rattle.tap_carried.specs.ReducedLogs.{kept_count}
use Rattle.tap_carried.specs.ReducedRuns.{IsRunOfTurns, ReducedFollows, ReducesToRun, RunsReduce, TurnFollows, TurnsFollow}
use Rattle.tap_carried.proofs.BeginningKept.{beginning_kept}
use Rattle.tap_carried.proofs.PlainRecords.{step_plain, taken_plain}
use Rattle.tap_carried.proofs.TurnGroups.{reduced-append, turn_reduced}
use Rattle.tap_carried.proofs.TurnsKept.{IsKept, front_is, turn_kept}

-- ---- the steps of a group

plain_no_step : (item : Record) → IsPlainRecord item → step_of item ≡ None
unfolding begins_group
plain_no_step (StepRecord index step) is = absurd (false≢true (sym is.uncarried))
plain_no_step item is = refl

none_begun : (items : List Record) → All IsPlainRecord items → begun_steps items ≡ []
none_begun [] all = refl
none_begun (item ∷ items) all =
    ap (λ o. cons_option o (begun_steps items)) (plain_no_step item (All-head IsPlainRecord item items all))
    ∙ none_begun items (All-tail IsPlainRecord item items all)

step_named : (p : SettingsValue) (index : ℕ) (step : Step) (items : List Record) → HasNames p step → All IsPlainRecord items
    → HaveNames p (StepRecord index step ∷ items)
step_named p index step items names plain =
    subst (λ l. All (HasNames p) (step ∷ l)) (sym (none_begun items plain)) (All-cons (HasNames p) step [] names (All-nil (HasNames p)))

taken_named : (p : SettingsValue) (frame : ℕ) (items : List Record) → All IsPlainRecord items → HaveNames p (Taken frame ∷ items)
taken_named p frame items plain = subst (All (HasNames p)) (sym (none_begun items plain)) (All-nil (HasNames p))

-- ---- one more turn

-- a log, whose reduced log is that of a run
record IsRunning (c : Bool) (b : Beginning) (log : List Record) : Type 0 where
  kept : IsKept c log
  run : ReducesToRun b log

module _ (c : Bool) (b : Beginning) (log : List Record) (running : IsRunning c b log) where
  -- the group is one more of the reduced log
  more_reduced : (group follows : List Record) → reduced group ≡ follows → Follows b (reduced log) follows → HaveNames b.settings follows
      → ReducesToRun b (log ++ group)
  more_reduced group follows is may names =
      let whole : reduced (log ++ group) ≡ reduced log ++ follows = reduced-append log group ∙ ap (λ l. reduced log ++ l) is in
      let run = running.run in
      record {
        course = subst (IsCourse b) (sym whole) (course_grows_holds.course b (reduced log) follows run.course run.going may);
        going = ap is_ended whole ∙ course_grows_holds.going b (reduced log) follows run.course run.going may;
        steps =
            subst (HaveNames b.settings) (sym whole)
            (subst (All (HasNames b.settings)) (sym (filter_map-append step_of (reduced log) follows))
            (All-append (HasNames b.settings) (begun_steps (reduced log)) (begun_steps follows) run.steps names));
      }

  -- the reduced log has nothing of the group
  same_reduced : (group : List Record) → reduced group ≡ [] → ReducesToRun b (log ++ group)
  same_reduced group is =
      let whole : reduced (log ++ group) ≡ reduced log =
      reduced-append log group ∙ ap (λ l. reduced log ++ l) is ∙ append-nil (reduced log) in
      let run = running.run in
      record {
        course = subst (IsCourse b) (sym whole) run.course;
        going = ap is_ended whole ∙ run.going;
        steps = subst (HaveNames b.settings) (sym whole) run.steps;
      }

  is_turn : (turn : Turn) → TurnFollows c b log turn → IsTurn c turn
  is_turn (Steps index step items added) follows = (
    step_plain b.settings (reduced log) (system_of (reduced log)) running.kept.reduced_begun running.kept.uncarried index step items
        follows.0.0.may,
    follows.1,
  )
  is_turn (Takes packet frame items added) follows = (
    taken_plain b.settings (reduced log) (system_of (reduced log)) running.kept.reduced_begun running.kept.uncarried frame items
        follows.0.may,
    follows.1,
  )
  is_turn (Arrives packet added) follows = (tt, follows.1)
  is_turn (Ticks added) follows = (tt, follows.1)

  goes_on : (turn : Turn) → ReducedFollows b log turn → IsTurn c turn → ReducesToRun b (log ++ group_of_turn c turn)
  goes_on (Steps index step items added) follows is =
      more_reduced (group_of_turn c (Steps index step items added)) (StepRecord index step ∷ items)
      (turn_reduced c (Steps index step items added) is) follows.0 (step_named b.settings index step items follows.1 is.0)
  goes_on (Takes packet frame items added) follows is =
      more_reduced (group_of_turn c (Takes packet frame items added)) (Taken frame ∷ items)
      (turn_reduced c (Takes packet frame items added) is) follows (taken_named b.settings frame items is.0)
  goes_on (Arrives packet added) follows is =
      same_reduced (group_of_turn c (Arrives packet added)) (turn_reduced c (Arrives packet added) is)
  goes_on (Ticks added) follows is = same_reduced (group_of_turn c (Ticks added)) (turn_reduced c (Ticks added) is)

  running_more : (turn : Turn) → TurnFollows c b log turn → IsRunning c b (log ++ group_of_turn c turn)
  running_more turn follows =
      let is = is_turn turn follows in
      record { kept = turn_kept c log turn running.kept is; run = goes_on turn follows.0 is }

-- ---- all turns

running_on : (c : Bool) (b : Beginning) (log : List Record) (turns : List Turn) → IsRunning c b log → TurnsFollow c b log turns
    → IsRunning c b (log_after_turns c log turns)
running_on c b log [] running follow = running
running_on c b log (turn ∷ turns) running follow =
    running_on c b (log ++ group_of_turn c turn) turns (running_more c b log running turn follow.0) follow.1

beginning_reduced : (c : Bool) (b : Beginning) → reduced (beginning_records c b) ≡ begin_record b ∷ []
unfolding is_added
beginning_reduced true b = refl
beginning_reduced false b = refl

begins_going : (b : Beginning) → is_ended (begin_record b ∷ []) ≡ false
unfolding ends_log
begins_going b = refl

beginning_running : (c : Bool) (b : Beginning) → IsWithinLimits b → IsRunning c b (beginning_records c b)
beginning_running c b limits =
    let is = beginning_reduced c b in
    record {
      kept = beginning_kept b c;
      run = record {
        course = subst (IsCourse b) (sym is) (course_grows_holds.starts b limits);
        going = ap is_ended is ∙ begins_going b;
        steps = subst (HaveNames b.settings) (sym is) (All-nil (HasNames b.settings));
      };
    }

running_log : (c : Bool) (b : Beginning) (log : List Record) → IsRunOfTurns c b log → IsRunning c b log
running_log c b log is =
    subst (IsRunning c b) (sym is.is) (running_on c b (beginning_records c b) is.turns (beginning_running c b is.limits) is.follow)

-- ---- each moment

front_named : (p : SettingsValue) (front more : List Record) → HaveNames p (front ++ more) → HaveNames p front
front_named p front more names =
    let steps = begun_steps front in
    let both : All (HasNames p) (steps ++ begun_steps more) = subst (All (HasNames p)) (filter_map-append step_of front more) names in
    subst (All (HasNames p)) (take-append-le (length steps) steps (begun_steps more) (omega arith) ∙ take_all (length steps) steps (omega arith))
    (All-take (HasNames p) (length steps) (steps ++ begun_steps more) both)

at_moment : (c : Bool) (b : Beginning) (log : List Record) (m : ℕ) → IsRunning c b log → is_moment log m ≡ true → ReducesToRun b (take m log)
at_moment c b log m running is =
    let k = kept_count log m in
    let run = running.run in
    let at = course_grows_holds.moments b (reduced log) run.course run.going k (running.kept.moments m is) in
    let front : take k (reduced log) ≡ reduced (take m log) = sym (front_is log m) in
    record {
      course = subst (IsCourse b) front at.0;
      going = ap is_ended (sym front) ∙ at.1;
      steps =
          subst (HaveNames b.settings) front
          (front_named b.settings (take k (reduced log)) (drop k (reduced log))
          (subst (HaveNames b.settings) (sym (take-append-drop k (reduced log))) run.steps));
    }

pub runs_reduce : RunsReduce
runs_reduce = record {
  turns = λ c b log is. (running_log c b log is).kept.log_is;
  run = λ c b log is. (running_log c b log is).run;
  at = λ c b log m is moment. at_moment c b log m (running_log c b log is) moment;
}
