-- What holds of each group that may follow the run before it holds of each group of a run; so each says what is right, after the records before it.
-- Cited above: each_of_run, groups_are_right, StandsIn
use Rattle.std.proofs.Common.{◌≡◌, List, [], ◌∷◌, ◌++◌, sym, subst, ◌∙◌, append_assoc}
use Rattle.std.proofs.lemmas.List.Elements.{All-head}
use Rattle.tap_scenario.specs.declared.step.Step.TheVariants.{Root, Walk}
use Rattle.tap_log.specs.declared.record.Record.{Record}
use Rattle.tap_log.specs.declared.record.Record.TheVariants.{Step as StepRecord, Taken}
use Rattle.tap_log.specs.Log.{begun_steps}
use Rattle.tap_history.specs.Groups.{EachGroup, EachGroupFrom, groups_of, records_of}
use Rattle.tap_runs.specs.Named.{HasNames, HaveNames}
use Rattle.tap_runs.specs.Beginning.{Beginning, begin_record}
use Rattle.tap_runs.specs.Course.{Follows}
use Rattle.tap_runs.proofs.CourseGrows.{log_is}
use Rattle.tap_safe_runs.specs.Each.{GroupsAreRight, IsRight}
use Rattle.tap_safe_runs.specs.Safe.{IsRun}
use Rattle.tap_safe_runs.proofs.Printed.{roots_are_found, walks_are_to_roots}
use Rattle.tap_safe_runs.proofs.Safe.{run_begins, run_more, steps_after, steps_before}
use Rattle.tap_safe_runs.proofs.Received.{frames_are_received}

module _ (b : Beginning) (log : List Record) where
  -- the group follows a run, and other groups follow it, up to the end of the log
  pub record StandsIn (before group : List Record) : Type 0 where
    pub run : IsRun b before
    pub follows : Follows b before group
    pub steps : HaveNames b.settings group
    pub later : List (List Record)
    pub each : EachGroupFrom (Follows b) (before ++ group) later
    pub names : HaveNames b.settings (records_of later)
    pub are : (before ++ group) ++ records_of later ≡ log

  module _ (P : List Record → List Record → Type 0) (holds : (before group : List Record) → StandsIn before group → P before group) where
    each_from : (before : List Record) (groups : List (List Record)) → IsRun b before → HaveNames b.settings (records_of groups)
        → EachGroupFrom (Follows b) before groups → before ++ records_of groups ≡ log → EachGroupFrom P before groups
    each_from before [] run names each are = tt
    each_from before (group ∷ groups) run names each are =
        let steps = steps_before b.settings group (records_of groups) names in
        let later = steps_after b.settings group (records_of groups) names in
        let here = append_assoc before group (records_of groups) ∙ are in (
          holds before group (record {
            run = run;
            follows = each.0;
            steps = steps;
            later = groups;
            each = each.1;
            names = later;
            are = here;
          }),
          each_from (before ++ group) groups (run_more b before group run each.0 steps) later each.1 here,
        )

    pub each_of_run : IsRun b log → EachGroup P log
    each_of_run run =
        let groups = groups_of log in
        let start = begin_record b ∷ [] in
        let is = log_is b log run.course run.going in
        let all : HaveNames b.settings (start ++ records_of groups) = subst (HaveNames b.settings) (sym is) run.steps in
        subst (λ l. EachGroupFrom P l groups) (sym run.course.begins)
        (each_from start groups (run_begins b run.course.limits) (steps_after b.settings start (records_of groups) all)
        (subst (λ l. EachGroupFrom (Follows b) l groups) run.course.begins run.course.each) is)

-- ---- what each group says

module _ (b : Beginning) where
  -- a group that may follow a run
  right : (before group : List Record) → IsRun b before → HaveNames b.settings group → Follows b before group
      → IsRight b.settings before group
  unfolding IsRight
  right before (StepRecord index (Walk object from) ∷ items) run steps follows =
      let named = All-head (HasNames b.settings) (Walk object from) (begun_steps items) steps in
      walks_are_to_roots b before index object from items run named.0 follows
  right before (StepRecord index (Root object) ∷ items) run steps follows =
      roots_are_found b before index object items run (All-head (HasNames b.settings) (Root object) (begun_steps items) steps) follows
  right before (Taken number ∷ items) run steps follows = frames_are_received b before number items run follows
  right before group run steps follows = tt

pub groups_are_right : GroupsAreRight
groups_are_right b log run =
    each_of_run b log (IsRight b.settings) (λ before group stands. right b before group stands.run stands.steps stands.follows) run
