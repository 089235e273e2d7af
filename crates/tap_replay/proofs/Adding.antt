-- The group that comes next in the run of a scenario is added.
use Rattle.std.proofs.Common.{◌≡◌, ℕ, ◌+◌, ◌<◌, ◌≤◌, Bool, true, false, List, [], ◌∷◌, ◌++◌, length, All, None, Some, Result, Ok, Err, refl, ap, sym, subst, ◌∙◌, arith, append-nil, length-append, ◌≢◌}
use Rattle.std.specs.Prelude.{if◌then◌else◌, nat_le, slice_get, IsTrue}
use Rattle.std.specs.List.{filter_map}
use Rattle.std.specs.Option.{option_map}
use Rattle.std.proofs.lemmas.Bool.{leb-false, leb-true}
use Rattle.std.proofs.lemmas.List.Elements.{filter_map-append}
use Rattle.tap_scenario.specs.declared.step.Step.{Step}
use Rattle.tap_scenario.specs.Scenario.{ScenarioValue}
use Rattle.tap_name.specs.Settings.{SettingsValue}
use Rattle.tap_log.specs.declared.record.Record.{Record}
use Rattle.tap_log.specs.declared.record.Record.TheVariants.{Spent as SpentRecord, Step as StepRecord, Taken, Finished}
use Rattle.tap_log.specs.Counts.{sent_count}
use Rattle.tap_log.specs.Kinds.{step_of}
use Rattle.tap_log.specs.Log.{begun_steps}
use Rattle.tap_history.specs.Moments.{outstanding}
use Rattle.tap_runs.specs.Course.{MayFollow, system_of}
use Rattle.tap_runs.proofs.Frames.{none_of}
use Rattle.tap_runs.proofs.Nodes.{no_steps}
use Rattle.tap_runs.proofs.Within.{Within, step_within, taken_within}
use Rattle.tap_engine.specs.Outcome.{WorldAnswersAs, WorldOutcome, adds, adds_within, deliver_outcome, is_within, spends, takes_number, finish_outcome}
use Rattle.tap_engine.specs.World.{WorldValue, whole_log, HasNodesOfLog}
use Rattle.tap_engine.specs.declared.stop.Stop.{Stop}
use Rattle.tap_engine.specs.declared.stop.Stop.TheVariants.{Ended, NoMemory, Refused, Spent}
use Rattle.tap_lawful.specs.Due.{chosen_in, number_due, place_by}
use Rattle.tap_lawful.specs.Next.{begun_count, next_group, next_step, uncarried_next_group, group_after}
use Rattle.tap_runs.specs.Groups.{step_group, taken_group}
use Rattle.tap_lawful.specs.Lawful.{step_alone, ComesNext, IsUncarriedPlayed, UncarriedComesNext}
use Rattle.tap_lawful.proofs.Choosing.{chosen_by_frame, chosen_by_step}
use Rattle.tap_lawful.proofs.Coming.{comes_may}
use Rattle.tap_replay.specs.Choice.{IsChoiceOf, begun_by, one_more_taken}
use Rattle.tap_replay.specs.Run.{AddsGroup, AddsNext, HasAdded, HasLacked, IsRunOf, AddsComing}
use Rattle.tap_replay.specs.StepCalls.{run_outcome}
use Rattle.tap_replay.specs.declared.run.Run.{Run}
use Rattle.tap_replay.proofs.Stepping.{ended_not_short, failed, refused_not_short, spent_not_short, unless_goes, went_not_failed, went_not_short}
use Rattle.tap_scenario.specs.Step.{asks_no_roots}
use Rattle.tap_scenario.specs.declared.step.Step.TheVariants.{RootSet}
use Rattle.tap_log.specs.Reduced.{reduced}
use Rattle.tap_log.proofs.MoreRecords.{sent_count-append}
use Rattle.tap_history.specs.Refusals.{first_refusal}
use Rattle.tap_ledger.specs.Woven.{RemarksWithin}
use Rattle.tap_carried.specs.ReducedLogs.{starts_or_observes}
use Rattle.tap_engine.proofs.WholeLogs.{whole_grows, whole_short}
use Rattle.tap_root_sets.specs.AskedRoots.{AnswersRootSet}
use Rattle.tap_lawful.specs.CarriedNext.{begun_group}
use Rattle.tap_lawful.specs.RootSets.{with_roots}
use Rattle.tap_lawful.proofs.Uncarried.{ComesReduced, grown_is, same_sent, uncarried_far}
use Rattle.tap_lawful.proofs.UncarriedLogs.{uncarried_more}
use Rattle.tap_replay.proofs.Roots.{root_set_group, root_set_unsent, step_alone_is, taken_alone_is}
use Rattle.tap_replay.proofs.Running.{IsDueAt, agrees, frame_due, frame_next, plain_run, step_next, all_begun}
use Rattle.tap_replay.specs.Player.{IsLeft}
use Rattle.tap_replay.specs.declared.end.End.TheVariants.{Done, Spent as EndSpent}
use Rattle.std.proofs.lemmas.Option.{slice_get_past}

-- ---- what a group begins

module _ (p : SettingsValue) (log : List Record) where
  begun-append : (group : List Record) → begun_count (log ++ group) ≡ begun_count log + begun_count group
  begun-append group = ap length (filter_map-append step_of log group) ∙ length-append (begun_steps log) (begun_steps group)

  begun_first : (first : Record) (items : List Record) → All Within items → begun_count (first ∷ items) ≡ begun_count (first ∷ [])
  begun_first first items all =
      ap length (filter_map-append step_of (first ∷ []) items ∙ ap (λ l. filter_map step_of (first ∷ []) ++ l) (none_of step_of items (no_steps items all))
      ∙ append-nil (filter_map step_of (first ∷ [])))

  -- a step one more
  begun_by_step : (index : ℕ) (step : Step) → MayFollow p log (system_of log) (step_group p log index step)
      → begun_count (log ++ step_group p log index step) ≡ begun_count log + 1
  unfolding MayFollow
  begun_by_step index step may =
      begun-append (step_group p log index step)
      ∙ ap (λ n. begun_count log + n) (begun_first (StepRecord index step) _ (step_within p log (system_of log) index step _ may))

  -- a frame that is taken none
  begun_by_frame : (number : ℕ) → MayFollow p log (system_of log) (taken_group p log number)
      → begun_count (log ++ taken_group p log number) ≡ begun_count log
  unfolding MayFollow
  begun_by_frame number may =
      begun-append (taken_group p log number)
      ∙ ap (λ n. begun_count log + n) (begun_first (Taken number) _ (taken_within p log (system_of log) number _ may))
      ∙ (let none : begun_count log + 0 ≡ begun_count log = omega arith in none)

step_stands : (p : SettingsValue) (log : List Record) (index : ℕ) (step : Step)
    → step_alone (step_group p log index step) ≡ StepRecord index step ∷ []
unfolding step_alone
step_stands p log index step = refl

frame_stands : (p : SettingsValue) (log : List Record) (number : ℕ) → step_alone (taken_group p log number) ≡ []
unfolding step_alone
frame_stands p log number = refl

-- ---- the group is added

-- with the group so many steps have begun, and this is chosen
record HasChosen (log plain : List Record) (after : Run) : Type 0 where
  begun : after.begun ≡ begun_count (log ++ plain)
  choice : IsChoiceOf (chosen_in (log ++ plain)) after.choice

-- The plain records come next after the log of plain records. With the roots that they tell they are the group.
module _ (s : ScenarioValue) (before after : Run) (of : IsRunOf s before) (plain : List Record)
    (next : next_group s before.world.log ≡ Some plain) (chosen : HasChosen before.world.log plain after) where
  abbrev w : WorldValue
  w = before.world

  abbrev v : WorldValue
  v = after.world

  abbrev whole : List Record
  whole = whole_log before.world

  abbrev group : List Record
  group = with_roots s.settings whole plain

  abbrev in_reduced : ComesReduced s whole group
  in_reduced = record { plain = plain; comes = subst (λ l. ComesNext s l plain) (sym of.goes_on.plain) next; is = refl }

  comes : UncarriedComesNext s whole group
  comes = ap (option_map (with_roots s.settings whole)) in_reduced.comes

  -- roots send no frame
  sends_same : sent_count (w.log ++ plain) ≡ sent_count (whole ++ group)
  sends_same = ap (λ l. sent_count (l ++ plain)) (sym of.goes_on.plain) ∙ same_sent s of.valid whole group in_reduced

  -- both logs have grown, and the world goes on
  record HasGrown : Type 0 where
    log : v.log ≡ w.log ++ plain
    whole_is : whole_log v ≡ whole ++ group
    beginning : v.beginning ≡ w.beginning
    noted : v.refused ≡ None
    runs : v.stopped ≡ false

  grown : HasGrown → sent_count (whole ++ group) ≤ s.frames → HasAdded s group before after
  grown so few =
      let on = of.goes_on in
      let less = grown_is s of.valid whole group (uncarried_far s of.valid whole on.played).run in_reduced few in
      record {
        log = so.whole_is;
        run = record {
          valid = of.valid;
          goes_on = record {
            played = subst (IsUncarriedPlayed s) (sym so.whole_is) (uncarried_more s of.valid whole group on.played comes few);
            plain = ap reduced so.whole_is ∙ less ∙ ap (λ l. l ++ plain) on.plain ∙ sym so.log;
            beginning = so.beginning ∙ on.beginning;
            noted = so.noted;
            unstopped = so.runs;
          };
          begun = chosen.begun ∙ ap begun_count (sym so.log);
          choice = subst (λ l. IsChoiceOf (chosen_in l) after.choice) (sym so.log) chosen.choice;
        };
      }

  -- it is the one that comes next
  as_next : (given : Result (Unit {0}) Stop) → AddsGroup s group before given after → AddsNext s before given after
  as_next given adds = subst (λ n. AddsComing s n before given after) (sym comes) adds

  -- ---- by a call that adds plain records alone

  module _ (within : RemarksWithin w.log w.added) (alone : group ≡ plain) where
    goes_added : WorldAnswersAs (adds w plain) w (Ok tt) v → sent_count (whole ++ group) ≤ s.frames → HasAdded s group before after
    goes_added so few =
        let other = went_not_short in
        let log : v.log ≡ w.log ++ plain = so.log other in
        grown
        (record {
          log = log;
          whole_is = whole_grows w v plain within log so.added ∙ ap (λ g. whole ++ g) (sym alone);
          beginning = so.beginning;
          noted = so.refused other ∙ of.goes_on.noted;
          runs = so.stopped other ∙ of.goes_on.unstopped;
        })
        few

    -- memory was refused
    lacked : (outcome : WorldOutcome) → WorldAnswersAs outcome w (Err NoMemory) v → HasLacked s before after
    lacked outcome so = record {
      log = whole_short outcome w v (Err NoMemory) so refl;
      left = record { beginning = so.beginning ∙ of.goes_on.beginning; noted = (so.memory refl).refused ∙ of.goes_on.noted };
    }

    added : (given : Result (Unit {0}) Stop) → sent_count (whole ++ group) ≤ s.frames → WorldAnswersAs (adds w plain) w given v
        → AddsGroup s group before given after
    added (Ok tt) few so = goes_added so few
    added (Err NoMemory) few so = lacked (adds w plain) so
    added (Err Spent) few so = absurd (went_not_failed Spent (so.answer spent_not_short))
    added (Err (Refused refusal)) few so = absurd (went_not_failed (Refused refusal) (so.answer (refused_not_short refusal)))
    added (Err Ended) few so = absurd (went_not_failed Ended (so.answer ended_not_short))

    spent : (given : Result (Unit {0}) Stop) (first : List Record) → step_alone plain ≡ first → s.frames < sent_count (whole ++ group)
        → WorldAnswersAs (spends w first) w given v → AddsGroup s group before given after
    spent (Err Spent) first stands over so = record {
      over = over;
      log =
          whole_grows w v (first ++ SpentRecord w.beginning.frames ∷ []) within (so.log spent_not_short) so.added
          ∙ ap (λ l. whole ++ (l ++ SpentRecord w.beginning.frames ∷ [])) (sym (ap step_alone alone ∙ stands))
          ∙ ap (λ b. whole ++ (step_alone group ++ SpentRecord b.frames ∷ [])) of.goes_on.beginning;
      left = record { beginning = so.beginning ∙ of.goes_on.beginning; noted = so.refused spent_not_short ∙ of.goes_on.noted };
      stopped = so.stopped spent_not_short;
    }
    spent (Err NoMemory) first stands over so = lacked (spends w first) so
    spent (Ok tt) first stands over so = absurd (went_not_failed Spent (sym (so.answer went_not_short)))
    spent (Err (Refused refusal)) first stands over so =
        absurd (let never : failed (Refused refusal) ≡ failed Spent = so.answer (refused_not_short refusal) in cc)
    spent (Err Ended) first stands over so =
        absurd (let never : failed Ended ≡ failed Spent = so.answer ended_not_short in cc)

    by_within : (given : Result (Unit {0}) Stop) (first : List Record) → step_alone plain ≡ first → (few : Bool)
        → is_within w.beginning w.log plain ≡ few → WorldAnswersAs (if few then adds w plain else spends w first) w given v
        → AddsGroup s group before given after
    by_within given first stands true is so =
        let few : sent_count (w.log ++ plain) ≤ s.frames =
        leb-true _ _ (ap (λ b. nat_le (sent_count (w.log ++ plain)) b.frames) (sym of.goes_on.beginning) ∙ is) in
        added given (subst (λ n. n ≤ s.frames) sends_same few) so
    by_within given first stands false is so =
        let over : s.frames < sent_count (w.log ++ plain) =
        leb-false _ _ (ap (λ b. nat_le (sent_count (w.log ++ plain)) b.frames) (sym of.goes_on.beginning) ∙ is) in
        spent given first stands (subst (λ n. s.frames < n) sends_same over) so

    -- the group that comes next is added as the outcome says
    adds_next : (given : Result (Unit {0}) Stop) (first : List Record) → step_alone plain ≡ first
        → WorldAnswersAs (adds_within w first plain) w given v → AddsNext s before given after
    adds_next given first stands so = as_next given (by_within given first stands (is_within w.beginning w.log plain) refl so)

  -- ---- by a root set

  module _ (index : ℕ) (object asker : List ℕ) (is : step_group s.settings w.log index (RootSet object asker) ≡ plain) where
    asked_group : begun_group s.settings whole index (RootSet object asker) ≡ group
    unfolding starts_or_observes
    asked_group =
        let same : first_refusal whole (RootSet object asker) ≡ first_refusal w.log (RootSet object asker) =
        sym ((agrees s of.valid w of.goes_on).refusals (RootSet object asker) refl)
        ∙ ap (λ l. first_refusal l (RootSet object asker)) of.goes_on.plain in
        root_set_group s.settings whole w.log index object asker same ∙ ap (with_roots s.settings whole) is

    -- it sends no frame
    asked_few : sent_count (whole ++ group) ≤ s.frames
    asked_few =
        let none : sent_count plain ≡ 0 = ap sent_count (sym is) ∙ root_set_unsent s.settings w.log index object asker in
        let all = sent_count-append w.log plain in
        let before_it = (plain_run s of.valid w of.goes_on).within in
        let few : sent_count (w.log ++ plain) ≤ s.frames = omega (arith, all, none, before_it) in
        subst (λ n. n ≤ s.frames) sends_same few

    asked : (given : Result (Unit {0}) Stop) → AnswersRootSet s.settings index object asker w given v → AddsGroup s group before given after
    asked (Ok tt) answers =
        grown
        (record {
          log = answers.log ∙ ap (λ l. w.log ++ l) is;
          whole_is = answers.whole ∙ ap (λ l. whole ++ l) asked_group;
          beginning = answers.left.beginning;
          noted = answers.left.noted;
          runs = answers.runs;
        })
        asked_few
    asked (Err NoMemory) answers = record {
      log = answers.whole;
      left = record { beginning = answers.left.beginning ∙ of.goes_on.beginning; noted = answers.left.noted };
    }
    asked (Err Spent) never = absurd never
    asked (Err (Refused refusal)) never = absurd never
    asked (Err Ended) never = absurd never

-- ---- a frame is taken

module _ (s : ScenarioValue) (before after : Run) (of : IsRunOf s before) (within : RemarksWithin before.world.log before.world.added) (place : ℕ)
    (is : place_by (chosen_in before.world.log) (length (outstanding before.world.log)) ≡ Some place) where
  due : IsDueAt before.world.log (length (outstanding before.world.log)) refl place
  due = frame_due before.world.log (length (outstanding before.world.log)) refl place is

  pub frame_adds : (given : Result (Unit {0}) Stop) → after.begun ≡ before.begun
      → IsChoiceOf (one_more_taken (chosen_in before.world.log)) after.choice
      → WorldAnswersAs (deliver_outcome before.world place) before.world given after.world → AddsNext s before given after
  frame_adds given begun choice so =
      let w = before.world in
      let next = frame_next s w.log due.number due.due in
      let group = taken_group s.settings w.log due.number in
      let may = comes_may s w.log group next in
      let outcome : deliver_outcome w place ≡ adds_within w [] group =
      unless_goes w (takes_number w (slice_get (outstanding w.log) place)) of.goes_on.unstopped ∙ ap (takes_number w) due.at
      ∙ ap (λ b. adds_within w [] (taken_group b.settings w.log due.number)) of.goes_on.beginning in
      adds_next s before after of group next (record {
        begun = begun ∙ of.begun ∙ sym (begun_by_frame s.settings w.log due.number may);
        choice = subst (λ c. IsChoiceOf c after.choice) (sym (chosen_by_frame s.settings w.log due.number may)) choice;
      }) within (taken_alone_is s.settings (whole_log w) w.log due.number) given [] (frame_stands s.settings w.log due.number)
      (subst (λ o. WorldAnswersAs o w given after.world) outcome so)

-- ---- a step begins

module _ (s : ScenarioValue) (before after : Run) (of : IsRunOf s before) (step : Step)
    (none : number_due before.world.log ≡ None) (at : next_step s before.world.log ≡ Some step)
    (begun : after.begun ≡ before.begun + 1) (choice : IsChoiceOf (begun_by step) after.choice) where
  abbrev index : ℕ
  index = begun_count before.world.log + 1

  abbrev step_plain : List Record
  step_plain = step_group s.settings before.world.log index step

  next : next_group s before.world.log ≡ Some step_plain
  next = step_next s before.world.log step none at

  chosen : HasChosen before.world.log step_plain after
  chosen =
      let log = before.world.log in
      let may = comes_may s log step_plain next in
      record {
        begun = begun ∙ ap (λ n. n + 1) of.begun ∙ sym (begun_by_step s.settings log index step may);
        choice = subst (λ c. IsChoiceOf c after.choice) (sym (chosen_by_step s.settings log index step may)) choice;
      }

  -- one that isn't a root set
  pub step_adds : (given : Result (Unit {0}) Stop) → RemarksWithin before.world.log before.world.added → IsTrue (asks_no_roots step)
      → WorldAnswersAs (run_outcome before.world index step) before.world given after.world → AddsNext s before given after
  step_adds given within played so =
      let w = before.world in
      let first : List Record = StepRecord index step ∷ [] in
      let outcome : run_outcome w index step ≡ adds_within w first step_plain =
      unless_goes w (adds_within w first (step_group w.beginning.settings w.log index step)) of.goes_on.unstopped
      ∙ ap (λ b. adds_within w first (step_group b.settings w.log index step)) of.goes_on.beginning in
      adds_next s before after of step_plain next chosen within (step_alone_is s.settings (whole_log w) w.log index step played) given first
      (step_stands s.settings w.log index step) (subst (λ o. WorldAnswersAs o w given after.world) outcome so)

  -- a root set
  pub root_set_adds : (object asker : List ℕ) (given : Result (Unit {0}) Stop) → step ≡ RootSet object asker
      → AnswersRootSet s.settings index object asker before.world given after.world → AddsNext s before given after
  root_set_adds object asker given is answers =
      let same : step_group s.settings before.world.log index (RootSet object asker) ≡ step_plain =
      ap (step_group s.settings before.world.log index) (sym is) in
      as_next s before after of step_plain next chosen given (asked s before after of step_plain next chosen index object asker same given answers)

-- ---- all steps were run

module _ (s : ScenarioValue) (run : Run) (of : IsRunOf s run) (within : RemarksWithin run.world.log run.world.added)
    (none : uncarried_next_group s (whole_log run.world) ≡ None) (given : Result (Unit {0}) Stop) (v : WorldValue)
    (answers : WorldAnswersAs (finish_outcome run.world run.begun) run.world given v) (enough : given ≢ Err NoMemory) where
  finishes : finish_outcome run.world run.begun ≡ adds run.world (Finished run.begun ∷ [])
  finishes = unless_goes run.world (adds run.world (Finished run.begun ∷ [])) of.goes_on.unstopped

  -- the log says how many
  pub finished_log : whole_log v ≡ whole_log run.world ++ Finished (length s.steps) ∷ []
  finished_log =
      whole_grows run.world v (Finished run.begun ∷ []) within (answers.log enough ∙ ap (λ o. o.log) finishes) answers.added
      ∙ ap (λ n. whole_log run.world ++ Finished n ∷ []) (of.begun ∙ all_begun s run.world of.goes_on of.valid none)

  runs_on : v.stopped ≡ false
  runs_on = answers.stopped enough ∙ ap (λ o. o.stopped) finishes ∙ of.goes_on.unstopped

  pub finished_left : (v.stopped ≡ false → HasNodesOfLog v) → IsLeft s Done v
  finished_left nodes = record {
    ended = (whole_log run.world, of.goes_on.played, record { none = none; log_is = finished_log });
    beginning = answers.beginning ∙ of.goes_on.beginning;
    noted = answers.refused enough ∙ ap (λ o. o.refused) finishes ∙ of.goes_on.noted;
    spent = λ same. let wrong : Done ≡ EndSpent = same in absurd (cc);
    done = λ _. runs_on;
    nodes = λ _. nodes runs_on;
  }

-- nothing comes next, and nothing is added
pub nothing_adds : (s : ScenarioValue) (run : Run) → IsRunOf s run → number_due run.world.log ≡ None
    → length s.steps ≤ begun_count run.world.log → AddsNext s run (Ok tt) run
nothing_adds s run of due past =
    let log = run.world.log in
    let whole = whole_log run.world in
    let plain : next_group s log ≡ None =
    ap (group_after s log) due
    ∙ ap (option_map (step_group s.settings log (begun_count log + 1))) (slice_get_past s.steps (begun_count log) past) in
    let none : uncarried_next_group s whole ≡ None =
    ap (option_map (with_roots s.settings whole)) (ap (next_group s) of.goes_on.plain ∙ plain) in
    subst (λ n. AddsComing s n run (Ok tt) run) (sym none) (refl, refl, of)
