-- What the log of a run and the longer one with its ending have in common.
-- Cited above: may_cut, may_finish, may_refuse, may_spend
use Rattle.std.proofs.Common.{◌≡◌, ◌⊎◌, inl, inr, ℕ, ◌<◌, Bool, true, false, All, List, [], ◌∷◌, ◌++◌, length, filter, None, Some, refl, ap, sym, ◌∙◌, append_assoc}
use Rattle.std.proofs.lemmas.List.Elements.{All-cons, All-nil}
use Rattle.tap_scenario.specs.declared.step.Step.{Step}
use Rattle.tap_log.specs.declared.record.Record.{Record}
use Rattle.tap_log.specs.declared.record.Record.TheVariants.{Finished, Spent, Step as StepRecord}
use Rattle.tap_log.specs.declared.record.Refusal.{Refusal}
use Rattle.tap_log.specs.Kinds.{begins_group, is_carried}
use Rattle.tap_history.specs.Core.{accepted_steps}
use Rattle.tap_history.specs.Groups.{beginning_of, groups_of}
use Rattle.tap_history.specs.Departing.{departing_of}
use Rattle.tap_history.specs.Moments.{is_moment}
use Rattle.tap_history.specs.Names.{names_of}
use Rattle.tap_history.specs.Published.{published_of}
use Rattle.tap_history.specs.Refusals.{first_refusal}
use Rattle.tap_history.specs.StepAsks.{is_start}
use Rattle.tap_runs.specs.Beginning.{Beginning}
use Rattle.tap_runs.specs.Course.{move_of_group, move_of_start, system_of}
use Rattle.tap_runs.specs.Group.{start_at}
use Rattle.tap_runs.proofs.Frames.{step_moves}
use Rattle.tap_safe_runs.specs.Safe.{IsRun}
use Rattle.tap_safe_runs.proofs.NeverAlone.{no_start_last}
use Rattle.tap_safe_runs.proofs.Ended.{IsOpen, SaysTheSame, cut_carried, cut_says, cut_system, finished_groups, finished_is_carried, finished_says, finished_system, no_start_after, nothing_moves, open_after_step, refused_system, run_is_open, same_beginning, spent_groups, spent_is_carried, spent_says, spent_system, start_groups, step_groups, step_is_carried, step_says}
use Rattle.tap_safe_runs.proofs.SafeLogs.{cut_last, one_more}
use Rattle.tap_headline.specs.Endings.{ChangesNothing, EndingsChangeNothing, IsRefusedAfter, MayEnd}
use Rattle.tap_headline.proofs.Departing.{IsBegunOrGrown, begun_or_grown, idle_departs, step_departs, step_grown}
use Rattle.tap_headline.proofs.Starts.{IsIdle, finished_idle, idle_names, idle_published, idle_starts, spent_idle, step_idle}

-- the record says which step begins, or how the run has ended
unfoldable pub IsPlain : Record → Type 0
IsPlain (StepRecord index step) = Unit {0}
IsPlain (Spent limit) = Unit {0}
IsPlain (Finished steps) = Unit {0}
IsPlain other = ⊥

-- the longer log has one more group, a step alone that moves nothing
pub record HasStillGroup (log ending : List Record) : Type 0 where
  pub index : ℕ
  pub step : Step
  pub groups : groups_of (log ++ ending) ≡ groups_of log ++ (StepRecord index step ∷ []) ∷ []
  pub still : move_of_group log (StepRecord index step ∷ []) ≡ None

-- What is known of the log of a run with its ending: it changes nothing, its records are plain, the groups are the same or there is one more
-- that moves nothing; and no moment is after the log but the end.
pub record IsEnded (b : Beginning) (log ending : List Record) : Type 0 where
  pub run : IsRun b log
  pub same : ChangesNothing log ending
  pub plain : All IsPlain ending
  pub uncarried : is_carried (log ++ ending) ≡ false
  pub groups : (groups_of (log ++ ending) ≡ groups_of log) ⊎ HasStillGroup log ending
  pub last : (m : ℕ) → length log < m → is_moment (log ++ ending) m ≡ true → m ≡ length (log ++ ending)

pub beginning_stays : (b : Beginning) (log ending : List Record) → IsEnded b log ending → beginning_of (log ++ ending) ≡ beginning_of log
beginning_stays b log ending ended =
    let is_open = run_is_open b log ended.run in
    same_beginning log ending is_open.begun is_open.uncarried ended.uncarried

-- ---- nothing changes

module _ (log ending : List Record) (says : SaysTheSame log (log ++ ending)) (system : system_of (log ++ ending) ≡ system_of log)
    (published : published_of (log ++ ending) ≡ published_of log)
    (starts : filter is_start (accepted_steps (log ++ ending)) ≡ filter is_start (accepted_steps log))
    (names : names_of (log ++ ending) ≡ names_of log) (departing : departing_of (log ++ ending) ≡ departing_of log) where
  nothing_changes : ChangesNothing log ending
  nothing_changes = record {
    system = system;
    core = says.core;
    present = says.present;
    abandoned = says.abandoned;
    gone = says.gone;
    names = names;
    departing = departing;
    published = published;
    frames = says.frames;
    starts = starts;
  }

one_changes : (log : List Record) (item : Record) → IsIdle log item → SaysTheSame log (log ++ item ∷ [])
    → system_of (log ++ item ∷ []) ≡ system_of log → departing_of (log ++ item ∷ []) ≡ departing_of log → ChangesNothing log (item ∷ [])
one_changes log item idle says system departing =
    nothing_changes log (item ∷ []) says system (idle_published log item idle) (idle_starts log item idle) (idle_names log item idle) departing

two_change : (log : List Record) (one other : Record) → IsIdle log one → IsIdle (log ++ one ∷ []) other
    → SaysTheSame log (log ++ one ∷ other ∷ []) → system_of (log ++ one ∷ other ∷ []) ≡ system_of log
    → departing_of (log ++ one ∷ []) ≡ departing_of log → departing_of ((log ++ one ∷ []) ++ other ∷ []) ≡ departing_of (log ++ one ∷ [])
    → ChangesNothing log (one ∷ other ∷ [])
two_change log one other first second says system departing then_departing =
    let begun = log ++ one ∷ [] in
    let both : begun ++ other ∷ [] ≡ log ++ one ∷ other ∷ [] = append_assoc log (one ∷ []) (other ∷ []) in
    nothing_changes log (one ∷ other ∷ []) says system
    (ap published_of (sym both) ∙ idle_published begun other second ∙ idle_published log one first)
    (ap (λ l. filter is_start (accepted_steps l)) (sym both) ∙ idle_starts begun other second ∙ idle_starts log one first)
    (ap names_of (sym both) ∙ idle_names begun other second ∙ idle_names log one first)
    (ap departing_of (sym both) ∙ then_departing ∙ departing)

-- ---- each ending

pub step_plain : (index : ℕ) (step : Step) → IsPlain (StepRecord index step)
unfolding IsPlain
step_plain index step = tt

spent_plain : (limit : ℕ) → IsPlain (Spent limit)
unfolding IsPlain
spent_plain limit = tt

finished_plain : (steps : ℕ) → IsPlain (Finished steps)
unfolding IsPlain
finished_plain steps = tt

pub one_plain : (item : Record) → IsPlain item → All IsPlain (item ∷ [])
one_plain item is = All-cons IsPlain item [] is (All-nil IsPlain)

pub finished_within : (steps : ℕ) → begins_group false (Finished steps) ≡ false
unfolding begins_group
finished_within steps = refl

pub spent_within : (limit : ℕ) → begins_group false (Spent limit) ≡ false
unfolding begins_group
spent_within limit = refl

module _ (b : Beginning) (log : List Record) (run : IsRun b log) where
  abbrev is_open : IsOpen log
  is_open = run_is_open b log run

  abbrev grown : IsBegunOrGrown b log
  grown = begun_or_grown b log run

  finished_ended : (steps : ℕ) → IsEnded b log (Finished steps ∷ [])
  finished_ended steps =
      let alone = no_start_last b log run in
      record {
        run = run;
        same = one_changes log (Finished steps) (finished_idle log steps alone) (finished_says log steps alone)
            (finished_system log is_open steps)
            (idle_departs b log (Finished steps) grown is_open.uncarried (finished_idle log steps alone) (finished_within steps)
            (finished_says log steps alone).frames);
        plain = one_plain (Finished steps) (finished_plain steps);
        uncarried = finished_is_carried log steps ∙ is_open.uncarried;
        groups = inl (finished_groups log is_open steps);
        last = one_more b log run (Finished steps);
      }

  spent_ended : (limit : ℕ) → IsEnded b log (Spent limit ∷ [])
  spent_ended limit =
      let alone = no_start_last b log run in
      record {
        run = run;
        same = one_changes log (Spent limit) (spent_idle log limit) (spent_says log limit) (spent_system log is_open limit alone)
            (idle_departs b log (Spent limit) grown is_open.uncarried (spent_idle log limit) (spent_within limit) (spent_says log limit).frames);
        plain = one_plain (Spent limit) (spent_plain limit);
        uncarried = spent_is_carried log limit ∙ is_open.uncarried;
        groups = inl (spent_groups log is_open limit alone);
        last = one_more b log run (Spent limit);
      }

  refused_ended : (index : ℕ) (step : Step) → IsRefusedAfter log step → IsEnded b log (StepRecord index step ∷ [])
  refused_ended index step refused =
      let item = StepRecord index step in
      record {
        run = run;
        same = one_changes log item (step_idle log index step) (step_says log index step)
            (refused_system b log run index step refused.refusal refused.is) (step_departs b log index step grown is_open.begun);
        plain = one_plain item (step_plain index step);
        uncarried = step_is_carried log index step ∙ is_open.uncarried;
        groups = inr (record {
          index = index;
          step = step;
          groups = step_groups log is_open index step;
          still = step_moves log index step [] ∙ ap (λ r. move_of_start r (start_at log step)) refused.is;
        });
        last = one_more b log run item;
      }

  -- the groups of a log that is cut: of a start there is no more of its group, and another step is a group that moves nothing
  cut_groups : (index : ℕ) (step : Step) (limit : ℕ) (starts : Bool) → is_start step ≡ starts
      → (groups_of (log ++ StepRecord index step ∷ Spent limit ∷ []) ≡ groups_of log)
      ⊎ HasStillGroup log (StepRecord index step ∷ Spent limit ∷ [])
  cut_groups index step limit true is = inl (start_groups log is_open index step limit is)
  cut_groups index step limit false is =
      let begun = log ++ StepRecord index step ∷ [] in
      inr (record {
        index = index;
        step = step;
        groups =
            ap groups_of (sym (append_assoc log (StepRecord index step ∷ []) (Spent limit ∷ [])))
            ∙ spent_groups begun (open_after_step log is_open index step) limit (no_start_after log index step is)
            ∙ step_groups log is_open index step;
        still = step_moves log index step [] ∙ nothing_moves log step is;
      })

  cut_ended : (index : ℕ) (step : Step) (limit : ℕ) → IsEnded b log (StepRecord index step ∷ Spent limit ∷ [])
  cut_ended index step limit =
      let item = StepRecord index step in
      let begun = log ++ item ∷ [] in
      record {
        run = run;
        same = two_change log item (Spent limit) (step_idle log index step) (spent_idle begun limit)
            (cut_says log index step limit) (cut_system b log run index step limit) (step_departs b log index step grown is_open.begun)
            (idle_departs b begun (Spent limit) (step_grown b log index step is_open.begun)
            (step_is_carried log index step ∙ is_open.uncarried) (spent_idle begun limit) (spent_within limit) (spent_says begun limit).frames);
        plain = All-cons IsPlain item (Spent limit ∷ []) (step_plain index step) (one_plain (Spent limit) (spent_plain limit));
        uncarried = cut_carried log is_open index step limit;
        groups = cut_groups index step limit (is_start step) refl;
        last = cut_last b log run index step limit;
      }

  pub run_ended : (ending : List Record) → MayEnd log ending → IsEnded b log ending
  unfolding MayEnd
  run_ended (Finished steps ∷ []) may = finished_ended steps
  run_ended (Spent limit ∷ []) may = spent_ended limit
  run_ended (StepRecord index step ∷ Spent limit ∷ []) may = cut_ended index step limit
  run_ended (StepRecord index step ∷ []) may = refused_ended index step may
  run_ended ending may = absurd may

pub endings_change_nothing : EndingsChangeNothing
endings_change_nothing b log ending run may = (run_ended b log run ending may).same

-- ---- which records may end a log

pub may_finish : (log : List Record) (steps : ℕ) → MayEnd log (Finished steps ∷ [])
unfolding MayEnd
may_finish log steps = tt

pub may_spend : (log : List Record) (limit : ℕ) → MayEnd log (Spent limit ∷ [])
unfolding MayEnd
may_spend log limit = tt

pub may_cut : (log : List Record) (index : ℕ) (step : Step) (limit : ℕ) → MayEnd log (StepRecord index step ∷ Spent limit ∷ [])
unfolding MayEnd
may_cut log index step limit = tt

pub may_refuse : (log : List Record) (index : ℕ) (step : Step) (refusal : Refusal) → first_refusal log step ≡ Some refusal
    → MayEnd log (StepRecord index step ∷ [])
unfolding MayEnd
may_refuse log index step refusal is = record { refusal = refusal; is = is }
