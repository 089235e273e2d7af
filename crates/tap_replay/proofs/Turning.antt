-- What a turn of a player answers.
use Rattle.std.proofs.Common.{◌≡◌, ◌≢◌, ◌<◌, ◌≤◌, true, false, List, [], ◌∷◌, ◌++◌, length, Option, None, Some, Ok, Err, refl, ap, sym, subst, ◌∙◌}
use Rattle.std.specs.Prelude.{if◌then◌else◌, is_some}
use Rattle.std.proofs.lemmas.Bool.{le-leb, lt-leb}
use Rattle.tap_scenario.specs.Scenario.{ScenarioValue}
use Rattle.tap_log.specs.declared.record.Record.{Record}
use Rattle.tap_log.specs.declared.record.Record.TheVariants.{Finished, Spent as SpentRecord}
use Rattle.tap_log.specs.Counts.{sent_count}
use Rattle.tap_engine.specs.declared.stop.Stop.{Stop}
use Rattle.tap_engine.specs.declared.stop.Stop.TheVariants.{Ended as StopEnded, NoMemory as StopNoMemory, Refused as StopRefused, Spent as StopSpent}
use Rattle.tap_lawful.specs.Next.{uncarried_next_group}
use Rattle.tap_lawful.specs.Lawful.{step_alone, IsUncarriedPlayed}
use Rattle.tap_lawful.specs.PlayedLaws.{left_of}
use Rattle.tap_replay.specs.Player.{EndsRun, IsLeft, TurnsAs, end_of}
use Rattle.tap_replay.specs.Run.{AddsComing, AddsGroup, AddsNext, IsRunOf}
use Rattle.tap_replay.specs.Turn.{TurnOutcome, outcome_by, turn_outcome, unless_finished, unless_spent}
use Rattle.tap_replay.specs.declared.end.End.TheVariants.{Done, NoMemory, Spent}
use Rattle.tap_replay.specs.declared.end.Turned.{Turned}
use Rattle.tap_replay.specs.declared.end.Turned.TheVariants.{More, Over}
use Rattle.tap_replay.specs.declared.run.Run.{Run}
use Rattle.tap_replay.proofs.Stepping.{went_not_failed}
use Rattle.tap_log.specs.Reduced.{reduced}
use Rattle.tap_engine.specs.World.{whole_log}
use Rattle.tap_lawful.proofs.UncarriedLogs.{uncarried_less}

-- ---- the outcome of a turn

-- these are the answer and the log
as_outcome : (outcome : TurnOutcome) (before : List Record) (given : Turned) (after : List Record) → given ≢ Over NoMemory
    → given ≡ outcome.answer → after ≡ outcome.log → TurnsAs outcome before given after
as_outcome outcome before given after other answer log =
    record { answer = λ _. answer; log = λ _. log; memory = λ none. absurd (other none) }

module _ (s : ScenarioValue) (log group : List Record) where
  within_so : sent_count (log ++ group) ≤ s.frames
      → unless_spent s log group ≡ unless_finished s (log ++ group) (uncarried_next_group s (log ++ group))
  within_so within =
      ap (λ b. if b then unless_finished s (log ++ group) (uncarried_next_group s (log ++ group))
      else record { answer = Over Spent; log = log ++ (step_alone group ++ SpentRecord s.frames ∷ []) })
      (le-leb (sent_count (log ++ group)) s.frames within)

  spent_so : s.frames < sent_count (log ++ group)
      → unless_spent s log group ≡ record { answer = Over Spent; log = log ++ (step_alone group ++ SpentRecord s.frames ∷ []) }
  spent_so over =
      ap (λ b. if b then unless_finished s (log ++ group) (uncarried_next_group s (log ++ group))
      else record { answer = Over Spent; log = log ++ (step_alone group ++ SpentRecord s.frames ∷ []) })
      (lt-leb (sent_count (log ++ group)) s.frames over)

-- ---- a group was added, if one came next

-- as the log has grown, or stayed; and less is left of the run if it has grown
record HasTurned (s : ScenarioValue) (before after : List Record) : Type 0 where
  outcome : turn_outcome s before ≡ unless_finished s after (uncarried_next_group s after)
  less : is_some (uncarried_next_group s after) ≡ true → left_of s (reduced after) < left_of s (reduced before)

module _ (s : ScenarioValue) (before after : Run) (of : IsRunOf s before) where
  abbrev old : List Record
  old = whole_log before.world

  abbrev new : List Record
  new = whole_log after.world

  by_coming : (coming : Option (List Record)) → uncarried_next_group s old ≡ coming → AddsComing s coming before (Ok tt) after
      → HasTurned s old new × IsRunOf s after
  by_coming (Some group) is added =
      let within : sent_count (old ++ group) ≤ s.frames = subst (λ l. sent_count l ≤ s.frames) added.log added.run.goes_on.played.within in (
        record {
          outcome = ap (outcome_by s old) is ∙ within_so s old group within
              ∙ ap (λ l. unless_finished s l (uncarried_next_group s l)) (sym added.log);
          less = λ more. subst (λ l. left_of s (reduced l) < left_of s (reduced old)) (sym added.log)
              (uncarried_less s of.valid old group of.goes_on.played is within);
        },
        added.run,
      )
  by_coming None is stays =
      let same : new ≡ old = ap whole_log stays.1 in (
        record {
          outcome = ap (outcome_by s old) is
              ∙ sym (ap (λ l. unless_finished s l (uncarried_next_group s l)) same ∙ ap (unless_finished s old) is);
          less = λ more. let none : is_some (uncarried_next_group s new) ≡ false =
              ap (λ l. is_some (uncarried_next_group s l)) same ∙ ap is_some is in
              let wrong : true ≡ false = sym more ∙ none in absurd (cc);
        },
        stays.2,
      )

  both : AddsNext s before (Ok tt) after → HasTurned s old new × IsRunOf s after
  both added = by_coming (uncarried_next_group s old) refl added

  -- the run goes on
  pub added_run : AddsNext s before (Ok tt) after → IsRunOf s after
  added_run added = (both added).1

  some_unless : (log : List Record) (coming : Option (List Record)) → is_some coming ≡ true
      → unless_finished s log coming ≡ record { answer = More; log = log }
  some_unless log (Some group) more = refl
  some_unless log None more = absurd (cc)

  -- something is left
  pub more_turns : AddsNext s before (Ok tt) after → is_some (uncarried_next_group s new) ≡ true → TurnsAs (turn_outcome s old) old More new
  more_turns added more =
      let so = (both added).0.outcome ∙ some_unless new (uncarried_next_group s new) more in
      as_outcome (turn_outcome s old) old More new (λ same. cc) (sym (ap (λ o. o.answer) so)) (sym (ap (λ o. o.log) so))

  pub more_less : AddsNext s before (Ok tt) after → is_some (uncarried_next_group s new) ≡ true → left_of s (reduced new) < left_of s (reduced old)
  more_less added more = (both added).0.less more

  -- no group comes next
  pub none_more : is_some (uncarried_next_group s new) ≡ false → uncarried_next_group s new ≡ None
  none_more none = by_next (uncarried_next_group s new) none
    where
      by_next : (coming : Option (List Record)) → is_some coming ≡ false → coming ≡ None
      by_next (Some group) is = absurd (cc)
      by_next None is = refl

  -- nothing is left, and the log says so
  module _ (added : AddsNext s before (Ok tt) after) (none : uncarried_next_group s new ≡ None) (log : List Record)
      (is : log ≡ new ++ Finished (length s.steps) ∷ []) where
    pub done_turns : TurnsAs (turn_outcome s old) old (Over Done) log
    done_turns =
        let so = (both added).0.outcome ∙ ap (unless_finished s new) none in
        as_outcome (turn_outcome s old) old (Over Done) log (λ same. cc) (sym (ap (λ o. o.answer) so)) (is ∙ sym (ap (λ o. o.log) so))

  -- ---- the call was stopped

  -- the run has ended so, and the turn says it
  pub record HasStopped (stop : Stop) : Type 0 where
    pub turns : TurnsAs (turn_outcome s old) old (Over (end_of (Err stop))) new
    pub left : IsLeft s (end_of (Err stop)) after.world
    pub ends : EndsRun (Err stop)

  by_stop : (group : List Record) → uncarried_next_group s old ≡ Some group → (stop : Stop) → AddsGroup s group before (Err stop) after
      → HasStopped stop
  by_stop group next StopSpent spent =
      let so = ap (outcome_by s old) next ∙ spent_so s old group spent.over in
      record {
        turns = as_outcome (turn_outcome s old) old (Over Spent) new (λ same. cc) (sym (ap (λ o. o.answer) so))
            (spent.log ∙ sym (ap (λ o. o.log) so));
        left = record {
          ended = (old, of.goes_on.played, record { group = group; next = next; over = spent.over; log_is = spent.log });
          beginning = spent.left.beginning;
          noted = spent.left.noted;
          spent = λ _. spent.stopped;
          done = λ same. let wrong : Spent ≡ Done = same in absurd (cc);
          nodes = λ same. let wrong : Spent ≡ Done = same in absurd (cc);
        };
        ends = tt;
      }
  by_stop group next StopNoMemory lacked = record {
    turns = record { answer = λ other. absurd (other refl); log = λ other. absurd (other refl); memory = λ _. lacked.log };
    left = record {
      ended = subst (IsUncarriedPlayed s) (sym lacked.log) of.goes_on.played;
      beginning = lacked.left.beginning;
      noted = lacked.left.noted;
      spent = λ same. let wrong : NoMemory ≡ Spent = same in absurd (cc);
      done = λ same. let wrong : NoMemory ≡ Done = same in absurd (cc);
      nodes = λ same. let wrong : NoMemory ≡ Done = same in absurd (cc);
    };
    ends = tt;
  }
  by_stop group next (StopRefused refusal) never = absurd never
  by_stop group next StopEnded never = absurd never

  by_coming_stop : (coming : Option (List Record)) → uncarried_next_group s old ≡ coming → (stop : Stop)
      → AddsComing s coming before (Err stop) after → HasStopped stop
  by_coming_stop (Some group) next stop adds = by_stop group next stop adds
  by_coming_stop None next stop adds = absurd (went_not_failed stop adds.0)

  pub stopped_so : (stop : Stop) → AddsNext s before (Err stop) after → HasStopped stop
  stopped_so stop adds = by_coming_stop (uncarried_next_group s old) refl stop adds
