-- What a turn of a carried run answers.
use Rattle.std.proofs.Common.{◌≡◌, ◌≢◌, ◌<◌, ◌≤◌, true, false, List, [], ◌∷◌, ◌++◌, Option, None, Some, Ok, Err, refl, ap, sym, subst, ◌∙◌}
use Rattle.std.specs.Prelude.{if◌then◌else◌, is_some, take}
use Rattle.std.proofs.lemmas.Bool.{le-leb, lt-leb}
use Rattle.tap_scenario.specs.Scenario.{ScenarioValue}
use Rattle.tap_log.specs.declared.record.Record.{Record}
use Rattle.tap_log.specs.declared.record.Record.TheVariants.{Spent as SpentRecord}
use Rattle.tap_log.specs.Counts.{sent_count}
use Rattle.tap_engine.specs.World.{whole_log}
use Rattle.tap_carried_world.specs.Adds.{HasLacked, HasSpent}
use Rattle.tap_engine.specs.declared.stop.Stop.{Stop}
use Rattle.tap_engine.specs.declared.stop.Stop.TheVariants.{Ended as StopEnded, NoMemory as StopNoMemory, Refused as StopRefused, Spent as StopSpent}
use Rattle.tap_lawful.specs.CarriedLaws.{measure_of}
use Rattle.tap_lawful.specs.CarriedNext.{carried_next_group}
use Rattle.tap_lawful.specs.CarriedRuns.{IsCarriedFinished, IsCarriedSpent}
use Rattle.tap_lawful.proofs.CarriedRunMoves.{carried_groups_move}
use Rattle.tap_replay.specs.CarriedPlayer.{CarriedTurnsAs, IsCarriedLeft}
use Rattle.tap_replay.specs.CarriedRun.{AddsCarried, HasGrown, IsCarriedRunOf}
use Rattle.tap_replay.specs.CarriedTurn.{carried_outcome_by, carried_turn_outcome, unless_carried_spent}
use Rattle.tap_replay.specs.Player.{EndsRun, end_of}
use Rattle.tap_replay.specs.Turn.{TurnOutcome, unless_finished}
use Rattle.tap_replay.specs.declared.carried_run.CarriedRun.{CarriedRun}
use Rattle.tap_replay.specs.declared.end.End.TheVariants.{Done, NoMemory, Spent}
use Rattle.tap_replay.specs.declared.end.Turned.{Turned}
use Rattle.tap_replay.specs.declared.end.Turned.TheVariants.{More, Over}

-- ---- the outcome of a turn

-- these are the answer and the log
as_outcome : (s : ScenarioValue) (before : List Record) (given : Turned) (after : List Record) → given ≢ Over NoMemory
    → given ≡ (carried_turn_outcome s before).answer → after ≡ (carried_turn_outcome s before).log → CarriedTurnsAs s before given after
as_outcome s before given after other answer log =
    record { answer = λ _. answer; log = λ _. log; memory = λ none. absurd (other none) }

module _ (s : ScenarioValue) (log group : List Record) where
  abbrev spends : TurnOutcome
  spends = record { answer = Over Spent; log = log ++ (take 1 group ++ SpentRecord s.frames ∷ []) }

  within_so : sent_count (log ++ group) ≤ s.frames
      → unless_carried_spent s log group ≡ unless_finished s (log ++ group) (carried_next_group s (log ++ group))
  within_so within =
      ap (λ b. if b then unless_finished s (log ++ group) (carried_next_group s (log ++ group)) else spends)
      (le-leb (sent_count (log ++ group)) s.frames within)

  spent_so : s.frames < sent_count (log ++ group) → unless_carried_spent s log group ≡ spends
  spent_so over =
      ap (λ b. if b then unless_finished s (log ++ group) (carried_next_group s (log ++ group)) else spends)
      (lt-leb (sent_count (log ++ group)) s.frames over)

-- ---- a group was added, if one came next

-- as the log has grown, or stayed; and less is left of the run if it has grown
record HasTurned (s : ScenarioValue) (before after : List Record) : Type 0 where
  outcome : carried_turn_outcome s before ≡ unless_finished s after (carried_next_group s after)
  less : is_some (carried_next_group s after) ≡ true → measure_of s after < measure_of s before

module _ (s : ScenarioValue) (before after : CarriedRun) (of : IsCarriedRunOf s before) where
  abbrev old : List Record
  old = whole_log before.carried.world

  abbrev new : List Record
  new = whole_log after.carried.world

  by_coming : (coming : Option (List Record)) → carried_next_group s old ≡ coming → HasGrown s coming before after
      → HasTurned s old new × IsCarriedRunOf s after
  by_coming (Some group) is added =
      let within : sent_count (old ++ group) ≤ s.frames =
      subst (λ l. sent_count l ≤ s.frames) added.log added.run.carries.goes_on.played.within in (
        record {
          outcome = ap (carried_outcome_by s old) is ∙ within_so s old group within
              ∙ ap (λ l. unless_finished s l (carried_next_group s l)) (sym added.log);
          less = λ more. subst (λ l. measure_of s l < measure_of s old) (sym added.log)
              (carried_groups_move.falls s old group of.carries.script of.carries.goes_on.played is within);
        },
        added.run,
      )
  by_coming None is stays =
      let same : new ≡ old = stays.0 in (
        record {
          outcome = ap (carried_outcome_by s old) is
              ∙ sym (ap (λ l. unless_finished s l (carried_next_group s l)) same ∙ ap (unless_finished s old) is);
          less = λ more. let none : is_some (carried_next_group s new) ≡ false = ap (λ l. is_some (carried_next_group s l)) same ∙ ap is_some is in
              let wrong : true ≡ false = sym more ∙ none in absurd (cc);
        },
        stays.1,
      )

  both : AddsCarried s before (Ok tt) after → HasTurned s old new × IsCarriedRunOf s after
  both added = by_coming (carried_next_group s old) refl added

  -- the run goes on
  pub added_run : AddsCarried s before (Ok tt) after → IsCarriedRunOf s after
  added_run added = (both added).1

  some_unless : (log : List Record) (coming : Option (List Record)) → is_some coming ≡ true
      → unless_finished s log coming ≡ record { answer = More; log = log }
  some_unless log (Some group) more = refl
  some_unless log None more = absurd (cc)

  -- something is left
  pub more_turns : AddsCarried s before (Ok tt) after → is_some (carried_next_group s new) ≡ true → CarriedTurnsAs s old More new
  more_turns added more =
      let so = (both added).0.outcome ∙ some_unless new (carried_next_group s new) more in
      as_outcome s old More new (λ same. cc) (sym (ap (λ (o : TurnOutcome). o.answer) so)) (sym (ap (λ (o : TurnOutcome). o.log) so))

  pub more_less : AddsCarried s before (Ok tt) after → is_some (carried_next_group s new) ≡ true → measure_of s new < measure_of s old
  more_less added more = (both added).0.less more

  -- no group comes next
  pub none_more : is_some (carried_next_group s new) ≡ false → carried_next_group s new ≡ None
  none_more none = by_next (carried_next_group s new) none
    where
      by_next : (coming : Option (List Record)) → is_some coming ≡ false → coming ≡ None
      by_next (Some group) is = absurd (cc)
      by_next None is = refl

  -- nothing is left, and the log says so
  pub done_turns : AddsCarried s before (Ok tt) after → (log : List Record) → IsCarriedFinished s new log → CarriedTurnsAs s old (Over Done) log
  done_turns added log finished =
      let so = (both added).0.outcome ∙ ap (unless_finished s new) finished.none in
      as_outcome s old (Over Done) log (λ same. cc) (sym (ap (λ (o : TurnOutcome). o.answer) so))
      (finished.log_is ∙ sym (ap (λ (o : TurnOutcome). o.log) so))

  -- ---- the call was stopped

  -- the run has ended so, and the turn says it
  pub record HasStopped (stop : Stop) : Type 0 where
    pub turns : CarriedTurnsAs s old (Over (end_of (Err stop))) new
    pub left : IsCarriedLeft s (end_of (Err stop)) after.carried.world
    pub ends : EndsRun (Err stop)

  spent_stops : HasSpent s before.carried.world after.carried.world → HasStopped StopSpent
  spent_stops spent =
      let is : IsCarriedSpent s old new = spent.log in
      let so = ap (carried_outcome_by s old) is.next ∙ spent_so s old is.group is.over in
      record {
        turns = as_outcome s old (Over Spent) new (λ same. cc) (sym (ap (λ (o : TurnOutcome). o.answer) so))
            (is.log_is ∙ sym (ap (λ (o : TurnOutcome). o.log) so));
        left = record {
          ended = (old, of.carries.goes_on.played, is);
          beginning = spent.left.beginning ∙ of.carries.goes_on.beginning;
          noted = spent.left.noted;
          spent = λ _. spent.stopped;
          done = λ same. let wrong : Spent ≡ Done = same in absurd (cc);
          nodes = λ same. let wrong : Spent ≡ Done = same in absurd (cc);
        };
        ends = tt;
      }

  lacked_stops : HasLacked s before.carried.world after.carried.world → HasStopped StopNoMemory
  lacked_stops lacked = record {
    turns = record { answer = λ other. absurd (other refl); log = λ other. absurd (other refl); memory = λ _. lacked.log };
    left = record {
      ended = (old, of.carries.goes_on.played, lacked.log);
      beginning = lacked.left.beginning ∙ of.carries.goes_on.beginning;
      noted = lacked.left.noted;
      spent = λ same. let wrong : NoMemory ≡ Spent = same in absurd (cc);
      done = λ same. let wrong : NoMemory ≡ Done = same in absurd (cc);
      nodes = λ same. let wrong : NoMemory ≡ Done = same in absurd (cc);
    };
    ends = tt;
  }

  pub stopped_so : (stop : Stop) → AddsCarried s before (Err stop) after → HasStopped stop
  stopped_so StopSpent spent = spent_stops spent
  stopped_so StopNoMemory lacked = lacked_stops lacked
  stopped_so (StopRefused refusal) never = absurd never
  stopped_so StopEnded never = absurd never
