-- The log of a carried run is one of turns that may follow, so its reduced log is that of a run.
-- Cited above: by_carried, carried_run, carried_runs_reduce, run_more, run_push, run_starts, script_steps, whole_next
use Rattle.std.proofs.Common.{◌≡◌, ◌≤◌, Bool, true, List, [], ◌∷◌, ◌++◌, All, refl, sym, subst, ap, ◌∙◌}
use Rattle.tap_scenario.specs.Scenario.{ScenarioValue}
use Rattle.tap_scenario.specs.Step.{IsStep}
use Rattle.tap_log.specs.declared.record.Record.{Record}
use Rattle.tap_log.specs.Counts.{sent_count}
use Rattle.tap_runs.specs.Beginning.{Beginning}
use Rattle.tap_carried.specs.LogTurns.{Turn, beginning_records, group_of_turn, log_after_turns}
use Rattle.tap_carried.specs.ReducedRuns.{IsRunOfTurns, TurnFollows, TurnsFollow}
use Rattle.tap_carried.proofs.ReducedLogs.{logs_agree}
use Rattle.tap_carried.proofs.ReducedRuns.{runs_reduce}
use Rattle.tap_lawful.specs.CarriedLaws.{CarriedRunsReduce}
use Rattle.tap_lawful.specs.CarriedNext.{carried_next_group}
use Rattle.tap_lawful.specs.CarriedRuns.{CarriedComesNext, IsCarriedPlayed, IsCarriedScript}
use Rattle.tap_lawful.specs.Next.{beginning_in}
use Rattle.tap_lawful.proofs.CarriedTurns.{IsTurnGroup, turn_of_group}
use Rattle.tap_lawful.proofs.CarriedWhole.{IsCarriedWhole, whole_turn}
use Rattle.tap_lawful.proofs.Played.{by_next, script_within}

-- ---- what holds of each log of a carried run

-- what holds of the beginning, and is kept by each group that comes next, holds of each log of a carried run
pub by_carried : (s : ScenarioValue) (P : List Record → Type 0)
    → ((log group : List Record) → P log → CarriedComesNext s log group → sent_count (log ++ group) ≤ s.frames → P (log ++ group))
    → P (beginning_records true (beginning_in s)) → (log : List Record) → IsCarriedPlayed s log → P log
by_carried s P keeps starts log played =
    by_next (carried_next_group s) s.frames P keeps (beginning_records true (beginning_in s)) log starts played.begins played.each
    played.within played.going

-- ---- one more turn

follow_push : (c : Bool) (b : Beginning) (log : List Record) (turns : List Turn) (turn : Turn) → TurnsFollow c b log turns
    → TurnFollows c b (log_after_turns c log turns) turn → TurnsFollow c b log (turns ++ turn ∷ [])
follow_push c b log [] turn follow next = (next, tt)
follow_push c b log (first ∷ turns) turn follow next =
    (follow.0, follow_push c b (log ++ group_of_turn c first) turns turn follow.1 next)

after_push : (c : Bool) (log : List Record) (turns : List Turn) (turn : Turn)
    → log_after_turns c log (turns ++ turn ∷ []) ≡ log_after_turns c log turns ++ group_of_turn c turn
after_push c log [] turn = refl
after_push c log (first ∷ turns) turn = after_push c (log ++ group_of_turn c first) turns turn

pub run_push : (c : Bool) (b : Beginning) (log group : List Record) → IsRunOfTurns c b log → IsTurnGroup c b log group
    → IsRunOfTurns c b (log ++ group)
run_push c b log group run next =
    let start = beginning_records c b in
    record {
      limits = run.limits;
      turns = run.turns ++ next.turn ∷ [];
      follow = follow_push c b start run.turns next.turn run.follow (subst (λ l. TurnFollows c b l next.turn) run.is next.follows);
      is = ap (λ g. log ++ g) (sym next.is) ∙ ap (λ l. l ++ group_of_turn c next.turn) run.is
          ∙ sym (after_push c start run.turns next.turn);
    }

-- ---- all turns

module _ (s : ScenarioValue) (script : IsCarriedScript s) where
  pub script_steps : All (IsStep s.settings true) s.steps
  script_steps = subst (λ c. All (IsStep s.settings c) s.steps) script.carried script.valid.steps

  pub run_more : (log group : List Record) → IsRunOfTurns true (beginning_in s) log → CarriedComesNext s log group
      → sent_count (log ++ group) ≤ s.frames → IsRunOfTurns true (beginning_in s) (log ++ group)
  run_more log group run comes within =
      run_push true (beginning_in s) log group run (turn_of_group s log run s.frames group script_steps comes within)

  pub run_starts : IsRunOfTurns true (beginning_in s) (beginning_records true (beginning_in s))
  run_starts = record { limits = script_within s script.valid; turns = []; follow = tt; is = refl }

  pub carried_run : (log : List Record) → IsCarriedPlayed s log → IsRunOfTurns true (beginning_in s) log
  carried_run = by_carried s (IsRunOfTurns true (beginning_in s)) run_more run_starts

  -- each group is a whole one
  pub whole_next : (log group : List Record) → IsRunOfTurns true (beginning_in s) log → CarriedComesNext s log group
      → sent_count (log ++ group) ≤ s.frames → IsCarriedWhole log group
  whole_next log group run comes within =
      whole_turn true (beginning_in s) log group run (turn_of_group s log run s.frames group script_steps comes within)
      (run_more log group run comes within)

pub carried_runs_reduce : CarriedRunsReduce
carried_runs_reduce = record {
  run = λ s log script played. carried_run s script log played;
  reduces = λ s log script played. runs_reduce.run true (beginning_in s) log (carried_run s script log played);
  turns_at = λ s log m script played moment.
      logs_agree.at true log m (runs_reduce.turns true (beginning_in s) log (carried_run s script log played)) moment;
  reduces_at = λ s log m script played moment.
      runs_reduce.at true (beginning_in s) log m (carried_run s script log played) moment;
}
