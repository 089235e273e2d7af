-- What a player has run and what its turns make of it, by whether the run is carried.
-- Cited above: left_nodes, player_log
use Rattle.std.proofs.Common.{◌≡◌, inl, inr, ◌<◌, Bool, true, false, List, MatchOption, Option, None, Some, refl, ap, sym, subst, ◌∙◌}
use Rattle.std.proofs.lemmas.Bool.{false≢true}
use Rattle.tap_scenario.specs.Scenario.{IsScript, ScenarioValue}
use Rattle.tap_log.specs.declared.record.Record.{Record}
use Rattle.tap_log.specs.Log.{begun_steps}
use Rattle.tap_log.specs.Reduced.{reduced}
use Rattle.tap_engine.specs.Kinds.{is_finished}
use Rattle.tap_engine.specs.World.{HasNodesOfLog, WorldValue, whole_log}
use Rattle.tap_headline.specs.Runs.{HasHeadlineBy}
use Rattle.tap_headline.proofs.Runs.{run_logs_end_so, run_logs_follow, run_logs_have_headline}
use Rattle.tap_lawful.specs.Next.{beginning_in}
use Rattle.tap_lawful.specs.PlayedLaws.{left_of}
use Rattle.tap_lawful.specs.RunLaws.{left_in, left_to_run}
use Rattle.tap_lawful.specs.Runs.{IsFinishedBy, IsLawful, IsLogBy, IsPlayedBy, IsRunLog}
use Rattle.tap_lawful.proofs.Runs.{runs_by_carrier, same_beginnings}
use Rattle.tap_replay.specs.CarriedPlayer.{HasCarriedEnded}
use Rattle.tap_replay.specs.Player.{GoesOnUnless, HasEnded, MayTurn, PlayerValue, TurnsAs}
use Rattle.tap_replay.specs.Runs.{GoesOnBy, HasPlayed, IsLeftBy, RunsUnless, TurnsBy, world_of}
use Rattle.tap_replay.specs.Turn.{turn_outcome}
use Rattle.tap_replay.specs.declared.end.End.{End}
use Rattle.tap_replay.specs.declared.end.End.TheVariants.{Done, NoMemory, Spent}
use Rattle.tap_replay.specs.declared.end.Turned.{Turned}
use Rattle.tap_replay.specs.declared.run.Run.{Run}
use Rattle.tap_replay.specs.declared.runs.Running.{Running}
use Rattle.tap_replay.specs.declared.runs.Running.TheVariants.{Carried, Plain}
use Rattle.tap_replay.proofs.Alike.{left_alike, plain_may, run_alike}
use Rattle.tap_replay.proofs.CarriedAlike.{carried_left_alike, carried_run_alike}
use Rattle.tap_replay.proofs.CarriedFronts.{cut_unfinished}
use Rattle.tap_replay.proofs.CarriedLawfulness.{carried_ended_log, spent_unfinished as carried_spent}
use Rattle.tap_replay.proofs.Lawfulness.{ended_log, spent_unfinished}
use Rattle.tap_replay.proofs.Running.{unfinished}

-- ---- what a run is, whether it goes on or has ended

-- the run goes on, or has left its world
abbrev pub IsRun : Bool → Option End → ScenarioValue → WorldValue → Type 0
IsRun c over s w = MatchOption over (GoesOnBy c s w) (λ end. IsLeftBy c s end w)

-- the whole log is that of a run
log_by : (c : Bool) (over : Option End) (s : ScenarioValue) (w : WorldValue) → IsRun c over s w → IsLogBy c s (whole_log w)
log_by true None s w on = record { played = whole_log w; is_played = on.played; ending = inl refl }
log_by true (Some end) s w left = carried_ended_log s end (whole_log w) left.ended
log_by false None s w on = record { played = whole_log w; is_played = on.played; ending = inl refl }
log_by false (Some end) s w left = ended_log s end (whole_log w) left.ended

-- ---- all steps were begun, if the log says that they were run

abbrev HasAll : ScenarioValue → List Record → Type 0
HasAll s log = is_finished log ≡ true → begun_steps log ≡ s.steps

not_finished : (s : ScenarioValue) (log : List Record) → is_finished log ≡ false → HasAll s log
not_finished s log on = λ over. absurd (false≢true (sym on ∙ over))

finished_all : (s : ScenarioValue) (c : Bool) (played log : List Record) → s.carrier ≡ c → IsScript s → IsPlayedBy c s played
    → IsFinishedBy c s played log → HasAll s log
finished_all s c played log is valid was finished = λ _.
    (run_logs_end_so.finished s played log valid (subst (λ b. IsPlayedBy b s played) (sym is) was)
    (subst (λ b. IsFinishedBy b s played log) (sym is) finished)).steps

module _ (s : ScenarioValue) (valid : IsScript s) where
  plain_all : (end : End) (log : List Record) → s.carrier ≡ false → HasEnded s end log → HasAll s log
  plain_all Done log is ended = finished_all s false ended.0 log is valid ended.1 ended.2
  plain_all Spent log is ended = not_finished s log (spent_unfinished s ended.0 log ended.2)
  plain_all NoMemory log is ended = not_finished s log (unfinished log ended.going)

  carried_all : (end : End) (log : List Record) → s.carrier ≡ true → HasCarriedEnded s end log → HasAll s log
  carried_all Done log is ended = finished_all s true ended.0 log is valid ended.1 ended.2
  carried_all Spent log is ended = not_finished s log (carried_spent s ended.0 log ended.2)
  carried_all NoMemory log is ended =
      elim ended.2 [
        | inl same ↦ not_finished s log (ap is_finished same ∙ unfinished ended.0 ended.1.going)
        | inr cut ↦ not_finished s log (cut_unfinished s (record { valid = valid; carried = is }) ended.0 log ended.1 cut)
      ]

  all_by : (c : Bool) (over : Option End) (w : WorldValue) → s.carrier ≡ c → IsRun c over s w → HasAll s (whole_log w)
  all_by true None w is on = not_finished s (whole_log w) (unfinished (whole_log w) on.played.going)
  all_by true (Some end) w is left = carried_all end (whole_log w) is left.ended
  all_by false None w is on = not_finished s (whole_log w) (unfinished (whole_log w) on.played.going)
  all_by false (Some end) w is left = plain_all end (whole_log w) is left.ended

-- what is left after the last step has the nodes of its log
pub left_nodes : (c : Bool) (s : ScenarioValue) (end : End) (w : WorldValue) → IsLeftBy c s end w → end ≡ Done → HasNodesOfLog w
left_nodes true s end w left = left.nodes
left_nodes false s end w left = left.nodes

-- ---- a player

module _ (s : ScenarioValue) (valid : IsScript s) (p : PlayerValue) (played : HasPlayed s p) where
  pub player_log : IsRunLog s (whole_log p.world)
  player_log = log_by s.carrier p.over s p.world played

  -- it may turn by its scenario once more, whether its run is over or not
  pub may_turn : MayTurn s (whole_log p.world)
  may_turn = record {
    begins = runs_by_carrier.begins s (whole_log p.world) player_log;
    steps = (run_logs_follow s (whole_log p.world) valid player_log).steps;
    all = all_by s valid s.carrier p.over p.world refl played;
  }

  pub has_headline : HasHeadlineBy s (whole_log p.world)
  has_headline = run_logs_have_headline s (whole_log p.world) valid player_log

  pub is_lawful : IsLawful (whole_log p.world)
  is_lawful = record { script = s; valid = valid; run = player_log }

-- ---- the run that a player works on

abbrev pub player_of : Running → Option End → PlayerValue
player_of running over = record { world = world_of running; over = over }

pub has_played : (s : ScenarioValue) (over : Option End) (running : Running) → RunsUnless over s running → HasPlayed s (player_of running over)
has_played s None (Plain run) is = subst (λ c. GoesOnBy c s run.world) (sym is.0) is.1.goes_on
has_played s (Some end) (Plain run) is = subst (λ c. IsLeftBy c s end run.world) (sym is.0) is.1
has_played s None (Carried run) is = subst (λ c. GoesOnBy c s run.carried.world) (sym is.0) is.1.carries.goes_on
has_played s (Some end) (Carried run) is = subst (λ c. IsLeftBy c s end run.carried.world) (sym is.0) is.1

-- ---- another scenario by which it may turn

plain_alike : (s other : ScenarioValue) (over : Option End) (run : Run) → IsScript s → IsScript other → GoesOnUnless over s run
    → other.carrier ≡ false → MayTurn other (whole_log run.world) → GoesOnUnless over other run
plain_alike s other None run valid also of is may = run_alike s other run also of (plain_may other (whole_log run.world) is may)
plain_alike s other (Some end) run valid also left is may =
    left_alike s other end run.world valid left (plain_may other (whole_log run.world) is may)

module _ (s other : ScenarioValue) (valid : IsScript s) (also : IsScript other) where
  by_running : (over : Option End) (running : Running) → other.carrier ≡ s.carrier → beginning_in other ≡ beginning_in s
      → RunsUnless over s running → MayTurn other (whole_log (world_of running)) → RunsUnless over other running
  by_running over (Plain run) same begins is may = (same ∙ is.0, plain_alike s other over run valid also is.1 (same ∙ is.0) may)
  by_running None (Carried run) same begins is may = (same ∙ is.0, carried_run_alike s other run also (same ∙ is.0) begins is.1 may)
  by_running (Some end) (Carried run) same begins is may = (
    same ∙ is.0,
    carried_left_alike s other end run.carried.world (record { valid = valid; carried = is.0 }) (same ∙ is.0) begins is.1 may,
  )

  -- the player runs that as well
  pub runs_alike : (over : Option End) (running : Running) → RunsUnless over s running → MayTurn other (whole_log (world_of running))
      → RunsUnless over other running
  runs_alike over running is may =
      let log = whole_log (world_of running) in
      let of = player_log s valid (player_of running over) (has_played s over running is) in
      let both = same_beginnings s.carrier other.carrier (beginning_in s) (beginning_in other)
      (sym (runs_by_carrier.begins s log of) ∙ may.begins) in
      by_running over running both.0 both.1 is may

-- ---- turns

-- those of a run that isn't carried
module _ (s : ScenarioValue) (before after : List Record) (uncarried : s.carrier ≡ false) where
  pub plain_turns : (given : Turned) → TurnsAs (turn_outcome s before) before given after → TurnsBy s.carrier s before given after
  plain_turns given turns = subst (λ c. TurnsBy c s before given after) (sym uncarried) turns

  pub plain_less : left_of s (reduced after) < left_of s (reduced before) → left_in s after < left_in s before
  plain_less less = subst (λ c. left_to_run c s after < left_to_run c s before) (sym uncarried) less
