-- A carried run of a scenario is one of each other scenario by which a player may turn.
use Rattle.std.proofs.Common.{◌≡◌, inl, inr, ℕ, suc, ◌+◌, ◌-◌, ◌<◌, true, List, [], ◌∷◌, ◌++◌, length, take, Option, None, Some, refl, ap, sym, subst, ◌∙◌, arith, append-nil}
use Rattle.std.specs.Prelude.{slice_get}
use Rattle.std.specs.Option.{option_map}
use Rattle.std.proofs.lemmas.List.Elements.{filter_map-append}
use Rattle.tap_scenario.specs.declared.step.Step.{Step}
use Rattle.tap_scenario.specs.Scenario.{IsScript, ScenarioValue}
use Rattle.tap_log.specs.declared.record.Record.{Record}
use Rattle.tap_log.specs.declared.record.Record.TheVariants.{Finished, Spent as SpentRecord, Step as StepRecord}
use Rattle.tap_log.specs.Counts.{sent_count}
use Rattle.tap_log.specs.Kinds.{step_of}
use Rattle.tap_log.specs.Log.{begun_steps}
use Rattle.tap_log.proofs.MoreRecords.{filter_map-same}
use Rattle.tap_history.specs.Refusals.{first_refusal}
use Rattle.tap_packets.specs.Groups.{arrival_group}
use Rattle.tap_runs.specs.Beginning.{Beginning}
use Rattle.tap_carried_world.specs.Value.{KeepsLog}
use Rattle.tap_engine.specs.World.{WorldValue, whole_log}
use Rattle.tap_lawful.specs.CarriedDue.{Due, carried_due}
use Rattle.tap_lawful.specs.CarriedDue.Due.{ArrivalDue, TickDue}
use Rattle.tap_lawful.specs.CarriedNext.{begun_group, carried_group_after, carried_next_group, reduced_taken_records}
use Rattle.tap_lawful.specs.CarriedRuns.{IsCarriedCut, IsCarriedFinished, IsCarriedPlayed, IsCarriedScript, IsCarriedSpent}
use Rattle.tap_lawful.specs.Next.{beginning_in, begun_count, next_step}
use Rattle.tap_lawful.specs.PlayedLaws.{BeginsAlike}
use Rattle.tap_lawful.specs.Runs.{IsPlayedBy}
use Rattle.tap_lawful.proofs.Alike.{at_of_take}
use Rattle.tap_lawful.proofs.CarriedComing.{CarriedBegins, begun_head, carried_coming}
use Rattle.tap_lawful.proofs.CarriedGrowth.{carried_all}
use Rattle.tap_lawful.proofs.Runs.{runs_by_carrier}
use Rattle.tap_replay.specs.CarriedPlayer.{HasCarriedEnded, IsCarriedLeft, StaysOrIsCut}
use Rattle.tap_replay.specs.CarriedRun.{IsCarriedRunOf}
use Rattle.tap_replay.specs.Player.{MayTurn}
use Rattle.tap_replay.specs.declared.carried_run.CarriedRun.{CarriedRun}
use Rattle.tap_replay.specs.declared.end.End.{End}
use Rattle.tap_replay.specs.declared.end.End.TheVariants.{Done, NoMemory, Spent}
use Rattle.tap_replay.proofs.Alike.{take_first}
use Rattle.tap_replay.proofs.CarriedLawfulness.{done_finished}

-- which group comes next is said by the settings and the steps
next_alike : (s other : ScenarioValue) (log : List Record) → other.settings ≡ s.settings → other.steps ≡ s.steps
    → carried_next_group other log ≡ carried_next_group s log
next_alike s other log settings steps = by_due (carried_due log)
  where
    by_due : (due : Option Due) → carried_group_after other log due ≡ carried_group_after s log due
    by_due (Some (ArrivalDue line)) = ap (λ p. Some (arrival_group log line (reduced_taken_records p log line.frame))) settings
    by_due (Some TickDue) = refl
    by_due None =
        ap (λ p. option_map (begun_group p log (begun_count log + 1)) (slice_get other.steps (begun_count log))) settings
        ∙ ap (λ all. option_map (begun_group s.settings log (begun_count log + 1)) (slice_get all (begun_count log))) steps

-- ---- a run so far, and what was added to it

module _ (s other : ScenarioValue) (log played rest : List Record) (is : log ≡ played ++ rest) (carried : s.carrier ≡ true) (also : other.carrier ≡ true)
    (begins : beginning_in other ≡ beginning_in s) (was : IsCarriedPlayed s played) (may : MayTurn other log) where
  all_steps : take (begun_count log) other.steps ≡ begun_steps played ++ begun_steps rest
  all_steps = sym may.steps ∙ ap begun_steps is ∙ filter_map-append step_of played rest

  alike : BeginsAlike s other played
  alike = record {
    beginning = begins;
    steps = take_first (begun_count log) other.steps (begun_steps played) (begun_steps rest) all_steps;
  }

  other_played : IsCarriedPlayed other played
  other_played =
      subst (λ c. IsPlayedBy c other played) also
      (runs_by_carrier.alike s other played (also ∙ sym carried) (subst (λ c. IsPlayedBy c s played) (sym carried) was) alike)

  settings_same : other.settings ≡ s.settings
  settings_same = ap (λ (b : Beginning). b.settings) begins

  -- the next step is the same, if it stands in the log
  step_alike : (group : List Record) (kept : ℕ) (more : List Record) → CarriedBegins s played group → rest ≡ take (suc kept) group ++ more
      → carried_next_group other played ≡ Some group
  step_alike group kept more begun stands =
      let index = begun_count played + 1 in
      let head = begun_head s.settings played index begun.step (first_refusal played begun.step) in
      let same : StepRecord index begun.step ∷ head.0 ≡ group = head.1 ∙ begun.is in
      let first : begun_steps rest ≡ begun.step ∷ begun_steps (take kept head.0 ++ more) =
      ap begun_steps (stands ∙ ap (λ g. take (suc kept) g ++ more) (sym same)) in
      let next : next_step other played ≡ Some begun.step =
      at_of_take (begun_count log) other.steps (begun_steps played) (begun_steps (take kept head.0 ++ more)) begun.step
      (all_steps ∙ ap (λ l. begun_steps played ++ l) first) in
      ap (carried_group_after other played) begun.none ∙ ap (option_map (begun_group other.settings played index)) next
      ∙ ap (λ p. Some (begun_group p played index begun.step)) settings_same ∙ ap Some begun.is

  -- so is the group that comes next, if its first record stands there
  group_alike : (group : List Record) (kept : ℕ) (more : List Record) → carried_next_group s played ≡ Some group
      → rest ≡ take (suc kept) group ++ more → carried_next_group other played ≡ Some group
  group_alike group kept more comes stands =
      elim (carried_coming s played group comes) [
        | inl arrives ↦
            let line = arrives.line in
            ap (carried_group_after other played) arrives.due
            ∙ ap (λ p. Some (arrival_group played line (reduced_taken_records p played line.frame))) settings_same ∙ ap Some arrives.is
        | inr (inl ticks) ↦ ap (carried_group_after other played) ticks.due ∙ ap Some ticks.is
        | inr (inr begun) ↦ step_alike group kept more begun stands
      ]

-- ---- a run that has ended

module _ (s other : ScenarioValue) (log : List Record) (script : IsCarriedScript s) (also : other.carrier ≡ true)
    (begins : beginning_in other ≡ beginning_in s) (may : MayTurn other log) where
  frames_same : other.frames ≡ s.frames
  frames_same = ap (λ (b : Beginning). b.frames) begins

  finished_alike : (played : List Record) → IsCarriedPlayed s played → IsCarriedFinished s played log → HasCarriedEnded other Done log
  finished_alike played was finished =
      let rest : List Record = Finished (length s.steps) ∷ [] in
      let settings : other.settings ≡ s.settings = ap (λ (b : Beginning). b.settings) begins in
      let steps : other.steps ≡ s.steps =
      sym (may.all (done_finished s played log finished)) ∙ ap begun_steps finished.log_is
      ∙ filter_map-same step_of played (Finished (length s.steps)) refl ∙ carried_all s played script was finished.none in (
        played,
        other_played s other log played rest finished.log_is script.carried also begins was may,
        record {
          none = next_alike s other played settings steps ∙ finished.none;
          log_is = finished.log_is ∙ ap (λ (all : List Step). played ++ Finished (length all) ∷ []) (sym steps);
        },
      )

  spent_alike : (played : List Record) → IsCarriedPlayed s played → IsCarriedSpent s played log → HasCarriedEnded other Spent log
  spent_alike played was spent =
      let last : List Record = SpentRecord s.frames ∷ [] in
      let rest = take 1 spent.group ++ last in (
        played,
        other_played s other log played rest spent.log_is script.carried also begins was may,
        record {
          group = spent.group;
          next = group_alike s other log played rest spent.log_is script.carried also begins was may spent.group 0 last spent.next refl;
          over = subst (λ n. n < sent_count (played ++ spent.group)) (sym frames_same) spent.over;
          log_is = spent.log_is ∙ ap (λ n. played ++ (take 1 spent.group ++ SpentRecord n ∷ [])) (sym frames_same);
        },
      )

  cut_alike : (played : List Record) → IsCarriedPlayed s played → IsCarriedCut s played log → HasCarriedEnded other NoMemory log
  cut_alike played was cut =
      let rest = take cut.kept cut.group in
      let some = cut.some in
      let kept : cut.kept ≡ suc (cut.kept - 1) = omega (arith, some) in
      let stands : rest ≡ take (suc (cut.kept - 1)) cut.group ++ [] = ap (λ n. take n cut.group) kept ∙ sym (append-nil _) in (
        played,
        other_played s other log played rest cut.log_is script.carried also begins was may,
        inr (record {
          group = cut.group;
          next = group_alike s other log played rest cut.log_is script.carried also begins was may cut.group (cut.kept - 1) [] cut.next stands;
          kept = cut.kept;
          some = cut.some;
          few = cut.few;
          first = λ over. cut.first (subst (λ n. n < sent_count (played ++ cut.group)) frames_same over);
          log_is = cut.log_is;
        }),
      )

  stopped_alike : (played : List Record) → IsCarriedPlayed s played → StaysOrIsCut s played log → HasCarriedEnded other NoMemory log
  stopped_alike played was (inl same) =
      (played, other_played s other log played [] (same ∙ sym (append-nil played)) script.carried also begins was may, inl same)
  stopped_alike played was (inr cut) = cut_alike played was cut

  ended_alike : (end : End) → HasCarriedEnded s end log → HasCarriedEnded other end log
  ended_alike Done ended = finished_alike ended.0 ended.1 ended.2
  ended_alike Spent ended = spent_alike ended.0 ended.1 ended.2
  ended_alike NoMemory ended = stopped_alike ended.0 ended.1 ended.2

-- ---- the runs of a player

pub carried_left_alike : (s other : ScenarioValue) (end : End) (w : WorldValue) → IsCarriedScript s → other.carrier ≡ true
    → beginning_in other ≡ beginning_in s → IsCarriedLeft s end w → MayTurn other (whole_log w) → IsCarriedLeft other end w
carried_left_alike s other end w script also begins left may = record {
  ended = ended_alike s other (whole_log w) script also begins may end left.ended;
  beginning = left.beginning ∙ sym begins;
  noted = left.noted;
  spent = left.spent;
  done = left.done;
  nodes = left.nodes;
}

pub carried_run_alike : (s other : ScenarioValue) (run : CarriedRun) → IsScript other → other.carrier ≡ true → beginning_in other ≡ beginning_in s
    → IsCarriedRunOf s run → MayTurn other (whole_log run.carried.world) → IsCarriedRunOf other run
carried_run_alike s other run valid also begins of may =
    let log = whole_log run.carried.world in
    let on = of.carries.goes_on in
    let settings : s.settings ≡ other.settings = ap (λ (b : Beginning). b.settings) (sym begins) in
    record {
      carries = record {
        script = record { valid = valid; carried = also };
        goes_on = record {
          played = other_played s other log log [] (sym (append-nil log)) of.carries.script.carried also begins on.played may;
          beginning = on.beginning ∙ sym begins;
          noted = on.noted;
          unstopped = on.unstopped;
        };
        keeps = subst (λ p. KeepsLog p log run.carried.carrier) settings of.carries.keeps;
      };
      begun = of.begun;
      chosen = of.chosen;
    }
