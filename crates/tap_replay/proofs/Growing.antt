-- The turns of a player: that its log only grows, and that it can be printed.
-- Cited above: player_prints, turn_front
use Rattle.std.proofs.Common.{◌≡◌, inl, inr, ◌≤◌, Bool, true, false, List, [], ◌∷◌, ◌++◌, length, take, Option, None, Some, refl, ap, sym, subst, ◌∙◌, arith, append_assoc, append-nil, take-take}
use Rattle.std.specs.Prelude.{nat_le, MatchOption}
use Rattle.std.proofs.Math.Seq.{take-length}
use Rattle.std.proofs.lemmas.Bool.{cases_Bool}
use Rattle.std.proofs.lemmas.List.{length-take, take-append-le}
use Rattle.tap_scenario.specs.Scenario.{IsScript, ScenarioValue}
use Rattle.tap_log.specs.declared.record.Record.{Record}
use Rattle.tap_log.specs.declared.record.Record.TheVariants.{Spent as SpentRecord, Finished}
use Rattle.tap_log.specs.Counts.{sent_count}
use Rattle.tap_engine.specs.World.{whole_log}
use Rattle.tap_lawful.specs.CarriedNext.{carried_next_group}
use Rattle.tap_lawful.specs.Next.{uncarried_next_group}
use Rattle.tap_lawful.specs.Lawful.{step_alone}
use Rattle.tap_headline.specs.Printable.{CanBePrinted}
use Rattle.tap_headline.proofs.Runs.{run_logs_are_printed}
use Rattle.tap_replay.proofs.ByCarrier.{player_log}
use Rattle.tap_replay.specs.CarriedPlayer.{CarriedTurnsAs, StaysOrIsCut}
use Rattle.tap_replay.specs.CarriedTurn.{carried_outcome_by, carried_turn_outcome, unless_carried_spent}
use Rattle.tap_replay.specs.Player.{PlayerValue, TurnsAs}
use Rattle.tap_replay.specs.Runs.{HasPlayed, TakesTurn, TurnsBy}
use Rattle.tap_replay.specs.Turn.{outcome_by, turn_outcome, unless_finished, unless_spent}
use Rattle.tap_replay.specs.declared.end.End.TheVariants.{Done, Spent, NoMemory}
use Rattle.tap_replay.specs.declared.end.Turned.{Turned}
use Rattle.tap_replay.specs.declared.end.Turned.TheVariants.{More, Over}

-- ---- what was run so far

-- the log of a run so far can be printed
pub player_prints : (s : ScenarioValue) (p : PlayerValue) → IsScript s → HasPlayed s p → CanBePrinted (whole_log p.world)
player_prints s p valid played = run_logs_are_printed.printed s (whole_log p.world) valid (player_log s valid p played)

-- ---- the log only grows

-- the log begins with these records
record Grows (log longer : List Record) : Type 0 where
  more : List Record
  is : longer ≡ log ++ more

grows_front : (log longer : List Record) → Grows log longer → take (length log) longer ≡ log
grows_front log longer grows =
    ap (take (length log)) grows.is ∙ take-append-le (length log) log grows.more (omega arith) ∙ take-length log

finished_grows : (s : ScenarioValue) (log : List Record) (next : Option (List Record)) → Grows log (unless_finished s log next).log
finished_grows s log (Some group) = record { more = []; is = sym (append-nil log) }
finished_grows s log None = record { more = Finished (length s.steps) ∷ []; is = refl }

group_grows : (s : ScenarioValue) (log group : List Record) → Grows log (unless_spent s log group).log
group_grows s log group =
    elim (cases_Bool (nat_le (sent_count (log ++ group)) s.frames)) [
      | inl within ↦
          let longer = finished_grows s (log ++ group) (uncarried_next_group s (log ++ group)) in
          rw within (record { more = group ++ longer.more; is = longer.is ∙ append_assoc log group longer.more })
      | inr over ↦ rw over (record { more = step_alone group ++ SpentRecord s.frames ∷ []; is = refl })
    ]

outcome_grows : (s : ScenarioValue) (log : List Record) (next : Option (List Record)) → Grows log (outcome_by s log next).log
outcome_grows s log (Some group) = group_grows s log group
outcome_grows s log None = finished_grows s log None

module _ (s : ScenarioValue) (log after : List Record) where
  outcome_front : after ≡ (turn_outcome s log).log → take (length log) after ≡ log
  outcome_front is = ap (take (length log)) is ∙ grows_front log (turn_outcome s log).log (outcome_grows s log (uncarried_next_group s log))

  turned_front : (given : Turned) → TurnsAs (turn_outcome s log) log given after → take (length log) after ≡ log
  turned_front More turns = outcome_front (turns.log (λ is. cc))
  turned_front (Over Done) turns = outcome_front (turns.log (λ is. cc))
  turned_front (Over Spent) turns = outcome_front (turns.log (λ is. cc))
  turned_front (Over NoMemory) turns = ap (take (length log)) (turns.memory refl) ∙ take-length log

-- the same of a carried run

carried_group_grows : (s : ScenarioValue) (log group : List Record) → Grows log (unless_carried_spent s log group).log
carried_group_grows s log group =
    elim (cases_Bool (nat_le (sent_count (log ++ group)) s.frames)) [
      | inl within ↦
          let longer = finished_grows s (log ++ group) (carried_next_group s (log ++ group)) in
          rw within (record { more = group ++ longer.more; is = longer.is ∙ append_assoc log group longer.more })
      | inr over ↦ rw over (record { more = take 1 group ++ SpentRecord s.frames ∷ []; is = refl })
    ]

carried_outcome_grows : (s : ScenarioValue) (log : List Record) (next : Option (List Record)) → Grows log (carried_outcome_by s log next).log
carried_outcome_grows s log (Some group) = carried_group_grows s log group
carried_outcome_grows s log None = finished_grows s log None

module _ (s : ScenarioValue) (log after : List Record) where
  carried_front : after ≡ (carried_turn_outcome s log).log → take (length log) after ≡ log
  carried_front is =
      ap (take (length log)) is
      ∙ grows_front log (carried_turn_outcome s log).log (carried_outcome_grows s log (carried_next_group s log))

  cut_front : StaysOrIsCut s log after → take (length log) after ≡ log
  cut_front (inl same) = ap (take (length log)) same ∙ take-length log
  cut_front (inr cut) =
      ap (take (length log)) cut.log_is ∙ grows_front log (log ++ take cut.kept cut.group) (record { more = take cut.kept cut.group; is = refl })

  carried_turned : (given : Turned) → CarriedTurnsAs s log given after → take (length log) after ≡ log
  carried_turned More turns = carried_front (turns.log (λ is. cc))
  carried_turned (Over Done) turns = carried_front (turns.log (λ is. cc))
  carried_turned (Over Spent) turns = carried_front (turns.log (λ is. cc))
  carried_turned (Over NoMemory) turns = cut_front (turns.memory refl)

  turned_by : (carried : Bool) (given : Turned) → TurnsBy carried s log given after → take (length log) after ≡ log
  turned_by true given turns = carried_turned given turns
  turned_by false given turns = turned_front s log after given turns

-- after a turn the log begins with the one before it
pub turn_front : (s : ScenarioValue) (before : PlayerValue) (given : Turned) (after : PlayerValue) → TakesTurn s before given after
    → before.over ≡ None → take (length (whole_log before.world)) (whole_log after.world) ≡ whole_log before.world
turn_front s before given after turns none =
    turned_by s (whole_log before.world) (whole_log after.world) s.carrier given
    (subst (λ over. MatchOption over (TurnsBy s.carrier s (whole_log before.world) given (whole_log after.world))
    (λ end. (given ≡ Over end) × (after ≡ before))) none turns)

-- so it isn't shorter
pub front_within : (log longer : List Record) → take (length log) longer ≡ log → length log ≤ length longer
front_within log longer front =
    let size = length-take (length log) longer in
    let same : length (take (length log) longer) ≡ length log = ap length front in
    omega (arith, size, same)

-- and so it is after further turns
pub front_on : (log longer longest : List Record) → take (length log) longer ≡ log → take (length longer) longest ≡ longer
    → take (length log) longest ≡ log
front_on log longer longest front further =
    sym (take-take (length log) (length longer) longest (front_within log longer front)) ∙ ap (take (length log)) further ∙ front
