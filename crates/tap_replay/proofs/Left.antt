-- What a run leaves: its log, by how it has ended.
-- Cited above: left_done, left_going, left_log, left_spent
use Rattle.std.proofs.Common.{◌≡◌, inl, inr, Bool, true, false, List, Some, refl, ap, ◌∙◌}
use Rattle.tap_scenario.specs.Scenario.{IsScript, ScenarioValue}
use Rattle.tap_log.specs.declared.record.Record.{Record}
use Rattle.tap_history.specs.Groups.{is_ended}
use Rattle.tap_engine.specs.World.{WorldValue, whole_log}
use Rattle.tap_lawful.specs.Runs.{IsFinishedBy, IsPlayedBy, IsRunLog, IsRunSoFar, IsSpentBy}
use Rattle.tap_replay.specs.Runs.{IsLeftBy, LeavesWorld}
use Rattle.tap_replay.specs.declared.end.End.{End}
use Rattle.tap_replay.specs.declared.end.End.TheVariants.{Done, NoMemory, Spent}
use Rattle.tap_replay.proofs.ByCarrier.{player_log}
use Rattle.tap_replay.proofs.CarriedFronts.{cut_going}

module _ (s : ScenarioValue) (valid : IsScript s) (w : WorldValue) where
  pub left_log : (end : End) → LeavesWorld s end w → IsRunLog s (whole_log w)
  left_log end left = player_log s valid (record { world = w; over = Some end }) left

  -- all steps were run
  done_by : (c : Bool) → IsLeftBy c s Done w → (played : List Record) × IsPlayedBy c s played × IsFinishedBy c s played (whole_log w)
  done_by true left = left.ended
  done_by false left = left.ended

  pub left_done : LeavesWorld s Done w → (played : List Record) × IsRunSoFar s played × IsFinishedBy s.carrier s played (whole_log w)
  left_done left = done_by s.carrier left

  -- too many frames would have been sent
  spent_by : (c : Bool) → IsLeftBy c s Spent w → (played : List Record) × IsPlayedBy c s played × IsSpentBy c s played (whole_log w)
  spent_by true left = left.ended
  spent_by false left = left.ended

  pub left_spent : LeavesWorld s Spent w → (played : List Record) × IsRunSoFar s played × IsSpentBy s.carrier s played (whole_log w)
  left_spent left = spent_by s.carrier left

  -- memory was refused: the log has no end, also if it was cut
  going_by : (c : Bool) → s.carrier ≡ c → IsLeftBy c s NoMemory w → is_ended (whole_log w) ≡ false
  going_by true is left =
      let ended = left.ended in
      elim ended.2 [
        | inl same ↦ ap is_ended same ∙ ended.1.going
        | inr cut ↦ cut_going s (record { valid = valid; carried = is }) ended.0 (whole_log w) ended.1 cut
      ]
  going_by false is left = left.ended.going

  pub left_going : LeavesWorld s NoMemory w → is_ended (whole_log w) ≡ false
  left_going left = going_by s.carrier refl left
