-- Where a log and its reduced log don't agree.
--
-- Rule: docs/FORMATS.md, "Groups and moments".
use Rattle.std.specs.Prelude.{◌≡◌, ℕ, true, false, List, [], ◌∷◌}
use Rattle.tap_scenario.specs.declared.step.Step.TheVariants.{Settle}
use Rattle.tap_log.specs.declared.record.Record.{Record}
use Rattle.tap_log.specs.declared.record.Record.TheVariants.{Arrived, Carrier, Finished, Step as StepRecord}
use Rattle.tap_log.specs.Reduced.{reduced}
use Rattle.tap_history.specs.Groups.{is_ended}
use Rattle.tap_history.specs.Moments.{is_moment}
use Rattle.tap_runs.specs.Beginning.{Beginning, begin_record}
use Rattle.tap_carried.specs.ReducedLogs.{kept_count}

-- the log has ended, and one of its moments comes to no moment of its reduced log
pub record HasLostMoment (log : List Record) : Type 0 where
  pub ended : is_ended log ≡ true
  pub m : ℕ
  pub moment : is_moment log m ≡ true
  pub lost : is_moment (reduced log) (kept_count log m) ≡ false

-- a step settles, a packet arrives, and the run is over
abbrev pub settled_log : Beginning → List Record
settled_log b = begin_record b ∷ Carrier ∷ StepRecord 1 Settle ∷ Arrived 0 ∷ Finished 1 ∷ []

-- Moments correspond as long as a log doesn't say how its run has ended, and no longer: right before `done` there is no moment, and nothing of
-- the packet stands between it and the step in the reduced log.
abbrev pub EndedLogsLoseMoments : Type 0
EndedLogsLoseMoments = (b : Beginning) → HasLostMoment (settled_log b)
