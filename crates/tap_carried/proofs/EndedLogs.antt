-- Of a log that says how its run has ended moments don't correspond.
use Rattle.std.proofs.Common.{refl}
use Rattle.tap_log.specs.Kinds.{begins_group, is_carried}
use Rattle.tap_log.specs.Reduced.{is_added}
use Rattle.tap_history.specs.Groups.{ends_log}
use Rattle.tap_carried.specs.EndedLogs.{EndedLogsLoseMoments}

-- the moment is the end of the step's group
pub ended_logs_lose_moments : EndedLogsLoseMoments
unfolding is_carried begins_group is_added ends_log
ended_logs_lose_moments b = record { ended = refl; m = 3; moment = refl; lost = refl }
