use Rattle.tap_carried.proofs.EndedLogs.{ended_logs_lose_moments}
use Rattle.tap_carried.proofs.law.lost_moments_law.Goals as goal

pub returns : goal.returns
returns c = ended_logs_lose_moments
