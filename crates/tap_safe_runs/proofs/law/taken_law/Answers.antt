use Rattle.tap_safe_runs.proofs.Received.{frames_are_received}
use Rattle.tap_safe_runs.proofs.law.taken_law.Goals as goal

pub returns : goal.returns
returns c = frames_are_received
