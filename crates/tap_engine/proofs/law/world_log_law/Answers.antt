use Rattle.tap_engine.proofs.WorldLogs.{world_log_grows}
use Rattle.tap_engine.proofs.law.world_log_law.Goals as goal

pub returns : goal.returns
returns c = world_log_grows
