use Rattle.tap_own_scripts.proofs.Stops.{logs_stop}
use Rattle.tap_own_scripts.proofs.law.stop_law.Goals as goal

pub returns : goal.returns
returns c = logs_stop
