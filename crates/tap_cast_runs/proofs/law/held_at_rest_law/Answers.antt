use Rattle.tap_cast_runs.proofs.HeldAnew.{answers_at_rest}
use Rattle.tap_cast_runs.proofs.law.held_at_rest_law.Goals as goal

pub returns : goal.returns
returns c = answers_at_rest
