use Rattle.tap_cast_runs.proofs.HeldAnew.{core_has, run_answers}
use Rattle.tap_cast_runs.proofs.law.run_held_law.Goals as goal

pub returns-clause-runs : goal.returns-clause-runs
returns-clause-runs c = run_answers

pub returns-clause-core : goal.returns-clause-core
returns-clause-core c = core_has
