use Rattle.tap_cast_runs.proofs.Casts.{rest_no_casts, run_casts_quiet}
use Rattle.tap_cast_runs.proofs.law.run_rest_casts_law.Goals as goal

pub returns-clause-departing : goal.returns-clause-departing
returns-clause-departing c = run_casts_quiet

pub returns-clause-rest : goal.returns-clause-rest
returns-clause-rest c = rest_no_casts
