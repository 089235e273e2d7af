use Rattle.tap_cast_runs.proofs.Casts.{run_casts_kept, run_casts_numbered}
use Rattle.tap_cast_runs.proofs.law.run_casts_law.Goals as goal

pub returns-clause-kept : goal.returns-clause-kept
returns-clause-kept c = run_casts_kept

pub returns-clause-numbered : goal.returns-clause-numbered
returns-clause-numbered c = run_casts_numbered
