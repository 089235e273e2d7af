use Rattle.tap_cast_runs.proofs.ReachAll.{lawful_reach_all, reach_all_at}
use Rattle.tap_cast_runs.proofs.law.reach_all_law.Goals as goal

pub returns-clause-runs : goal.returns-clause-runs
returns-clause-runs c = reach_all_at

pub returns-clause-lawful : goal.returns-clause-lawful
returns-clause-lawful c = lawful_reach_all
