use Rattle.tap_pointer_runs.proofs.Alone.{alone_at, lawful_alone}
use Rattle.tap_pointer_runs.proofs.law.alone_law.Goals as goal

pub returns-clause-runs : goal.returns-clause-runs
returns-clause-runs c = alone_at

pub returns-clause-lawful : goal.returns-clause-lawful
returns-clause-lawful c = lawful_alone
