use Rattle.tap_cast_runs.proofs.Clause.{clause_at, lawful_clause}
use Rattle.tap_cast_runs.proofs.law.watch_clause_law.Goals as goal

pub returns-clause-runs : goal.returns-clause-runs
returns-clause-runs c = clause_at

pub returns-clause-lawful : goal.returns-clause-lawful
returns-clause-lawful c = lawful_clause
