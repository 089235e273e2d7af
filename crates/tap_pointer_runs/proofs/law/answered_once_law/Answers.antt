use Rattle.tap_pointer_runs.proofs.AnsweredOnce.{answered_at_moments, lawful_answered}
use Rattle.tap_pointer_runs.proofs.law.answered_once_law.Goals as goal

pub returns-clause-runs : goal.returns-clause-runs
returns-clause-runs c = answered_at_moments

pub returns-clause-lawful : goal.returns-clause-lawful
returns-clause-lawful c = lawful_answered
