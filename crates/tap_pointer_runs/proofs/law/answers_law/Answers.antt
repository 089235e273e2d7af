use Rattle.tap_pointer_runs.proofs.RunAnswers.{answers_at, lawful_answers}
use Rattle.tap_pointer_runs.proofs.law.answers_law.Goals as goal

pub returns-clause-runs : goal.returns-clause-runs
returns-clause-runs c = answers_at

pub returns-clause-lawful : goal.returns-clause-lawful
returns-clause-lawful c = lawful_answers
