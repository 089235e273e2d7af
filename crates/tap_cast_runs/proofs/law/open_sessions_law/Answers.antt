use Rattle.tap_cast_runs.proofs.Sessions.{answers_awaited_at, lawful_answers_awaited, lawful_rest_sessions, rest_sessions_at}
use Rattle.tap_cast_runs.proofs.law.open_sessions_law.Goals as goal

pub returns-clause-awaited : goal.returns-clause-awaited
returns-clause-awaited c = answers_awaited_at

pub returns-clause-rest : goal.returns-clause-rest
returns-clause-rest c = rest_sessions_at

pub returns-clause-lawful_awaited : goal.returns-clause-lawful_awaited
returns-clause-lawful_awaited c = lawful_answers_awaited

pub returns-clause-lawful_rest : goal.returns-clause-lawful_rest
returns-clause-lawful_rest c = lawful_rest_sessions
