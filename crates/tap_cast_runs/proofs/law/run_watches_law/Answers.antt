use Rattle.tap_cast_runs.proofs.Runs.{run_chains_kept, run_answers_kept, run_core_has, run_covers_answered, run_watches_kept, watches_hold_at}
use Rattle.tap_cast_runs.proofs.law.run_watches_law.Goals as goal

pub returns-clause-kept : goal.returns-clause-kept
returns-clause-kept c = run_watches_kept

pub returns-clause-answered : goal.returns-clause-answered
returns-clause-answered c = run_covers_answered

pub returns-clause-held : goal.returns-clause-held
returns-clause-held c = run_answers_kept

pub returns-clause-core : goal.returns-clause-core
returns-clause-core c = run_core_has

pub returns-clause-led : goal.returns-clause-led
returns-clause-led c = run_chains_kept

pub returns-clause-moments : goal.returns-clause-moments
returns-clause-moments c = watches_hold_at
