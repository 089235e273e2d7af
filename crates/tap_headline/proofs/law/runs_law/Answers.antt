use Rattle.tap_headline.proofs.Runs.{run_logs_are_printed, run_logs_end_so, run_logs_follow, run_logs_have_headline}
use Rattle.tap_headline.proofs.law.runs_law.Goals as goal

pub returns-clause-follows : goal.returns-clause-follows
returns-clause-follows c = run_logs_follow

pub returns-clause-headline : goal.returns-clause-headline
returns-clause-headline c = run_logs_have_headline

pub returns-clause-ends : goal.returns-clause-ends
returns-clause-ends c = run_logs_end_so

pub returns-clause-printed : goal.returns-clause-printed
returns-clause-printed c = run_logs_are_printed
