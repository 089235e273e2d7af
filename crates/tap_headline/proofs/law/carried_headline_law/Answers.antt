use Rattle.tap_headline.proofs.CarriedHeadline.{carried_logs_have_headline, reduced_logs_are_runs, uncut_logs_keep_moments}
use Rattle.tap_headline.proofs.law.carried_headline_law.Goals as goal

pub returns-clause-headline : goal.returns-clause-headline
returns-clause-headline c = carried_logs_have_headline

pub returns-clause-runs : goal.returns-clause-runs
returns-clause-runs c = reduced_logs_are_runs

pub returns-clause-moments : goal.returns-clause-moments
returns-clause-moments c = uncut_logs_keep_moments
