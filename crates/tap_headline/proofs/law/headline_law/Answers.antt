use Rattle.tap_headline.proofs.Scripts.{logs_follow_scripts, logs_have_headline}
use Rattle.tap_headline.proofs.law.headline_law.Goals as goal

pub returns-clause-follows : goal.returns-clause-follows
returns-clause-follows c = logs_follow_scripts

pub returns-clause-headline : goal.returns-clause-headline
returns-clause-headline c = logs_have_headline
