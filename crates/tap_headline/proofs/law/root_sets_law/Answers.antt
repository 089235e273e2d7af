use Rattle.tap_headline.proofs.RootSetLogs.{headline_finds_salts}
use Rattle.tap_headline.proofs.UncarriedHeadline.{uncarried_logs_have_headline}
use Rattle.tap_headline.proofs.law.root_sets_law.Goals as goal

pub returns-clause-right : goal.returns-clause-right
returns-clause-right c = uncarried_logs_have_headline

pub returns-clause-found : goal.returns-clause-found
returns-clause-found c = headline_finds_salts
