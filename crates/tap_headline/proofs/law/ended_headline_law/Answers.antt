use Rattle.tap_headline.proofs.Headline.{ended_logs_have_headline}
use Rattle.tap_headline.proofs.law.ended_headline_law.Goals as goal

pub returns : goal.returns
returns c = ended_logs_have_headline
