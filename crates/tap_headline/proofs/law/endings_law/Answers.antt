use Rattle.tap_headline.proofs.Ended.{endings_change_nothing}
use Rattle.tap_headline.proofs.law.endings_law.Goals as goal

pub returns : goal.returns
returns c = endings_change_nothing
