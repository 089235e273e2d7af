use Rattle.tap_headline.proofs.Printable.{logs_can_be_printed}
use Rattle.tap_headline.proofs.law.printable_law.Goals as goal

pub returns : goal.returns
returns c = logs_can_be_printed
