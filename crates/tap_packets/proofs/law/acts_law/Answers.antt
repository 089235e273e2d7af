use Rattle.tap_packets.proofs.ActedRecords.{acts_fit_holds}
use Rattle.tap_packets.proofs.law.acts_law.Goals as goal

pub returns : goal.returns
returns c = acts_fit_holds
