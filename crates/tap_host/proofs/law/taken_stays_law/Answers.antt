use Rattle.tap_host.proofs.TakenStays.{taken_stays}
use Rattle.tap_host.proofs.law.taken_stays_law.Goals as goal

pub returns : goal.returns
returns c = taken_stays
