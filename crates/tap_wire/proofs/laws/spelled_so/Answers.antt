use Rattle.tap_wire.proofs.Frames.{spelled_so}
use Rattle.tap_wire.proofs.laws.spelled_so.Goals as goal

pub returns : goal.returns
returns c = spelled_so
