use Rattle.tap_carried.proofs.CarrierTurns.{carrier_turns_follow}
use Rattle.tap_carried.proofs.law.carrier_turns_law.Goals as goal

pub returns : goal.returns
returns c = carrier_turns_follow
