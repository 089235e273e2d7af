use Rattle.tap_engine.proofs.TurnRecords.{turns_are_told}
use Rattle.tap_engine.proofs.law.turn_law.Goals as goal

pub returns : goal.returns
returns c = turns_are_told
