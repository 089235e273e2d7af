use Rattle.tap_safety_moves.proofs.Members.{sound_at_rest}
use Rattle.tap_safety_moves.proofs.law.members_law.Goals as goal

pub returns : goal.returns
returns c = sound_at_rest
