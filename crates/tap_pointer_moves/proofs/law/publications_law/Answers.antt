use Rattle.tap_pointer_moves.proofs.Publications.{frame_serves, leavers_stay, leaves_once, start_serves}
use Rattle.tap_pointer_moves.proofs.law.publications_law.Goals as goal

pub returns-clause-starts : goal.returns-clause-starts
returns-clause-starts c = start_serves

pub returns-clause-frames : goal.returns-clause-frames
returns-clause-frames c = frame_serves

pub returns-clause-leaves : goal.returns-clause-leaves
returns-clause-leaves c = leaves_once

pub returns-clause-stay : goal.returns-clause-stay
returns-clause-stay c = leavers_stay
