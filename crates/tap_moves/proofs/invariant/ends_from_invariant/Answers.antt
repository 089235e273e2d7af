use Rattle.tap_moves.proofs.EndMoves.{askers_at_rest, frame_ends, start_ends}
use Rattle.tap_moves.proofs.invariant.ends_from_invariant.Goals as goal

pub returns-clause-frames : goal.returns-clause-frames
returns-clause-frames c = frame_ends

pub returns-clause-starts : goal.returns-clause-starts
returns-clause-starts c = start_ends

pub returns-clause-members : goal.returns-clause-members
returns-clause-members c = askers_at_rest
