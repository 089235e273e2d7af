use Rattle.tap_moves.proofs.SessionMoves.{frame_names, start_names}
use Rattle.tap_moves.proofs.law.names_from_invariant.Goals as goal

pub returns-clause-frames : goal.returns-clause-frames
returns-clause-frames c = frame_names

pub returns-clause-starts : goal.returns-clause-starts
returns-clause-starts c = start_names
