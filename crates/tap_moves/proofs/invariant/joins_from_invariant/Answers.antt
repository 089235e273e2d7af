use Rattle.tap_moves.proofs.JoinMoves.{frame_joins}
use Rattle.tap_moves.proofs.NoticeMoves.{notice_joins}
use Rattle.tap_moves.proofs.StartMoves.{start_joins}
use Rattle.tap_moves.proofs.invariant.joins_from_invariant.Goals as goal

pub returns-clause-frames : goal.returns-clause-frames
returns-clause-frames c = frame_joins

pub returns-clause-starts : goal.returns-clause-starts
returns-clause-starts c = start_joins

pub returns-clause-notices : goal.returns-clause-notices
returns-clause-notices c = notice_joins
