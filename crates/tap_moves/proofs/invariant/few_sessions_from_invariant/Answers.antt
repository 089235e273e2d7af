use Rattle.tap_moves.proofs.Depths.{sessions_shallow, tells_shallow}
use Rattle.tap_moves.proofs.FewMoves.{frame_few, start_few}
use Rattle.tap_moves.proofs.NoticeMoves.{notice_few}
use Rattle.tap_moves.proofs.invariant.few_sessions_from_invariant.Goals as goal

pub returns-clause-frames : goal.returns-clause-frames
returns-clause-frames c = frame_few

pub returns-clause-starts : goal.returns-clause-starts
returns-clause-starts c = start_few

pub returns-clause-sessions : goal.returns-clause-sessions
returns-clause-sessions c = sessions_shallow

pub returns-clause-tells : goal.returns-clause-tells
returns-clause-tells c = tells_shallow

pub returns-clause-notices : goal.returns-clause-notices
returns-clause-notices c = notice_few
