use Rattle.tap_moves.proofs.DepartingMoves.{frame_departing, frame_in_order}
use Rattle.tap_moves.proofs.DepartureMoves.{notice_in_order}
use Rattle.tap_moves.proofs.LeaveStarts.{leaving_in_order}
use Rattle.tap_moves.proofs.invariant.departures_from_invariant.Goals as goal

pub returns-clause-departing : goal.returns-clause-departing
returns-clause-departing c = frame_departing

pub returns-clause-frames : goal.returns-clause-frames
returns-clause-frames c = frame_in_order

pub returns-clause-notices : goal.returns-clause-notices
returns-clause-notices c = notice_in_order

pub returns-clause-starts : goal.returns-clause-starts
returns-clause-starts c = leaving_in_order
