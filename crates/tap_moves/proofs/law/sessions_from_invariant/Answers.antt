use Rattle.tap_moves.proofs.SessionMoves.{frame_awaits, frame_core, frame_places, frame_steps, outside_books}
use Rattle.tap_moves.proofs.CountMoves.{frame_counts}
use Rattle.tap_moves.proofs.law.sessions_from_invariant.Goals as goal

pub returns-clause-steps : goal.returns-clause-steps
returns-clause-steps c = frame_steps

pub returns-clause-awaited : goal.returns-clause-awaited
returns-clause-awaited c = frame_awaits

pub returns-clause-places : goal.returns-clause-places
returns-clause-places c = frame_places

pub returns-clause-core : goal.returns-clause-core
returns-clause-core c = frame_core

pub returns-clause-counts : goal.returns-clause-counts
returns-clause-counts c = frame_counts

pub returns-clause-outside : goal.returns-clause-outside
returns-clause-outside c = outside_books
