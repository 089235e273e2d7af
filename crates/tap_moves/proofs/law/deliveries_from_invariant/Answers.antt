use Rattle.tap_moves.proofs.EndedMoves.{frame_ended}
use Rattle.tap_moves.proofs.InvariantMoves.{frame_exact, frame_fills, frame_says, frame_soft, link_ties, seek_gives}
use Rattle.tap_moves.proofs.law.deliveries_from_invariant.Goals as goal

pub returns-clause-fills : goal.returns-clause-fills
returns-clause-fills c = frame_fills

pub returns-clause-link : goal.returns-clause-link
returns-clause-link c = link_ties

pub returns-clause-seek : goal.returns-clause-seek
returns-clause-seek c = seek_gives

pub returns-clause-exact : goal.returns-clause-exact
returns-clause-exact c = frame_exact

pub returns-clause-ended : goal.returns-clause-ended
returns-clause-ended c = frame_ended

pub returns-clause-words : goal.returns-clause-words
returns-clause-words c = frame_says

pub returns-clause-soft : goal.returns-clause-soft
returns-clause-soft c = frame_soft
