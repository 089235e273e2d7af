use Rattle.tap_moves.proofs.AllParts.{leaving_keeps}
use Rattle.tap_moves.proofs.PartMoves.{leaving_seeks, leaving_sessions, leaving_tables}
use Rattle.tap_moves.proofs.LeaveStamps.{leaving_stamped}
use Rattle.tap_moves.proofs.LeaveWords.{leaving_words}
use Rattle.tap_moves.proofs.invariant.leaving_from_invariant.Goals as goal

pub returns-clause-tables : goal.returns-clause-tables
returns-clause-tables c = leaving_tables

pub returns-clause-sessions : goal.returns-clause-sessions
returns-clause-sessions c = leaving_sessions

pub returns-clause-seeks : goal.returns-clause-seeks
returns-clause-seeks c = leaving_seeks

pub returns-clause-stamped : goal.returns-clause-stamped
returns-clause-stamped c = leaving_stamped

pub returns-clause-words : goal.returns-clause-words
returns-clause-words c = leaving_words

pub returns-clause-invariant : goal.returns-clause-invariant
returns-clause-invariant c = leaving_keeps
