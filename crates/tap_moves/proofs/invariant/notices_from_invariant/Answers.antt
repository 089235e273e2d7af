use Rattle.tap_moves.proofs.AllParts.{notice_keeps}
use Rattle.tap_moves.proofs.PartMoves.{notice_seeks, notice_sessions, notice_tables}
use Rattle.tap_moves.proofs.LeaveStamps.{notice_stamped}
use Rattle.tap_moves.proofs.LeaveWords.{notice_words}
use Rattle.tap_moves.proofs.invariant.notices_from_invariant.Goals as goal

pub returns-clause-tables : goal.returns-clause-tables
returns-clause-tables c = notice_tables

pub returns-clause-sessions : goal.returns-clause-sessions
returns-clause-sessions c = notice_sessions

pub returns-clause-seeks : goal.returns-clause-seeks
returns-clause-seeks c = notice_seeks

pub returns-clause-stamped : goal.returns-clause-stamped
returns-clause-stamped c = notice_stamped

pub returns-clause-words : goal.returns-clause-words
returns-clause-words c = notice_words

pub returns-clause-invariant : goal.returns-clause-invariant
returns-clause-invariant c = notice_keeps
