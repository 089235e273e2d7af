use Rattle.tap_moves.proofs.PeaceStarts.{start_peaceful}
use Rattle.tap_moves.proofs.SeekStarts.{start_seeks}
use Rattle.tap_moves.proofs.SessionStarts.{start_awaits, start_books, start_core, start_places}
use Rattle.tap_moves.proofs.SoftStarts.{start_soft}
use Rattle.tap_moves.proofs.WordStarts.{start_words}
use Rattle.tap_moves.proofs.invariant.parts_after_starts.Goals as goal

pub returns-clause-soft : goal.returns-clause-soft
returns-clause-soft c = start_soft

pub returns-clause-seeks : goal.returns-clause-seeks
returns-clause-seeks c = start_seeks

pub returns-clause-words : goal.returns-clause-words
returns-clause-words c = start_words

pub returns-clause-books : goal.returns-clause-books
returns-clause-books c = start_books

pub returns-clause-awaits : goal.returns-clause-awaits
returns-clause-awaits c = start_awaits

pub returns-clause-places : goal.returns-clause-places
returns-clause-places c = start_places

pub returns-clause-core : goal.returns-clause-core
returns-clause-core c = start_core

pub returns-clause-peace : goal.returns-clause-peace
returns-clause-peace c = start_peaceful
