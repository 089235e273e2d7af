use Rattle.tap_moves.proofs.SeekMade.{seek_covers, seek_greets}
use Rattle.tap_moves.proofs.law.seek_moves.Goals as goal

pub returns-clause-covers : goal.returns-clause-covers
returns-clause-covers c = seek_covers

pub returns-clause-greets : goal.returns-clause-greets
returns-clause-greets c = seek_greets
