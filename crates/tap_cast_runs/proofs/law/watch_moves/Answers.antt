use Rattle.tap_cast_runs.proofs.HandedOn.{seek_hands_on, tell_hands_on}
use Rattle.tap_cast_runs.proofs.law.watch_moves.Goals as goal

pub returns-clause-tell : goal.returns-clause-tell
returns-clause-tell c = tell_hands_on

pub returns-clause-seek : goal.returns-clause-seek
returns-clause-seek c = seek_hands_on
