use Rattle.tap_moves.proofs.StartsMade.{giving_up_keeps, join_keeps, quiet_start_keeps, start_fills}
use Rattle.tap_moves.proofs.law.starts_keep.Goals as goal

pub returns-clause-quiet : goal.returns-clause-quiet
returns-clause-quiet c = quiet_start_keeps

pub returns-clause-gives_up : goal.returns-clause-gives_up
returns-clause-gives_up c = giving_up_keeps

pub returns-clause-join : goal.returns-clause-join
returns-clause-join c = join_keeps

pub returns-clause-from_invariant : goal.returns-clause-from_invariant
returns-clause-from_invariant c = start_fills
