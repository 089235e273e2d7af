use Rattle.tap_moves.proofs.WholeStarts.{start_is_named, start_keeps, start_keeps_filled}
use Rattle.tap_moves.proofs.invariant.invariant_after_starts.Goals as goal

pub returns-clause-named : goal.returns-clause-named
returns-clause-named c = start_is_named

pub returns-clause-all : goal.returns-clause-all
returns-clause-all c = start_keeps

pub returns-clause-filled : goal.returns-clause-filled
returns-clause-filled c = start_keeps_filled
