use Rattle.tap_pointer_moves.proofs.LookupsKept.{lookups_at_rest, lookups_kept, never_back}
use Rattle.tap_pointer_moves.proofs.law.lookups_law.Goals as goal

pub returns-clause-members : goal.returns-clause-members
returns-clause-members c = lookups_at_rest

pub returns-clause-moves : goal.returns-clause-moves
returns-clause-moves c = lookups_kept

pub returns-clause-back : goal.returns-clause-back
returns-clause-back c = never_back
