use Rattle.tap_pointer_moves.proofs.Wanted.{laid_at_core_holds, wanted_holds}
use Rattle.tap_pointer_moves.proofs.law.wanted_law.Goals as goal

pub returns-clause-wanted : goal.returns-clause-wanted
returns-clause-wanted c = wanted_holds

pub returns-clause-core : goal.returns-clause-core
returns-clause-core c = laid_at_core_holds
