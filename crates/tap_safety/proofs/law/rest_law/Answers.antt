use Rattle.tap_safety.proofs.AtRest.{at_rest_law}
use Rattle.tap_safety.proofs.Rest.{rest_holds}
use Rattle.tap_safety.proofs.law.rest_law.Goals as goal

pub returns-clause-members : goal.returns-clause-members
returns-clause-members c = at_rest_law

pub returns-clause-rest : goal.returns-clause-rest
returns-clause-rest c = rest_holds
