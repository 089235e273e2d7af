use Rattle.tap_surrogate.proofs.Chains.{chain_law_holds}
use Rattle.tap_surrogate.proofs.Entering.{entered_law_holds}
use Rattle.tap_surrogate.proofs.HoleFreePaths.{walk_law_holds}
use Rattle.tap_surrogate.proofs.NextHops.{next_hop_law_holds}
use Rattle.tap_surrogate.proofs.law.walk_law.Goals as goal

pub returns-clause-leads : goal.returns-clause-leads
returns-clause-leads c = walk_law_holds

pub returns-clause-entered : goal.returns-clause-entered
returns-clause-entered c = entered_law_holds

pub returns-clause-next_hop : goal.returns-clause-next_hop
returns-clause-next_hop c = next_hop_law_holds

pub returns-clause-chain : goal.returns-clause-chain
returns-clause-chain c = chain_law_holds
