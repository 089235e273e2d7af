use Rattle.tap_cast_runs.proofs.Chains.{move_keeps_chains}
use Rattle.tap_cast_runs.proofs.law.chains_moves_law.Goals as goal

pub returns : goal.returns
returns c = move_keeps_chains
