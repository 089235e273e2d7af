use Rattle.tap_bounds.proofs.FewSent.{run_sends_few}
use Rattle.tap_bounds.proofs.law.few_runs_law.Goals as goal

pub returns : goal.returns
returns c = run_sends_few
