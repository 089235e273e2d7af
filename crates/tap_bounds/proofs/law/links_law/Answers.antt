use Rattle.tap_bounds.proofs.LinkRuns.{run_links_few}
use Rattle.tap_bounds.proofs.law.links_law.Goals as goal

pub returns : goal.returns
returns c = run_links_few
