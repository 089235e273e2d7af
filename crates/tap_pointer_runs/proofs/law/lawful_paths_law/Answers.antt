use Rattle.tap_pointer_runs.proofs.Runs.{lawful_on_paths, lawful_served}
use Rattle.tap_pointer_runs.proofs.law.lawful_paths_law.Goals as goal

pub returns-clause-published : goal.returns-clause-published
returns-clause-published c = lawful_served

pub returns-clause-paths : goal.returns-clause-paths
returns-clause-paths c = lawful_on_paths
