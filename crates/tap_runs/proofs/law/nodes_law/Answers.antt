use Rattle.tap_runs.proofs.Departing.{course_nodes_holds}
use Rattle.tap_runs.proofs.law.nodes_law.Goals as goal

pub returns : goal.returns
returns c = course_nodes_holds
