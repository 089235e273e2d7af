use Rattle.tap_pointer_moves.proofs.AsAtRest.{pointers_on_paths_beside}
use Rattle.tap_pointer_moves.proofs.NoServer.{ends_of_walks_are_exact, finds_stay_on_walks}
use Rattle.tap_pointer_moves.proofs.law.beside_law.Goals as goal

pub returns-clause-paths : goal.returns-clause-paths
returns-clause-paths c = pointers_on_paths_beside

pub returns-clause-ends : goal.returns-clause-ends
returns-clause-ends c = ends_of_walks_are_exact

pub returns-clause-walks : goal.returns-clause-walks
returns-clause-walks c = finds_stay_on_walks
