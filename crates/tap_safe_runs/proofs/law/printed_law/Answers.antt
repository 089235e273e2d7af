use Rattle.tap_safe_runs.proofs.Printed.{roots_are_found, walks_are_to_roots}
use Rattle.tap_safe_runs.proofs.law.printed_law.Goals as goal

pub returns-clause-walks : goal.returns-clause-walks
returns-clause-walks c = walks_are_to_roots

pub returns-clause-roots : goal.returns-clause-roots
returns-clause-roots c = roots_are_found
