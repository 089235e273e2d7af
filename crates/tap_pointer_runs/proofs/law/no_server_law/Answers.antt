use Rattle.tap_pointer_runs.proofs.NoServer.{disturbed_at_moments, ends_at_moments, lawful_disturbed, lawful_ends}
use Rattle.tap_pointer_runs.proofs.law.no_server_law.Goals as goal

pub returns-clause-ends : goal.returns-clause-ends
returns-clause-ends c = ends_at_moments

pub returns-clause-disturbed : goal.returns-clause-disturbed
returns-clause-disturbed c = disturbed_at_moments

pub returns-clause-lawful_ends : goal.returns-clause-lawful_ends
returns-clause-lawful_ends c = lawful_ends

pub returns-clause-lawful_disturbed : goal.returns-clause-lawful_disturbed
returns-clause-lawful_disturbed c = lawful_disturbed
