use Rattle.tap_cast_runs.proofs.Once.{closed_has_reached_all, groups_reach_right, reaches_at_most_once, rest_says_closed, run_told_once}
use Rattle.tap_cast_runs.proofs.law.told_casts_law.Goals as goal

pub returns-clause-once : goal.returns-clause-once
returns-clause-once c = run_told_once

pub returns-clause-most : goal.returns-clause-most
returns-clause-most c = reaches_at_most_once

pub returns-clause-right : goal.returns-clause-right
returns-clause-right c = groups_reach_right

pub returns-clause-all : goal.returns-clause-all
returns-clause-all c = closed_has_reached_all

pub returns-clause-rest : goal.returns-clause-rest
returns-clause-rest c = rest_says_closed
