use Rattle.tap_cast_runs.proofs.CastsBegun.{casts_stay_begun, groups_begin_right}
use Rattle.tap_cast_runs.proofs.law.begun_casts_law.Goals as goal

pub returns-clause-begins : goal.returns-clause-begins
returns-clause-begins c = groups_begin_right

pub returns-clause-stays : goal.returns-clause-stays
returns-clause-stays c = casts_stay_begun
