use Rattle.tap_table.proofs.Least.{first_fitting_law_holds, ties_law_holds}
use Rattle.tap_surrogate.proofs.RestTables.{least_law_holds, rest_law_holds}
use Rattle.tap_surrogate.proofs.law.members_law.Goals as goal

pub returns-clause-ties : goal.returns-clause-ties
returns-clause-ties c = ties_law_holds

pub returns-clause-hole_free : goal.returns-clause-hole_free
returns-clause-hole_free c = rest_law_holds

pub returns-clause-least : goal.returns-clause-least
returns-clause-least c = least_law_holds

pub returns-clause-first_fitting : goal.returns-clause-first_fitting
returns-clause-first_fitting c = first_fitting_law_holds
