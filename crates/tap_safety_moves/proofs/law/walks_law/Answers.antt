use Rattle.tap_safety_moves.proofs.Walks.{core_listed, tables_hole_free, walks_lead}
use Rattle.tap_safety_moves.proofs.law.walks_law.Goals as goal

pub returns-clause-listed : goal.returns-clause-listed
returns-clause-listed c = core_listed

pub returns-clause-hole_free : goal.returns-clause-hole_free
returns-clause-hole_free c = tables_hole_free

pub returns-clause-leads : goal.returns-clause-leads
returns-clause-leads c = walks_lead
