use Rattle.tap_bounds_runs.proofs.AtRest.{lawful_lookups, lawful_publications, lookups_at, publications_at}
use Rattle.tap_bounds_runs.proofs.law.at_rest_frames_law.Goals as goal

pub returns-clause-lookups : goal.returns-clause-lookups
returns-clause-lookups c = lookups_at

pub returns-clause-publications : goal.returns-clause-publications
returns-clause-publications c = publications_at

pub returns-clause-lawful_lookups : goal.returns-clause-lawful_lookups
returns-clause-lawful_lookups c = lawful_lookups

pub returns-clause-lawful_publications : goal.returns-clause-lawful_publications
returns-clause-lawful_publications c = lawful_publications
