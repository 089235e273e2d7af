use Rattle.tap_bounds.proofs.Depths.{run_is_not_deep, sound_is_not_deep}
use Rattle.tap_bounds.proofs.law.depths_law.Goals as goal

pub returns-clause-sound : goal.returns-clause-sound
returns-clause-sound c = sound_is_not_deep

pub returns-clause-runs : goal.returns-clause-runs
returns-clause-runs c = run_is_not_deep
