use Rattle.tap_safe_runs.proofs.Safe.{runs_are_sound}
use Rattle.tap_safe_runs.proofs.law.sound_runs_law.Goals as goal

pub returns : goal.returns
returns c = runs_are_sound
