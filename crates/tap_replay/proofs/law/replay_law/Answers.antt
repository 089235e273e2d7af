use Rattle.tap_replay.proofs.CarriedLawfulness.{carried_runs_are_lawful}
use Rattle.tap_replay.proofs.Lawfulness.{runs_are_lawful}
use Rattle.tap_replay.proofs.law.replay_law.Goals as goal

pub returns-clause-plain : goal.returns-clause-plain
returns-clause-plain c = runs_are_lawful

pub returns-clause-carried : goal.returns-clause-carried
returns-clause-carried c = carried_runs_are_lawful
