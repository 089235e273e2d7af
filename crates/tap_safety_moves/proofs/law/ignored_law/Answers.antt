use Rattle.tap_safety_moves.proofs.Ignored.{ignored_keeps}
use Rattle.tap_safety_moves.proofs.Lost.{ignored_is_lost}
use Rattle.tap_safety_moves.proofs.law.ignored_law.Goals as goal

pub returns-clause-lost : goal.returns-clause-lost
returns-clause-lost c = ignored_is_lost

pub returns-clause-keeps : goal.returns-clause-keeps
returns-clause-keeps c = ignored_keeps
