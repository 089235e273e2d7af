use Rattle.tap_rule.proofs.CastSteps.{cast_ack_law, cast_law, cast_start_law}
use Rattle.tap_rule.proofs.CeasedSteps.{joining_cast_law}
use Rattle.tap_rule.proofs.law.casts_law.Goals as goal

pub returns-clause-cast : goal.returns-clause-cast
returns-clause-cast c = cast_law

pub returns-clause-starts : goal.returns-clause-starts
returns-clause-starts c = cast_start_law

pub returns-clause-ack : goal.returns-clause-ack
returns-clause-ack c = cast_ack_law

pub returns-clause-joining : goal.returns-clause-joining
returns-clause-joining c = joining_cast_law
