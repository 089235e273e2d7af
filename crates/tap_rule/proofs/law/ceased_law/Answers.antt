use Rattle.tap_rule.proofs.CeasedSteps.{ceased_cast_law, ceased_link_law, ceased_tell_law, ceased_unlink_law}
use Rattle.tap_rule.proofs.law.ceased_law.Goals as goal

pub returns-clause-tell : goal.returns-clause-tell
returns-clause-tell c = ceased_tell_law

pub returns-clause-link : goal.returns-clause-link
returns-clause-link c = ceased_link_law

pub returns-clause-unlink : goal.returns-clause-unlink
returns-clause-unlink c = ceased_unlink_law

pub returns-clause-cast : goal.returns-clause-cast
returns-clause-cast c = ceased_cast_law
