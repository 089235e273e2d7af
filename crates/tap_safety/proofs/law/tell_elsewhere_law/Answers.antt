use Rattle.tap_safety.proofs.StepLaws.{soft_ceased_law, soft_joining_law, tell_ceased_law, tell_joining_law}
use Rattle.tap_safety.proofs.law.tell_elsewhere_law.Goals as goal

pub returns-clause-joining : goal.returns-clause-joining
returns-clause-joining c = tell_joining_law

pub returns-clause-ceased : goal.returns-clause-ceased
returns-clause-ceased c = tell_ceased_law

pub returns-clause-joining_soft : goal.returns-clause-joining_soft
returns-clause-joining_soft c = soft_joining_law

pub returns-clause-ceased_soft : goal.returns-clause-ceased_soft
returns-clause-ceased_soft c = soft_ceased_law
