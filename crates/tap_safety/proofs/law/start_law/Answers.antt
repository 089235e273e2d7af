use Rattle.tap_safety.proofs.StepLaws.{seeking_join_law, soft_join_law, soft_start_law, join_filled_law, start_filled_law}
use Rattle.tap_safety.proofs.law.start_law.Goals as goal

pub returns-clause-plain : goal.returns-clause-plain
returns-clause-plain c = start_filled_law

pub returns-clause-join : goal.returns-clause-join
returns-clause-join c = join_filled_law

pub returns-clause-plain_soft : goal.returns-clause-plain_soft
returns-clause-plain_soft c = soft_start_law

pub returns-clause-join_soft : goal.returns-clause-join_soft
returns-clause-join_soft c = soft_join_law

pub returns-clause-join_seeking : goal.returns-clause-join_seeking
returns-clause-join_seeking c = seeking_join_law
