use Rattle.tap_safety.proofs.FewSessions.{few_at_rest, few_sessions_kept, few_sessions_opened}
use Rattle.tap_safety.proofs.law.few_sessions_law.Goals as goal

pub returns-clause-members : goal.returns-clause-members
returns-clause-members c = few_at_rest

pub returns-clause-others : goal.returns-clause-others
returns-clause-others c = few_sessions_kept

pub returns-clause-opened : goal.returns-clause-opened
returns-clause-opened c = few_sessions_opened
