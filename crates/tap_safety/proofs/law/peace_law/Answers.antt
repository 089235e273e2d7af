use Rattle.tap_safety.proofs.Peace.{frame_peace_law, notices_law, peace_kept}
use Rattle.tap_safety.proofs.NoticesKept.{frame_leaves_law, notices_step_law, until_rest_law}
use Rattle.tap_safety.proofs.law.peace_law.Goals as goal

pub returns-clause-delivery : goal.returns-clause-delivery
returns-clause-delivery c = peace_kept

pub returns-clause-notices : goal.returns-clause-notices
returns-clause-notices c = notices_law

pub returns-clause-frame : goal.returns-clause-frame
returns-clause-frame c = frame_peace_law

pub returns-clause-until_rest : goal.returns-clause-until_rest
returns-clause-until_rest c = until_rest_law

pub returns-clause-steps : goal.returns-clause-steps
returns-clause-steps c = notices_step_law

pub returns-clause-other_frame : goal.returns-clause-other_frame
returns-clause-other_frame c = frame_leaves_law
