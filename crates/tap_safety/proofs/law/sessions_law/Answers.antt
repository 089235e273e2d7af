use Rattle.tap_safety.proofs.SessionLaws.{frame_law, opened_law, quiet_law, root_law, rootless_law}
use Rattle.tap_safety.proofs.StepLaws.{joins_root_law, closing_law, handing_on_law, last_answer_law, others_law, root_opened_law}
use Rattle.tap_safety.proofs.StepLaws.{joins_closing_law, joins_handing_on_law, joins_last_law, joins_opening_law}
use Rattle.tap_safety.proofs.law.sessions_law.Goals as goal

pub returns-clause-opened : goal.returns-clause-opened
returns-clause-opened c = opened_law

pub returns-clause-rootless : goal.returns-clause-rootless
returns-clause-rootless c = rootless_law

pub returns-clause-root : goal.returns-clause-root
returns-clause-root c = root_law

pub returns-clause-frame : goal.returns-clause-frame
returns-clause-frame c = frame_law

pub returns-clause-quiet : goal.returns-clause-quiet
returns-clause-quiet c = quiet_law

pub returns-clause-handed_on : goal.returns-clause-handed_on
returns-clause-handed_on c = handing_on_law

pub returns-clause-seated : goal.returns-clause-seated
returns-clause-seated c = root_opened_law

pub returns-clause-closed : goal.returns-clause-closed
returns-clause-closed c = closing_law

pub returns-clause-last : goal.returns-clause-last
returns-clause-last c = last_answer_law

pub returns-clause-others : goal.returns-clause-others
returns-clause-others c = others_law

pub returns-clause-joins_handed_on : goal.returns-clause-joins_handed_on
returns-clause-joins_handed_on c = joins_handing_on_law

pub returns-clause-joins_opened : goal.returns-clause-joins_opened
returns-clause-joins_opened c = joins_opening_law

pub returns-clause-joins_closed : goal.returns-clause-joins_closed
returns-clause-joins_closed c = joins_closing_law

pub returns-clause-joins_last : goal.returns-clause-joins_last
returns-clause-joins_last c = joins_last_law

pub returns-clause-joins_seated : goal.returns-clause-joins_seated
returns-clause-joins_seated c = joins_root_law
