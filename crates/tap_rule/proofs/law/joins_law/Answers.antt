use Rattle.tap_rule.proofs.CoverSteps.{seek_law, tell_law}
use Rattle.tap_rule.proofs.EndSteps.{cease_law}
use Rattle.tap_rule.proofs.JoinSteps.{done_law, hello_law, meet_law}
use Rattle.tap_rule.proofs.StartSteps.{give_up_law, seek_start_law}
use Rattle.tap_rule.proofs.law.joins_law.Goals as goal

pub returns-clause-seek : goal.returns-clause-seek
returns-clause-seek c = seek_law

pub returns-clause-tell : goal.returns-clause-tell
returns-clause-tell c = tell_law

pub returns-clause-meet : goal.returns-clause-meet
returns-clause-meet c = meet_law

pub returns-clause-hello : goal.returns-clause-hello
returns-clause-hello c = hello_law

pub returns-clause-done : goal.returns-clause-done
returns-clause-done c = done_law

pub returns-clause-cease : goal.returns-clause-cease
returns-clause-cease c = cease_law

pub returns-clause-starts : goal.returns-clause-starts
returns-clause-starts c = seek_start_law

pub returns-clause-gives_up : goal.returns-clause-gives_up
returns-clause-gives_up c = give_up_law
