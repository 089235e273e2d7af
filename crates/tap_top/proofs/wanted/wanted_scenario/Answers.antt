use Rattle.std.proofs.Common.{refl}
use Rattle.std.proofs.lemmas.Result.{IfErr-weaker, IfOk-weaker}
use Rattle.tap_top.proofs.wanted.wanted_scenario.Goals as goal

pub returns-in-Some-clause-wanted : goal.returns-in-Some-clause-wanted
returns-in-Some-clause-wanted g c =
    IfOk-weaker c.make_scenario.result _ _ (λ script is. rw c.in-Some.is (is, refl)) c.make_scenario.ensures.made

pub returns-in-Some-clause-cause : goal.returns-in-Some-clause-cause
returns-in-Some-clause-cause g c =
    IfErr-weaker c.make_scenario.result _ _ (λ status is. rw c.in-Some.is (is, refl)) c.make_scenario.ensures.cause

pub returns-in-None-clause-wanted : goal.returns-in-None-clause-wanted
returns-in-None-clause-wanted g c =
    IfOk-weaker c.read_scenario.result _ _ (λ script is. rw c.in-None.is is) c.read_scenario.ensures.script

pub returns-in-None-clause-cause : goal.returns-in-None-clause-cause
returns-in-None-clause-cause g c =
    IfErr-weaker c.read_scenario.result _ _ (λ status is. rw c.in-None.is is) c.read_scenario.ensures.unread
