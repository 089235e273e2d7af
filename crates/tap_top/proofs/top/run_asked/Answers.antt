use Rattle.tap_top.proofs.Causes.{cause_of_run, leaves_none}
use Rattle.tap_top.proofs.Texts.{HasWritten-alone}
use Rattle.tap_top.proofs.top.run_asked.Goals as goal

pub returns-in-Ok-clause-cause : goal.returns-in-Ok-clause-cause
returns-in-Ok-clause-cause g c =
    cause_of_run c.args.asked.now (g.S.Source.state c.args.source.now) (g.S.Source.state c.wanted_scenario.new.source) c.in-Ok.scenario
    c.run_and_print.result.world c.run_and_print.result.before c.in-Ok.ensures.valid c.in-Ok.ensures.wanted
    c.run_and_print.ensures.run

pub returns-in-Err-clause-cause : goal.returns-in-Err-clause-cause
returns-in-Err-clause-cause g c =
    rw (c.end_without_run.ensures.world, c.end_without_run.ensures.before) c.in-Err.ensures.cause

pub returns-in-Err-clause-world : goal.returns-in-Err-clause-world
returns-in-Err-clause-world g c =
    rw (c.end_without_run.ensures.world, c.end_without_run.ensures.before)
    (leaves_none c.args.asked.now (g.S.Source.state c.args.source.now) (g.S.Source.state c.wanted_scenario.new.source) c.in-Err.before
    c.in-Err.ensures.cause)

pub returns-in-Err-clause-written : goal.returns-in-Err-clause-written
returns-in-Err-clause-written g c =
    rw c.end_without_run.ensures.before
    (HasWritten-alone _ _ _ c.end_without_run.result.world c.in-Err.before c.end_without_run.result.status c.end_without_run.ensures.world
    c.end_without_run.ensures.written)
