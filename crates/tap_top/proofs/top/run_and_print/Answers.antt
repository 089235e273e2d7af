use Rattle.tap_top.proofs.Causes.{leaves_some}
use Rattle.tap_top.proofs.top.run_and_print.Goals as goal

pub returns-clause-run : goal.returns-clause-run
returns-clause-run g c = rw c.into_world.ensures c.print_run-printed.ensures.run

pub returns-clause-world : goal.returns-clause-world
returns-clause-world g c =
    leaves_some c.args.scenario.now c.print_run-printed.result.before c.print_run-printed.new.player.world c.into_world.result
    c.print_run-printed.ensures.run

pub returns-clause-written : goal.returns-clause-written
returns-clause-written g c = rw c.into_world.ensures c.print_run-printed.ensures.written
