use Rattle.tap_replay.proofs.Adding.{finished_left, finished_log}
use Rattle.tap_replay.proofs.Running.{may_go_on}
use Rattle.tap_replay.proofs.run.Run.finish.Goals as goal

pub finish-requires-clause-goes_on : goal.finish-requires-clause-goes_on
finish-requires-clause-goes_on c = may_go_on c.args.scenario.now c.requires.run.valid c.args.self.now.world c.requires.run.goes_on

pub returns-clause-log : goal.returns-clause-log
returns-clause-log c =
    finished_log c.args.scenario.now c.args.self.now c.requires.run c.log.ensures.within c.requires.none c.finish.result c.finish.new.self
    c.finish.ensures.answers c.finish.ensures.memory

pub returns-clause-left : goal.returns-clause-left
returns-clause-left c =
    finished_left c.args.scenario.now c.args.self.now c.requires.run c.log.ensures.within c.requires.none c.finish.result c.finish.new.self
    c.finish.ensures.answers c.finish.ensures.memory c.finish.ensures.state
