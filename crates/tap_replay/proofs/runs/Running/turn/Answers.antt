use Rattle.std.proofs.Common.{◌<◌, None, sym, subst}
use Rattle.tap_engine.specs.World.{whole_log}
use Rattle.tap_lawful.specs.RunLaws.{left_in}
use Rattle.tap_replay.specs.Runs.{RunsUnless, TurnsBy, world_of}
use Rattle.tap_replay.specs.declared.runs.Running.{Running}
use Rattle.tap_replay.proofs.ByCarrier.{plain_less, plain_turns}
use Rattle.tap_replay.proofs.runs.Running.turn.Goals as goal

pub returns-in-Plain-clause-turns : goal.returns-in-Plain-clause-turns
returns-in-Plain-clause-turns c =
    let s = c.args.scenario.now in
    let given = c.turn.result in
    let before = c.in-Plain.run'.world in
    let after = c.turn.new.self.world in
    let was = subst (RunsUnless None s) c.in-Plain.is c.requires in
    subst (λ (r : Running). TurnsBy s.carrier s (whole_log (world_of r)) given (whole_log after)) (sym c.in-Plain.is)
    (plain_turns s (whole_log before) (whole_log after) was.0 given c.turn.ensures.turns)

pub returns-in-Plain-clause-less : goal.returns-in-Plain-clause-less
returns-in-Plain-clause-less c = λ more.
    let s = c.args.scenario.now in
    let before = c.in-Plain.run'.world in
    let after = c.turn.new.self.world in
    let was = subst (RunsUnless None s) c.in-Plain.is c.requires in
    subst (λ (r : Running). left_in s (whole_log after) < left_in s (whole_log (world_of r))) (sym c.in-Plain.is)
    (plain_less s (whole_log before) (whole_log after) was.0 (c.turn.ensures.less more))
