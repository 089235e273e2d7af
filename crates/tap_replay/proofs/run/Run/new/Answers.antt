use Rattle.std.proofs.Common.{refl}
use Rattle.tap_replay.proofs.Running.{starts_run}
use Rattle.tap_replay.proofs.run.Run.new.Goals as goal

pub returns-clause-run : goal.returns-clause-run
returns-clause-run c =
    starts_run c.args.scenario.now _ _ c.settings.ensures.valid c.settings.ensures.value c.frames.ensures.value c.members.ensures.value refl refl
    c.in_ok-world.ensures.begun
