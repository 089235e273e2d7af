use Rattle.tap_carried_world.proofs.Beginning.{begins_run, begun_may}
use Rattle.tap_carried_world.proofs.CarriedRunLaws.{laws}
use Rattle.tap_carried_world.proofs.carried.CarriedWorld.new.Goals as goal

pub new-requires-2-clause-goes_on : goal.new-requires-2-clause-goes_on
new-requires-2-clause-goes_on c = begun_may _ c.in_ok-world.world c.in_ok-world.ensures.begun

pub returns-in-Ok-clause-begins : goal.returns-in-Ok-clause-begins
returns-in-Ok-clause-begins c =
    begins_run _ c.in_ok-world.world c.in_ok-world.ensures.begun laws c.args.scenario.now c.settings.ensures.valid c.requires.carried
    c.settings.ensures.value c.frames.ensures.value c.members.ensures.value c.new-2.new.world c.in-Ok.ensures.world.0 c.in-Ok.carrier
    (c.in-Ok.ensures.keeps _ c.in_ok-world.ensures.begun)
