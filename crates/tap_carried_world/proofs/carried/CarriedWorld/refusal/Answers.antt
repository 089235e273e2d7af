use Rattle.tap_carrier.specs.Kept.{KeepsLog}
use Rattle.tap_engine.specs.World.{whole_log}
use Rattle.tap_carried_world.proofs.Beginning.{carried_by}
use Rattle.tap_carried_world.proofs.Seen.{seen}
use Rattle.tap_carried_world.proofs.carried.CarriedWorld.refusal.Goals as goal

pub returns : goal.returns
returns c = λ s of.
    let log = whole_log c.args.self.now.world in
    c.refusal.ensures s.settings log
    (seen c.self.inside.world c.self.inside.carrier c.args.self.now c.self.view_is (λ v. KeepsLog s.settings log v.carrier) of.keeps)
    (carried_by log _ _ of.goes_on.played.begins)
