use Rattle.std.proofs.Common.{sym, ◌∙◌, arith}
use Rattle.std.proofs.lemmas.Bool.{ne_eqb}
use Rattle.tap_carrier.specs.Kept.{KeepsLog}
use Rattle.tap_engine.specs.World.{whole_log}
use Rattle.tap_carried_world.proofs.Seen.{seen}
use Rattle.tap_carried_world.proofs.Stranded.{packets_left, stranded_by}
use Rattle.tap_carried_world.proofs.carried.CarriedWorld.is_stranded.Goals as goal

pub returns-then-under_way-eq0 : goal.returns-then-under_way-eq0
returns-then-under_way-eq0 c = λ s of.
    let log = whole_log c.args.self.now.world in
    let keeps = seen c.self.inside.world c.self.inside.carrier c.args.self.now c.self.view_is (λ v. KeepsLog s.settings log v.carrier) of.keeps in
    stranded_by log c.awaiting.result (sym (c.under_way.ensures.lines s.settings log keeps) ∙ c.if-under_way-eq0.true)
    (c.awaiting.ensures.frames s.settings log keeps)

pub returns-else-under_way-eq0 : goal.returns-else-under_way-eq0
returns-else-under_way-eq0 c = λ s of.
    let log = whole_log c.args.self.now.world in
    let keeps = seen c.self.inside.world c.self.inside.carrier c.args.self.now c.self.view_is (λ v. KeepsLog s.settings log v.carrier) of.keeps in
    let lines = c.under_way.ensures.lines s.settings log keeps in
    let some = c.if-under_way-eq0.false in
    ne_eqb c.under_way.result 0 some ∙ sym (packets_left log (omega (arith, lines, some)))
