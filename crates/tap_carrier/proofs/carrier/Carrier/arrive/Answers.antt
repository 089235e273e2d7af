use Rattle.std.proofs.Common.{◌≡◌, [], ◌∷◌, refl}
use Rattle.std.proofs.Common.{subst}
use Rattle.tap_log.specs.declared.record.Record.TheVariants.{Arrived}
use Rattle.tap_log.specs.Reduced.{is_added}
use Rattle.tap_carry.specs.declared.net.Numbered.{Numbered}
use Rattle.tap_carrier.specs.Sending.{HasDropped, HasRemarked}
use Rattle.tap_carrier.proofs.Remarking.{remarked_one}
use Rattle.tap_carrier.proofs.carrier.Carrier.arrive.Goals as goal

pub remark-requires-clause-kind : goal.remark-requires-clause-kind
unfolding is_added
remark-requires-clause-kind c = refl

pub returns-clause-adds : goal.returns-clause-adds
returns-clause-adds c = λ there at.
    let taken = c.take-there.result in
    let same : taken ≡ there = cc (c.take-there.ensures.packet, at) in
    subst (λ (n : Numbered). HasRemarked (Arrived n.number ∷ []) c.args.world.now c.remark.new.self
    × HasDropped n.number c.args.self.now c.take-there.new.self) same
    (remarked_one (Arrived taken.number) c.args.world.now c.remark.new.self c.in_ok-remark.ensures.remarks, c.take-there.ensures.gone)
