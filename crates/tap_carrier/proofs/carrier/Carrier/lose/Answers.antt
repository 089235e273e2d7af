use Rattle.std.proofs.Common.{◌≡◌, [], ◌∷◌, refl, subst}
use Rattle.tap_log.specs.declared.record.Record.TheVariants.{Lost}
use Rattle.tap_log.specs.Reduced.{is_added}
use Rattle.tap_carry.specs.declared.net.Numbered.{Numbered}
use Rattle.tap_carrier.specs.Sending.{HasDropped, RemarksAll}
use Rattle.tap_carrier.proofs.Remarking.{remarks_all}
use Rattle.tap_carrier.proofs.carrier.Carrier.lose.Goals as goal

pub remark-requires-clause-kind : goal.remark-requires-clause-kind
unfolding is_added
remark-requires-clause-kind c = refl

pub returns : goal.returns
returns c = λ there at.
    let taken = c.take-there.result in
    let same : taken ≡ there = cc (c.take-there.ensures.packet, at) in
    subst (λ (n : Numbered). RemarksAll {A = Unit {0}} (Lost n.number ∷ []) (HasDropped n.number c.args.self.now c.take-there.new.self)
    c.args.world.now c.remark.result c.remark.new.self) same
    (remarks_all (Lost taken.number) c.args.world.now c.remark.new.self c.requires.runs
    (HasDropped taken.number c.args.self.now c.take-there.new.self) c.remark.result c.take-there.ensures.gone c.remark.ensures.remarks)
