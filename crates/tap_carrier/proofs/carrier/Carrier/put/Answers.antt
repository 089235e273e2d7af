use Rattle.std.proofs.Common.{◌≡◌, [], ◌∷◌, ℕ, ap, refl, subst, ◌∙◌}
use Rattle.tap_log.specs.declared.record.Record.TheVariants.{Packet as PacketRecord}
use Rattle.tap_log.specs.Reduced.{is_added}
use Rattle.tap_carrier.specs.Carrier.{CarrierValue}
use Rattle.tap_carrier.specs.Sending.{HasPut, RemarksAll}
use Rattle.tap_carrier.proofs.Putting.{put_alone, put_counted}
use Rattle.tap_carrier.proofs.Remarking.{remarks_all}
use Rattle.tap_carrier.proofs.carrier.Carrier.put.Goals as goal
use Rattle.tap_carrier.proofs.carrier.Carrier.put.Goals.{then-self, else-self}

pub remark-requires-clause-kind : goal.remark-requires-clause-kind
unfolding is_added
remark-requires-clause-kind c = refl

pub returns : goal.returns
returns c =
    let now = c.args.self.now in
    let packet = c.args.packet in
    let inside = c.self.inside in
    let boxes = c.put.new.self in
    let new = c.if-self.self in
    let put : HasPut packet now new =
    elim c.if-self.branch [
      | then-self w ↦
          put_counted inside.boxes boxes inside.resending inside.resent now new packet c.self.view_is c.in-Ok.ensures.after w.if-self.true
          w.self-is
      | else-self w ↦
          put_alone inside.boxes boxes inside.resending inside.resent now new packet c.self.view_is c.in-Ok.ensures.after w.if-self.false
          w.self-is
    ] in
    let made : c.in-Ok.number ≡ now.boxes.net.made =
    c.in-Ok.ensures.number ∙ ap (λ (v : CarrierValue). v.boxes.net.made) c.self.view_is in
    subst (λ (n : ℕ). RemarksAll {A = Unit {0}} (PacketRecord n packet.frame packet.ack ∷ []) (HasPut packet now new) c.args.world.now
    c.remark.result c.remark.new.self) made
    (remarks_all (PacketRecord c.in-Ok.number packet.frame packet.ack) c.args.world.now c.remark.new.self c.requires.runs
    (HasPut packet now new) c.remark.result put c.remark.ensures.remarks)
