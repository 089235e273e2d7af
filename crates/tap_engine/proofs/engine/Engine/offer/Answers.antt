use Rattle.std.proofs.Common.{◌≡◌, Ok, Err, ap, sym, ◌∙◌}
use Rattle.tap_wire.specs.Reading.{frame_of}
use Rattle.tap_overlay.specs.declared.fault.OverlayFault.TheVariants.{Node}
use Rattle.tap_node.specs.declared.fault.NodeFault.TheVariants.{Wire}
use Rattle.tap_engine.proofs.Damaging.{offered, refused_for}
use Rattle.tap_engine.proofs.engine.Engine.offer.Goals as goal

pub unreachable-requires : goal.unreachable-requires
unreachable-requires c =
    let m = c.args.self.now in
    let no = refused_for (frame_of m.settings c.args.bytes.now) c.requires.unread in
    let is = offered m c.take.new.self c.requires.ready c.args.name.now c.args.bytes.now c.take.result c.take.ensures.step
    c.take.ensures.settings c.take.ensures.memory no.fault no.is c.requires.there in
    let never : Ok c.in-Ok.field-0 ≡ Err (Node (Wire no.fault)) = sym c.in-Ok.is ∙ is.gives in
    cc

pub wire_fault-requires : goal.wire_fault-requires
wire_fault-requires c =
    let m = c.args.self.now in
    let no = refused_for (frame_of m.settings c.args.bytes.now) c.requires.unread in
    let is = offered m c.take.new.self c.requires.ready c.args.name.now c.args.bytes.now c.take.result c.take.ensures.step
    c.take.ensures.settings c.take.ensures.memory no.fault no.is c.requires.there in
    let both : Err c.in-Err.fault ≡ Err (Node (Wire no.fault)) = sym c.in-Err.is ∙ is.gives in
    record { fault = no.fault; is = cc }

pub returns : goal.returns
returns c =
    let m = c.args.self.now in
    let no = refused_for (frame_of m.settings c.args.bytes.now) c.requires.unread in
    let is = offered m c.take.new.self c.requires.ready c.args.name.now c.args.bytes.now c.take.result c.take.ensures.step
    c.take.ensures.settings c.take.ensures.memory no.fault no.is c.requires.there in
    let both : Err (Node (Wire c.wire_fault.result)) ≡ Err (Node (Wire no.fault)) =
    ap (λ f. Err f) (sym c.wire_fault.ensures) ∙ sym c.in-Err.is ∙ is.gives in
    let same : no.fault ≡ c.wire_fault.result = cc in
    record { fault = no.is ∙ ap (λ f. Err f) same; same = ap (λ o. record m { overlay = o }) is.same }
