use Rattle.std.proofs.Common.{◌≡◌, true, None, Some, Result, Ok, Err, IsErr, is_some, ap, sym, subst, ◌∙◌}
use Rattle.tap_wire.specs.Reading.{frame_of, head_of_frame}
use Rattle.tap_wire.specs.declared.fault.HeadFault.{HeadFault}
use Rattle.tap_wire.specs.declared.frame.Head.{Head}
use Rattle.tap_overlay.specs.Overlay.{node_at}
use Rattle.tap_engine.proofs.Damaging.{copied_within, copy_told, copy_unread}
use Rattle.tap_engine.proofs.Taking.{outstanding_at, read_at, receiver_there}
use Rattle.tap_engine.proofs.engine.Engine.garbled.Goals as goal

pub unreachable-requires : goal.unreachable-requires
unreachable-requires c =
    let m = c.args.self.now in
    let place = c.damage_of-place.result.0 in
    let o = outstanding_at m c.requires.ready place
    (copied_within m c.requires.ready c.args.step.now c.damage_of-place.result c.damage_of-place.ensures c.requires.accepted) in
    let never : None ≡ Some o.number = c.in_default.ensures.number ∙ o.at in
    cc

pub unreachable-requires-in_default-decode_head : goal.unreachable-requires-in_default-decode_head
unreachable-requires-in_default-decode_head c =
    let m = c.args.self.now in
    let place = c.damage_of-place.result.0 in
    let o = outstanding_at m c.requires.ready place
    (copied_within m c.requires.ready c.args.step.now c.damage_of-place.result c.damage_of-place.ensures c.requires.accepted) in
    let read = read_at m.settings m.ledger.records place o c.in-Some.flight.bytes.now c.in-Some.ensures.bytes in
    let never : Err c.in_default-decode_head.field-0 ≡ Ok (head_of_frame o.frame) = c.in_default-decode_head.ensures.whole o.frame read.1 in
    cc

pub offer-fault-requires-clause-there : goal.offer-fault-requires-clause-there
offer-fault-requires-clause-there c =
    let m = c.args.self.now in
    let place = c.damage_of-place.result.0 in
    let o = outstanding_at m c.requires.ready place
    (copied_within m c.requires.ready c.args.step.now c.damage_of-place.result c.damage_of-place.ensures c.requires.accepted) in
    let read = read_at m.settings m.ledger.records place o c.in-Some.flight.bytes.now c.in-Some.ensures.bytes in
    let told : ◌≡◌ {A = Result Head HeadFault} (Ok c.in-Ok.head) (Ok (head_of_frame o.frame)) = c.in-Ok.ensures.whole o.frame read.1 in
    let both : c.in-Ok.head ≡ head_of_frame o.frame = cc in
    subst (λ n. is_some (node_at m.overlay n) ≡ true) (sym (ap (λ h. h.to) both)) (receiver_there m c.requires.ready place o)

pub offer-fault-requires-clause-unread : goal.offer-fault-requires-clause-unread
offer-fault-requires-clause-unread c =
    let m = c.args.self.now in
    let is = c.as_slice.ensures.value ∙ c.in_ok-copy.ensures in
    subst (λ l. IsErr (frame_of m.settings l)) (sym is)
    (copy_unread m c.requires.ready c.args.step.now c.damage_of-place.result c.damage_of-place.ensures c.in-Some.flight.bytes.now
    (sym c.in-Some.ensures.bytes) c.requires.accepted)

pub returns-clause-garbled : goal.returns-clause-garbled
returns-clause-garbled c =
    let m = c.args.self.now in
    let is = c.as_slice.ensures.value ∙ c.in_ok-copy.ensures in
    copy_told m c.requires.ready c.args.step.now c.damage_of-place.result c.damage_of-place.ensures c.in-Some.flight.bytes.now
    (sym c.in-Some.ensures.bytes) c.in-Some.flight.number c.offer-fault.result (sym c.in-Some.ensures.number)
    (ap (frame_of m.settings) (sym is) ∙ c.offer-fault.ensures.fault)
