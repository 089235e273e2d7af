use Rattle.std.proofs.Common.{List, [], ◌∷◌, ◌++◌, arith, ap, map, refl, subst, sym, ◌∙◌}
use Rattle.tap_wire.specs.declared.frame.Frame.{Frame}
use Rattle.tap_wire.specs.Spelling.{IsFrame, spelling, tell_frame}
use Rattle.tap_multicast.specs.declared.target.Target.{Target}
use Rattle.tap_rule.specs.Sending.{message_frame}
use Rattle.tap_node_common.specs.Spellings.{spelled}
use Rattle.tap_node_common.specs.Targets.{tell_to}
use Rattle.tap_node_common.proofs.OneSent.{here_spelled, one_sent, rest_spelled}
use Rattle.tap_node_common.proofs.frame_list.FrameList.send_tells.Goals as goal

pub push_tell-requires : goal.push_tell-requires
push_tell-requires c =
    let p = c.args.settings.now in
    let from = c.args.from.now in
    let fields = c.args.fields.now in
    let watch = c.args.watch.now in
    let target = c.target-item.result in
    subst (λ told. IsFrame p (tell_frame from target.to told watch)) (sym c.at_level-told.ensures)
    (here_spelled p (λ t. message_frame from (tell_to fields watch t)) (λ ts. map (message_frame from) (map (tell_to fields watch) ts))
    refl (λ x xs. refl) c.as_slice-target-items.result.now c.loop-target.target-index target target (omega arith) c.target-item.is
    c.loop-target.invariant.left)

pub loop-target-preserved : goal.loop-target-preserved
loop-target-preserved c =
    let p = c.args.settings.now in
    let from = c.args.from.now in
    let fields = c.args.fields.now in
    let watch = c.args.watch.now in
    let target = c.target-item.result in
    let targets = c.as_slice-target-items.result.now in
    let i = c.loop-target.target-index in
    let frame : Target → Frame = λ t. message_frame from (tell_to fields watch t) in
    let frames : List Target → List Frame = λ ts. map (message_frame from) (map (tell_to fields watch) ts) in
    let pushed = c.in_ok-push_tell.ensures
    ∙ ap (λ told. c.loop-target.self ++ spelling p (tell_frame from target.to told watch) ∷ []) c.at_level-told.ensures in
    record {
      sent = rw pushed (one_sent p frame frames refl (λ x xs. refl) targets i target target c.loop-target.self
          (c.args.self.now ++ spelled p (frames c.args.targets.now)) (omega arith) c.target-item.is c.loop-target.invariant.sent);
      left = rest_spelled p frame frames refl (λ x xs. refl) targets i target target (omega arith) c.target-item.is
          c.loop-target.invariant.left;
    }
