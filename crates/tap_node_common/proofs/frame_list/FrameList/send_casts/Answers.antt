use Rattle.std.proofs.Common.{◌≡◌, List, [], ◌∷◌, ◌++◌, arith, ap, map, refl, ◌∙◌}
use Rattle.tap_wire.specs.declared.frame.Frame.{Frame}
use Rattle.tap_wire.specs.declared.frame.Body.TheVariants.{Cast}
use Rattle.tap_wire.specs.Spelling.{spelling}
use Rattle.tap_cast.specs.declared.target.CastTarget.{CastTarget}
use Rattle.tap_rule.specs.Reaction.{message}
use Rattle.tap_rule.specs.Sending.{message_frame}
use Rattle.tap_node_common.specs.Spellings.{spelled}
use Rattle.tap_node_common.specs.Targets.{cast_to}
use Rattle.tap_node_common.proofs.OneSent.{here_spelled, one_sent, rest_spelled}
use Rattle.tap_node_common.proofs.frame_list.FrameList.send_casts.Goals as goal

pub push-requires : goal.push-requires
push-requires c =
    let from = c.args.from.now in
    let fields = c.args.fields in
    let target = c.target-item.result in
    let before = c.loop-target.invariant.body in
    let sender = c.loop-target.invariant.sender in
    let body = c.set_level.ensures fields.cast before.0 fields.session fields.depth fields.word before.1 in
    rw (sender, body)
    (here_spelled c.args.settings.now (λ t. message_frame from (cast_to fields t))
    (λ ts. map (message_frame from) (map (cast_to fields) ts)) refl (λ x xs. refl) c.as_slice-target-items.result.now
    c.loop-target.target-index target target (omega arith) c.target-item.is c.loop-target.invariant.left)

pub loop-target-preserved : goal.loop-target-preserved
loop-target-preserved c =
    let p = c.args.settings.now in
    let from = c.args.from.now in
    let fields = c.args.fields in
    let target = c.target-item.result in
    let targets = c.as_slice-target-items.result.now in
    let i = c.loop-target.target-index in
    let before = c.loop-target.invariant.body in
    let sender = c.loop-target.invariant.sender in
    let body : c.set_level.new.body ≡ Cast fields.cast target.level fields.session fields.depth fields.word =
    c.set_level.ensures fields.cast before.0 fields.session fields.depth fields.word before.1 in
    let frame : CastTarget → Frame = λ t. message_frame from (cast_to fields t) in
    let frames : List CastTarget → List Frame = λ ts. map (message_frame from) (map (cast_to fields) ts) in
    let sent : message_frame c.loop-target.frame.from (message target.to c.set_level.new.body) ≡ frame target =
    rw (sender, body) refl in
    let pushed = c.in_ok-push.ensures ∙ ap (λ f. c.loop-target.self ++ spelling p f ∷ []) sent in
    record {
      sender = sender;
      body = (target.level, body);
      sent = rw pushed (one_sent p frame frames refl (λ x xs. refl) targets i target target c.loop-target.self
          (c.args.self.now ++ spelled p (frames c.args.targets.now)) (omega arith) c.target-item.is c.loop-target.invariant.sent);
      left = rest_spelled p frame frames refl (λ x xs. refl) targets i target target (omega arith) c.target-item.is
          c.loop-target.invariant.left;
    }
