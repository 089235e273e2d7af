use Rattle.std.proofs.Common.{[], ◌∷◌, ◌++◌, arith, ap, map, refl, subst, sym, ◌∙◌}
use Rattle.tap_wire.specs.Spelling.{IsFrame, spelling}
use Rattle.tap_rule.specs.Sending.{lay_frame}
use Rattle.tap_node_common.specs.Spellings.{spelled}
use Rattle.tap_node_common.proofs.OneSent.{here_spelled, one_sent, rest_spelled}
use Rattle.tap_node_common.proofs.frame_list.FrameList.send_lays.Goals as goal

pub push-requires : goal.push-requires
push-requires c =
    let p = c.args.settings.now in
    let from = c.args.from.now in
    let lay = c.lay-item.result in
    subst (IsFrame p) (sym c.lay_frame.ensures)
    (here_spelled p (lay_frame from) (map (lay_frame from)) refl (λ x xs. refl) c.as_slice-lay-items.result.now c.loop-lay.lay-index lay
    lay (omega arith) c.lay-item.is c.loop-lay.invariant.left)

pub loop-lay-preserved : goal.loop-lay-preserved
loop-lay-preserved c =
    let p = c.args.settings.now in
    let from = c.args.from.now in
    let lay = c.lay-item.result in
    let lays = c.as_slice-lay-items.result.now in
    let i = c.loop-lay.lay-index in
    let pushed = c.in_ok-push.ensures ∙ ap (λ frame. c.loop-lay.self ++ spelling p frame ∷ []) c.lay_frame.ensures in
    record {
      sent = rw pushed (one_sent p (lay_frame from) (map (lay_frame from)) refl (λ x xs. refl) lays i lay lay c.loop-lay.self
          (c.args.self.now ++ spelled p (map (lay_frame from) c.args.lays.now)) (omega arith) c.lay-item.is c.loop-lay.invariant.sent);
      left = rest_spelled p (lay_frame from) (map (lay_frame from)) refl (λ x xs. refl) lays i lay lay (omega arith) c.lay-item.is
          c.loop-lay.invariant.left;
    }
