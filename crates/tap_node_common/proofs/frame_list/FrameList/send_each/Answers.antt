use Rattle.std.proofs.Common.{◌≡◌, ℕ, List, [], ◌∷◌, ◌++◌, arith, ap, map, refl, ◌∙◌}
use Rattle.tap_wire.specs.declared.frame.Frame.{Frame}
use Rattle.tap_wire.specs.Spelling.{spelling}
use Rattle.tap_rule.specs.Reaction.{message, to_each}
use Rattle.tap_rule.specs.Sending.{message_frame}
use Rattle.tap_node_common.specs.Spellings.{spelled}
use Rattle.tap_node_common.proofs.OneSent.{here_spelled, one_sent, rest_spelled}
use Rattle.tap_node_common.proofs.frame_list.FrameList.send_each.Goals as goal

pub push-requires : goal.push-requires
push-requires c =
    let from = c.args.from.now in
    let body = c.args.body in
    let name = c.name-item.result in
    let sender = c.loop-name.invariant.sender in
    let same = c.loop-name.invariant.body in
    rw (sender, same)
    (here_spelled c.args.settings.now (λ n. message_frame from (message n body)) (λ names. map (message_frame from) (to_each body names))
    refl (λ x xs. refl) c.as_slice-name-items.result.now c.loop-name.name-index name name (omega arith) c.name-item.is
    c.loop-name.invariant.left)

pub loop-name-preserved : goal.loop-name-preserved
loop-name-preserved c =
    let p = c.args.settings.now in
    let from = c.args.from.now in
    let body = c.args.body in
    let name = c.name-item.result in
    let names = c.as_slice-name-items.result.now in
    let i = c.loop-name.name-index in
    let sender = c.loop-name.invariant.sender in
    let same = c.loop-name.invariant.body in
    let frame : List ℕ → Frame = λ n. message_frame from (message n body) in
    let frames : List (List ℕ) → List Frame = λ ns. map (message_frame from) (to_each body ns) in
    let sent : message_frame c.loop-name.frame.from (message name c.loop-name.frame.body) ≡ frame name = rw (sender, same) refl in
    let pushed = c.in_ok-push.ensures ∙ ap (λ f. c.loop-name.self ++ spelling p f ∷ []) sent in
    record {
      sender = sender;
      body = same;
      sent = rw pushed (one_sent p frame frames refl (λ x xs. refl) names i name name c.loop-name.self
          (c.args.self.now ++ spelled p (frames c.args.names.now)) (omega arith) c.name-item.is c.loop-name.invariant.sent);
      left = rest_spelled p frame frames refl (λ x xs. refl) names i name name (omega arith) c.name-item.is
          c.loop-name.invariant.left;
    }
