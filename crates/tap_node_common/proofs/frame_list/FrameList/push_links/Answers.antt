use Rattle.std.proofs.Common.{[], ◌∷◌, ◌++◌, arith, ap, map, refl, subst, sym, ◌∙◌}
use Rattle.tap_wire.specs.Spelling.{IsFrame, spelling}
use Rattle.tap_rule.specs.Sending.{link_frame}
use Rattle.tap_node_common.specs.Spellings.{spelled}
use Rattle.tap_node_common.proofs.OneSent.{all_sent, here_spelled, one_sent, rest_spelled}
use Rattle.tap_node_common.proofs.frame_list.FrameList.push_links.Goals as goal

pub push-requires : goal.push-requires
push-requires c =
    let p = c.args.settings.now in
    let from = c.args.from.now in
    let word = c.word-item.result in
    subst (IsFrame p) (sym c.link_frame.ensures)
    (here_spelled p (link_frame from) (map (link_frame from)) refl (λ x xs. refl) c.args.words.now c.loop-word.word-index word word
    (omega arith) c.word-item.is c.loop-word.invariant.left)

pub loop-word-preserved : goal.loop-word-preserved
loop-word-preserved c =
    let p = c.args.settings.now in
    let from = c.args.from.now in
    let word = c.word-item.result in
    let words = c.args.words.now in
    let i = c.loop-word.word-index in
    let pushed = c.in_ok-push.ensures ∙ ap (λ frame. c.loop-word.self ++ spelling p frame ∷ []) c.link_frame.ensures in
    record {
      sent = rw pushed (one_sent p (link_frame from) (map (link_frame from)) refl (λ x xs. refl) words i word word c.loop-word.self
          (c.args.self.now ++ spelled p (map (link_frame from) words)) (omega arith) c.word-item.is c.loop-word.invariant.sent);
      left = rest_spelled p (link_frame from) (map (link_frame from)) refl (λ x xs. refl) words i word word (omega arith) c.word-item.is
          c.loop-word.invariant.left;
    }

pub returns : goal.returns
returns c =
    let p = c.args.settings.now in
    let from = c.args.from.now in
    let words = c.args.words.now in
    all_sent p (link_frame from) (map (link_frame from)) refl (λ x xs. refl) words c.loop-word.word-index c.loop-word.self
    (c.args.self.now ++ spelled p (map (link_frame from) words)) (omega arith) c.loop-word.invariant.sent
