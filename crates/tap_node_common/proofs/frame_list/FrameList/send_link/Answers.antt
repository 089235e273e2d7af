use Rattle.std.proofs.Common.{◌≡◌, [], ◌∷◌, ◌++◌, map, OnOk, ap, subst, sym, ◌∙◌}
use Rattle.std.proofs.lemmas.List.{append-nil}
use Rattle.std.proofs.lemmas.List.Elements.{All-head, All-same}
use Rattle.tap_wire.specs.Spelling.{IsFrame, spelling}
use Rattle.tap_join.specs.Hello.{words_of}
use Rattle.tap_rule.specs.Sending.{by_receiver, link_frame}
use Rattle.tap_node_common.specs.Spellings.{spelled}
use Rattle.tap_node_common.proofs.ByReceiver.{links_of_none, links_of_one}
use Rattle.tap_node_common.proofs.frame_list.FrameList.send_link.Goals as goal

pub push-requires : goal.push-requires
push-requires c =
    let p = c.args.settings.now in
    let from = c.args.from.now in
    let one = c.in-Some.word in
    let links = links_of_one from c.args.word one c.in-Some.is in
    subst (IsFrame p) (sym c.link_frame.ensures)
    (All-head (IsFrame p) (link_frame from one) [] (All-same (IsFrame p) (link_frame from one ∷ [])
    (map (link_frame from) (by_receiver (words_of c.args.word))) (sym links) c.requires))

pub returns-in-None : goal.returns-in-None
returns-in-None c =
    let list = c.args.self.now in
    sym (append-nil list)
    ∙ ap (λ frames. list ++ spelled c.args.settings.now frames) (sym (links_of_none c.args.from.now c.args.word c.in-None.is))

pub returns-in-Some : goal.returns-in-Some
returns-in-Some c =
    let p = c.args.settings.now in
    let from = c.args.from.now in
    let links = links_of_one from c.args.word c.in-Some.word c.in-Some.is in
    let same : spelling p c.link_frame.result ∷ [] ≡ spelled p (map (link_frame from) (by_receiver (words_of c.args.word))) =
    ap (λ frame. spelling p frame ∷ []) c.link_frame.ensures ∙ ap (spelled p) (sym links) in
    subst (λ added. OnOk c.push.result (c.push.new.self ≡ c.args.self.now ++ added)) same c.push.ensures
