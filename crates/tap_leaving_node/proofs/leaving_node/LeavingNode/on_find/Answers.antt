use Rattle.std.proofs.lemmas.Result.{IfOk-weaker}
use Rattle.tap_node_common.specs.declared.news.News.TheVariants.{Nothing}
use Rattle.tap_leaving_node.specs.State.{leaving_state}
use Rattle.tap_leaving_node.proofs.LeavingTakes.{find_follows}
use Rattle.tap_leaving_node.proofs.leaving_node.LeavingNode.on_find.Goals as goal

pub returns : goal.returns
returns c =
    IfOk-weaker c.route_find.result _ _
    (λ _ steps.
    find_follows (leaving_state c.args.self.now) tt c.args.frame.now (leaving_state c.args.self.now) c.args.sent.now c.route_find.new.sent Nothing
    c.requires.may.sound.laid c.in-Find.ticket c.in-Find.object c.in-Find.asker c.in-Find.level c.in-Find.is steps)
    c.route_find.ensures
