use Rattle.std.proofs.lemmas.Result.{IfOk-weaker}
use Rattle.tap_node_common.specs.declared.news.News.TheVariants.{Nothing}
use Rattle.tap_leaving_node.specs.State.{leaving_state}
use Rattle.tap_leaving_node.proofs.LeavingTakes.{lay_follows}
use Rattle.tap_leaving_node.proofs.leaving_node.LeavingNode.on_lay.Goals as goal

pub returns : goal.returns
returns c =
    IfOk-weaker c.apply_lay.result _ _
    (λ _ steps.
    lay_follows (leaving_state c.args.self.now) tt c.args.frame.now (leaving_state c.apply_lay.new.self) c.args.sent.now
    c.apply_lay.new.sent Nothing c.in-Lay.object c.in-Lay.server c.in-Lay.level c.in-Lay.version c.in-Lay.on c.in-Lay.is steps)
    c.apply_lay.ensures
