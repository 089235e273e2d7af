use Rattle.std.proofs.Common.{◌∙◌, sym}
use Rattle.tap_rule.specs.Event.Start.{Find}
use Rattle.tap_node.proofs.StartBegun.{begun_answers, begun_keeps}
use Rattle.tap_node.proofs.node.Node.find.Goals as goal

pub invariant_of-self : goal.invariant_of-self
invariant_of-self c =
    let turned = c.turned.ensures in
    begun_keeps _ _ _ c.self.invariant _ c.self.view_is (sym c.is_ended.ensures ∙ c.if-is_ended.false) _
    c.sender-sender.ensures.value (Find c.args.ticket c.args.object) (λ _. tt) _ c.new-sent.ensures _ _ _ _ c.find-news.ensures _
    (record { made = turned.made; same = turned.same; refused = turned.refused; ends = turned.ends })

pub returns : goal.returns
returns c =
    let turned = c.turned.ensures in
    begun_answers _ _ _ c.self.invariant _ c.self.view_is (sym c.is_ended.ensures ∙ c.if-is_ended.false) _
    c.sender-sender.ensures.value (Find c.args.ticket c.args.object) (λ _. tt) _ c.new-sent.ensures _ _ _ _ c.find-news.ensures _
    (record { made = turned.made; same = turned.same; refused = turned.refused; ends = turned.ends })
