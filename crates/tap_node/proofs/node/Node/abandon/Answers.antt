use Rattle.std.proofs.Common.{◌∙◌, Ok, refl, sym}
use Rattle.tap_rule.specs.Event.Start.{Abandon}
use Rattle.tap_node.proofs.StartBegun.{begun_answers, begun_keeps}
use Rattle.tap_node.proofs.node.Node.abandon.Goals as goal

pub invariant_of-self : goal.invariant_of-self
invariant_of-self c =
    begun_keeps _ _ _ c.self.invariant _ c.self.view_is (sym c.is_ended.ensures ∙ c.if-is_ended.false) _
    c.sender-sender.ensures.value Abandon (λ _. tt) _ c.new-sent.ensures _ _ c.new-sent.result (Ok c.abandon-news.result)
    (c.abandon-news.ensures c.new-sent.result) _
    (record { made = refl; same = refl; refused = tt; ends = tt })

pub returns-clause-outcome : goal.returns-clause-outcome
returns-clause-outcome c =
    begun_answers _ _ _ c.self.invariant _ c.self.view_is (sym c.is_ended.ensures ∙ c.if-is_ended.false) _
    c.sender-sender.ensures.value Abandon (λ _. tt) _ c.new-sent.ensures _ _ c.new-sent.result (Ok c.abandon-news.result)
    (c.abandon-news.ensures c.new-sent.result) _
    (record { made = refl; same = refl; refused = tt; ends = tt })
