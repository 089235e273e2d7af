use Rattle.std.proofs.Common.{refl, sym, ap, ◌∙◌}
use Rattle.tap_table.specs.Ties.{TiesValue}
use Rattle.tap_leaving_node.specs.State.{leaving_state}
use Rattle.tap_leaving_node.proofs.leaving_node.LeavingNode.route_find.Goals as goal

pub returns : goal.returns
returns c =
    c.in_ok-take_find.ensures (leaving_state c.args.self.now)
    (ap (λ (t : TiesValue). t.table) (sym c.ties.ensures) ∙ sym c.table.ensures.value) refl
