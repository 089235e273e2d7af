use Rattle.std.proofs.Common.{◌∙◌}
use Rattle.tap_overlay.proofs.Found.{found_same}
use Rattle.tap_overlay.proofs.Stepped.{lent_named}
use Rattle.tap_overlay.proofs.overlay.Overlay.node.Goals as goal

pub returns-clause-value : goal.returns-clause-value
returns-clause-value c =
    rw (← c.self.view_is) (c.get.ensures.value ∙ found_same c.self.inside.nodes.entries c.args.name.now)

pub returns-clause-own : goal.returns-clause-own
returns-clause-own c =
    rw (← c.self.view_is)
    (lent_named c.self.inside.settings c.self.inside.nodes.entries c.args.name.now c.get.result c.self.invariant c.get.ensures.value)
