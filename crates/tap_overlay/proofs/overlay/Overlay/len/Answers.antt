use Rattle.std.specs.Map.{keys_of}
use Rattle.tap_overlay.proofs.Found.{strictly}
use Rattle.tap_overlay.proofs.overlay.Overlay.len.Goals as goal

pub returns-clause-ascending : goal.returns-clause-ascending
returns-clause-ascending c =
    rw (← c.self.view_is) (strictly (keys_of c.self.inside.nodes.entries) c.self.invariant.ascending c.len.ensures.unique)
