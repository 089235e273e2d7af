use Rattle.tap_overlay.proofs.Stepped.{steps_named}
use Rattle.tap_overlay.proofs.overlay.Overlay.take.Goals as goal

pub invariant_of-self : goal.invariant_of-self
invariant_of-self c = steps_named c.self.inside.settings _ _ _ c.args.name.now c.take_at.result c.self.invariant c.take_at.ensures.step

pub returns-clause-memory : goal.returns-clause-memory
returns-clause-memory c = rw (← c.self.view_is) c.take_at.ensures.memory
