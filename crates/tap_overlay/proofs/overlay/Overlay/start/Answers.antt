use Rattle.tap_overlay.proofs.Stepped.{may_start, steps_named}
use Rattle.tap_overlay.proofs.overlay.Overlay.start.Goals as goal

pub start_at-requires : goal.start_at-requires
start_at-requires c = λ node there.
    let may = rw (← c.self.view_is) at c.requires in
    may_start _ c.self.inside.settings c.args.start.now node (c.self.invariant.own c.args.name.now node there).settings_are
    (may node there)

pub invariant_of-self : goal.invariant_of-self
invariant_of-self c = steps_named c.self.inside.settings _ _ _ c.args.name.now c.start_at.result c.self.invariant c.start_at.ensures
