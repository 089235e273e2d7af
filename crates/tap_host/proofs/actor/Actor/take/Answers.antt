use Rattle.std.proofs.Common.{subst, sym}
use Rattle.tap_node.specs.Outcome.{take_outcome}
use Rattle.tap_host.specs.Actor.{IsKept}
use Rattle.tap_host.proofs.Kept.{kept_after, take_met}
use Rattle.tap_host.proofs.actor.Actor.take.Goals as goal

pub invariant_of-self : goal.invariant_of-self
invariant_of-self c =
    subst (IsKept c.self.inside.settings c.take-taken.new.self) (sym c.below_after-self-inside.ensures)
    (kept_after c.self.inside.settings c.self.inside.node c.take-taken.new.self c.self.inside.casts_below
    (take_outcome c.self.inside.node c.args.bytes.now) c.take-taken.result c.self.invariant
    (take_met c.self.inside.node c.self.inside.casts_below c.self.invariant.met c.args.bytes.now) c.take-taken.ensures.outcome)
