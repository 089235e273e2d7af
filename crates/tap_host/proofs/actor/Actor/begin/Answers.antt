use Rattle.std.proofs.Common.{◌≡◌, true, subst, sym}
use Rattle.tap_node.specs.Node.{node_status}
use Rattle.tap_node.specs.Outcome.{start_outcome}
use Rattle.tap_host.specs.Actor.{ActorValue, IsKept, has_start, is_new, start_of}
use Rattle.tap_host.proofs.Kept.{kept_after, runs_if, start_met, unmet_if}
use Rattle.tap_host.proofs.actor.Actor.begin.Goals as goal

pub begin-begun-requires-clause-unmet : goal.begin-begun-requires-clause-unmet
begin-begun-requires-clause-unmet c =
    let there : has_start (node_status c.self.inside.node) c.args.start.now ≡ true =
    subst (λ (a : ActorValue). has_start (node_status a.node) c.args.start.now ≡ true) (sym c.self.view_is) c.requires.there in
    let new : is_new c.self.inside.casts_below c.args.start.now ≡ true =
    subst (λ (a : ActorValue). is_new a.casts_below c.args.start.now ≡ true) (sym c.self.view_is) c.requires.new in
    unmet_if c.self.inside.casts_below c.self.inside.node.state.casts
    (c.self.invariant.met (runs_if c.self.inside.node c.args.start.now there)) c.args.start.now new

pub invariant_of-self : goal.invariant_of-self
invariant_of-self c =
    subst (IsKept c.self.inside.settings c.begin-begun.new.node) (sym c.below_after-self-inside.ensures)
    (kept_after c.self.inside.settings c.self.inside.node c.begin-begun.new.node c.self.inside.casts_below
    (start_outcome c.self.inside.node (start_of c.args.start.now)) c.begin-begun.result c.self.invariant
    (start_met c.self.inside.node c.self.inside.casts_below c.self.invariant.met (start_of c.args.start.now)) c.begin-begun.ensures)
