use Rattle.std.proofs.Common.{sym, subst, ◌∙◌}
use Rattle.tap_pointer.specs.Reconcile.{AreNamesHeld}
use Rattle.tap_bench.proofs.pairs.change.Goals as goal

pub reconcile-requires-clause-owner : goal.reconcile-requires-clause-owner
reconcile-requires-clause-owner c = c.requires.owner ∙ c.loop-turn.invariant.owner

pub reconcile-requires-clause-names : goal.reconcile-requires-clause-names
reconcile-requires-clause-names c =
    subst (λ s. AreNamesHeld s c.loop-turn.pointers) (sym c.requires.settings) c.loop-turn.invariant.names

pub reconcile-requires-in-loop-turn-clause-owner : goal.reconcile-requires-in-loop-turn-clause-owner
reconcile-requires-in-loop-turn-clause-owner c = sym c.requires.owner ∙ c.in_ok-reconcile.ensures.owner

pub reconcile-requires-in-loop-turn-clause-names : goal.reconcile-requires-in-loop-turn-clause-names
reconcile-requires-in-loop-turn-clause-names c =
    subst (λ s. AreNamesHeld s c.reconcile.new.pointers) c.requires.settings c.in_ok-reconcile.ensures.names
