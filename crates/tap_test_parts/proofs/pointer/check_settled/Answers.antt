use Rattle.tap_test_parts.proofs.pointer.check_settled.Goals as goal

-- all pairs are laid as wanted, so those beside the level are
pub reconcile_at-requires-clause-others : goal.reconcile_at-requires-clause-others
reconcile_at-requires-clause-others g c = λ k d within off. c.reconcile.ensures.laid k d within
