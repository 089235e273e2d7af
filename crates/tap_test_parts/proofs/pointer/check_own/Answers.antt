use Rattle.tap_test_parts.proofs.pointer.check_own.Goals as goal

-- all pairs are laid as wanted, so all but one are
pub settle-lays-requires-clause-others : goal.settle-lays-requires-clause-others
settle-lays-requires-clause-others g c = λ k d within other. c.requires.laid k d within
