use Rattle.std.proofs.Common.{◌≡◌, true, false}
use Rattle.tap_pointer.proofs.pointers.Pointers.reconcile.Goals as goal

-- every pair may be laid elsewhere
pub lays_as_wanted-requires-clause-others : goal.lays_as_wanted-requires-clause-others
lays_as_wanted-requires-clause-others c = λ k d within off. let wrong : true ≡ false = off in absurd (cc)
