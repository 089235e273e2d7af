use Rattle.std.proofs.Common.{◌≡◌}
use Rattle.tap_test_parts.proofs.surrogate.overlay_of.Given as goal

abbrev pub invariant-loop-ties : goal.invariant-loop-ties
invariant-loop-ties g l = l.overlay.settings ≡ l.fn.settings
