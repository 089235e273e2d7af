use Rattle.std.proofs.Common.{◌*◌, ◌^◌}
use native.Mathlib.Nat.{mod-add-mod}
use Rattle.tap_make.specs.Mixer.{mixed}
use Rattle.tap_make.proofs.mixer.Mixer.next.Goals as goal

pub returns-clause-state : goal.returns-clause-state
unfolding mixed
returns-clause-state c = rw (← c.self.view_is) (mod-add-mod (c.self.inside.state * 6364136223846793005) (2 ^ 64) 1442695040888963407)
