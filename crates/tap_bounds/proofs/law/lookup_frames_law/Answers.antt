use Rattle.tap_bounds.proofs.Lookups.{lookup_sends_few}
use Rattle.tap_bounds.proofs.law.lookup_frames_law.Goals as goal

pub returns : goal.returns
returns c = lookup_sends_few
