use Rattle.tap_bounds.proofs.Publications.{publication_sends_few}
use Rattle.tap_bounds.proofs.law.publication_frames_law.Goals as goal

pub returns : goal.returns
returns c = publication_sends_few
