use Rattle.tap_moves.proofs.LinkMade.{link_is_made}
use Rattle.tap_moves.proofs.law.link_moves.Goals as goal

pub returns : goal.returns
returns c = link_is_made
