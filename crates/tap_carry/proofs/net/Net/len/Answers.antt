use Rattle.tap_carry.proofs.Kept.{under_way}
use Rattle.tap_carry.proofs.net.Net.len.Goals as goal

pub returns-clause-under_way : goal.returns-clause-under_way
returns-clause-under_way c = rw (← c.self.view_is) (under_way c.self.inside.ended c.self.inside.packets c.self.inside.places c.len.ensures.outstanding)
