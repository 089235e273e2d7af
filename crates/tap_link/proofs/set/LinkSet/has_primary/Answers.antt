use Rattle.tap_link.proofs.Least.{some_counted}
use Rattle.tap_link.proofs.set.LinkSet.has_primary.Goals as goal

pub returns : goal.returns
returns g c = rw (← c.self.view_is) (some_counted c.self.inside.places c.self.inside.settled c.self.invariant.count)
