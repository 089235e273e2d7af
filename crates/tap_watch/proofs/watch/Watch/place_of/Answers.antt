use Rattle.std.proofs.Common.{subst}
use Rattle.tap_watch.specs.Watch.{SlotsAscend}
use Rattle.tap_watch.proofs.Order.{absent}
use Rattle.tap_watch.proofs.watch.Watch.place_of.Goals as goal

pub returns-clause-none : goal.returns-clause-none
returns-clause-none c none here =
    let found = rw c.deref.ensures.value at c.binary_search.ensures.position in
    absent c.args.self.now c.args.slot c.binary_search.result (subst SlotsAscend c.self.view_is c.self.invariant)
    (rw (← c.self.view_is) found) (rw (← c.ok.ensures.value) none) here
