use Rattle.std.proofs.Common.{true, sym}
use Rattle.tap_pointer.specs.Pointers.{with_published}
use Rattle.tap_pointer.proofs.Known.{written_state}
use Rattle.tap_pointer.proofs.change.publish.Goals as goal

pub returns-in-Some-clause-after : goal.returns-in-Some-clause-after
returns-in-Some-clause-after c =
    let after = c.set_published.new.self in
    written_state c.args.pairs.now.entries c.args.own c.get_mut.ensures.ordered c.in-Some.state.now after
    (c.get_mut.follows.lender after).entries (λ s. with_published s true) (sym c.in-Some.ensures.value)
    (c.get_mut.follows.holds after).0 c.set_published.ensures.after
