use Rattle.std.proofs.Common.{sym}
use Rattle.tap_pointer.specs.Pointers.{with_laid}
use Rattle.tap_pointer.proofs.Known.{written_state}
use Rattle.tap_pointer.proofs.change.lay.Goals as goal

pub returns-clause-after : goal.returns-clause-after
returns-clause-after c =
    let after = c.set_laid.new.self in
    written_state c.args.pairs.now.entries c.args.pair.now c.get_mut.ensures.ordered c.in_ok-state.state.now after
    (c.get_mut.follows.lender after).entries (λ s. with_laid s c.args.laid.now) (sym c.in_ok-state.ensures.value)
    (c.get_mut.follows.holds after).0 c.set_laid.ensures.after
