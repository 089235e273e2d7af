use Rattle.std.proofs.Common.{sym, subst}
use Rattle.tap_register.specs.Stamp.{HasGivenAtMost}
use Rattle.tap_pointer.specs.Reconcile.{layings_to_none}
use Rattle.tap_pointer.proofs.Layings.{length-lays_numbered}
use Rattle.tap_pointer.proofs.pointers.Pointers.clear.Goals as goal

pub returns-in_err-lays-clause-given : goal.returns-in_err-lays-clause-given
returns-in_err-lays-clause-given c =
    let due = length-lays_numbered c.args.stamp.now (layings_to_none c.self.inside.pairs.entries) in
    rw (← c.self.view_is)
    (subst (λ n. HasGivenAtMost n c.args.stamp.now c.lays_to_none.new.stamp) (sym due) c.lays_to_none.ensures.given)
