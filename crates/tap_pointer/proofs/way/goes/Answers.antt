use Rattle.std.proofs.Common.{subst}
use Rattle.std.specs.Option.{IfSome}
use Rattle.tap_pointer.specs.Reconcile.{TurnsTo}
use Rattle.tap_pointer.proofs.way.goes.Goals as goal

pub returns-in-Some : goal.returns-in-Some
returns-in-Some c = λ t is same.
    let hop = c.args.way.now.hop in
    c.turns_at.ensures t hop (subst (λ turn. IfSome turn (TurnsTo t hop)) c.in-Some.is is) same
