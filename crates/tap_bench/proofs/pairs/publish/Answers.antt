use Rattle.std.proofs.Common.{subst, sym}
use Rattle.tap_pointer.specs.Pointers.{own_pair}
use Rattle.tap_pointer.specs.Reconcile.{AreLaidBut, AreNamesHeld}
use Rattle.tap_pointer.proofs.Laws.{published_lays_others}
use Rattle.tap_pointer.proofs.NamesHeld.{names-published}
use Rattle.tap_bench.proofs.pairs.publish.Goals as goal

pub settle-requires-clause-names : goal.settle-requires-clause-names
settle-requires-clause-names c =
    let settings = c.args.table.now.settings in
    subst (AreNamesHeld settings) (sym c.in-Ok.ensures.after)
    (names-published settings c.args.pointers.now c.requires.settled.names c.args.object c.requires.name)

pub settle-requires-clause-others : goal.settle-requires-clause-others
settle-requires-clause-others c =
    let t = c.args.table.now in
    let p = c.args.pointers.now in
    subst (λ q. AreLaidBut t (own_pair q c.args.object) q) (sym c.in-Ok.ensures.after)
    (published_lays_others t c.args.object p c.requires.settled.laid)
