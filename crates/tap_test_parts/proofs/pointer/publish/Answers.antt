use Rattle.std.proofs.Common.{◌≡◌, List, ℕ, ap, subst, sym, ◌∙◌}
use Rattle.tap_pointer.specs.Pointers.{own_pair, pair_of, published}
use Rattle.tap_pointer.specs.Reconcile.{AreLaidBut, AreNamesHeld}
use Rattle.tap_pointer.proofs.Laws.{published_lays_others}
use Rattle.tap_pointer.proofs.NamesHeld.{names-published}
use Rattle.tap_test_parts.proofs.pointer.publish.Goals as goal

pub settle-requires-clause-names : goal.settle-requires-clause-names
settle-requires-clause-names g c =
    let settings = c.args.table.now.settings in
    let after : c.publish.new.self ≡ published c.args.pointers.now c.name_of-object.result = rw c.expect.ensures at c.publish.ensures.after in
    subst (AreNamesHeld settings) (sym after)
    (names-published settings c.args.pointers.now c.requires.names c.name_of-object.result (rw c.settings.ensures.value at c.name_of-object.ensures))

pub settle-requires-clause-others : goal.settle-requires-clause-others
settle-requires-clause-others g c =
    let t = c.args.table.now in
    let p = c.args.pointers.now in
    let object = c.name_of-object.result in
    let after : c.publish.new.self ≡ published p object = rw c.expect.ensures at c.publish.ensures.after in
    let server : c.owner-server.result ≡ p.owner = c.owner-server.ensures.value ∙ ap (λ v. v.owner) after in
    let others = subst (AreLaidBut t (own_pair p object)) (sym after) (published_lays_others t object p c.requires.laid) in
    subst (λ (s : List ℕ). AreLaidBut t (pair_of object s) c.publish.new.self) (sym server) others
