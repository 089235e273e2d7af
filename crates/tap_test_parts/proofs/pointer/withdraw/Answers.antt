use Rattle.std.proofs.Common.{◌≡◌, List, ℕ, ap, subst, sym, ◌∙◌}
use Rattle.tap_pointer.specs.Pointers.{own_pair, pair_of}
use Rattle.tap_pointer.specs.Reconcile.{AreLaidBut, AreNamesHeld}
use Rattle.tap_pointer.proofs.Laws.{withdrawn_lays_others, withdrawn_owner}
use Rattle.tap_pointer.proofs.NamesHeld.{names-withdrawn}
use Rattle.tap_test_parts.proofs.pointer.withdraw.Goals as goal

pub settle-requires-clause-names : goal.settle-requires-clause-names
settle-requires-clause-names g c =
    let settings = c.args.table.now.settings in
    subst (AreNamesHeld settings) (sym c.withdraw.ensures.after)
    (names-withdrawn settings c.args.pointers.now c.requires.names c.name_of-object.result (rw c.settings.ensures.value at c.name_of-object.ensures))

pub settle-requires-clause-others : goal.settle-requires-clause-others
settle-requires-clause-others g c =
    let t = c.args.table.now in
    let p = c.args.pointers.now in
    let object = c.name_of-object.result in
    let after = c.withdraw.ensures.after in
    let server : c.owner-server.result ≡ p.owner =
    c.owner-server.ensures.value ∙ ap (λ v. v.owner) after ∙ withdrawn_owner p object in
    let others = subst (AreLaidBut t (own_pair p object)) (sym after) (withdrawn_lays_others t object p c.requires.laid) in
    subst (λ (s : List ℕ). AreLaidBut t (pair_of object s) c.withdraw.new.self) (sym server) others

pub settle-requires-clause-owner : goal.settle-requires-clause-owner
settle-requires-clause-owner g c =
    c.requires.owner ∙ sym (ap (λ p. p.owner) c.withdraw.ensures.after ∙ withdrawn_owner c.args.pointers.now c.name_of-object.result)
