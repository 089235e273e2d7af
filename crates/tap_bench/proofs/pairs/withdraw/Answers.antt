use Rattle.std.proofs.Common.{◌≡◌, ℕ, List, ap, subst, sym, ◌∙◌}
use Rattle.tap_pointer.specs.Pointers.{own_pair, pair_of, withdrawn}
use Rattle.tap_pointer.specs.Reconcile.{AreLaidBut, AreNamesHeld}
use Rattle.tap_pointer.proofs.Laws.{withdrawn_lays_others, withdrawn_owner}
use Rattle.tap_pointer.proofs.NamesHeld.{names-withdrawn}
use Rattle.tap_bench.proofs.pairs.withdraw.Goals as goal

pub settle-requires-clause-names : goal.settle-requires-clause-names
settle-requires-clause-names c =
    let settings = c.args.table.now.settings in
    subst (AreNamesHeld settings) (sym c.withdraw.ensures.after)
    (names-withdrawn settings c.args.pointers.now c.requires.settled.names c.args.object c.requires.name)

pub settle-requires-clause-others : goal.settle-requires-clause-others
settle-requires-clause-others c =
    let t = c.args.table.now in
    let p = c.args.pointers.now in
    let same : (withdrawn p c.args.object).owner ≡ p.owner = withdrawn_owner p c.args.object in
    subst (λ q. AreLaidBut t (own_pair q c.args.object) q) (sym c.withdraw.ensures.after)
    (subst (λ (o : List ℕ). AreLaidBut t (pair_of c.args.object o) (withdrawn p c.args.object)) (sym same)
    (withdrawn_lays_others t c.args.object p c.requires.settled.laid))

pub settle-requires-clause-owner : goal.settle-requires-clause-owner
settle-requires-clause-owner c =
    c.requires.settled.owner ∙ sym (ap (λ p. p.owner) c.withdraw.ensures.after ∙ withdrawn_owner c.args.pointers.now c.args.object)
