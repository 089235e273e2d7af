use Rattle.std.proofs.Common.{ap, sym, subst, ◌∙◌}
use Rattle.tap_pointer.specs.Reconcile.{AreNamesHeld}
use Rattle.tap_pointer.proofs.NamesHeld.{names-reconciled}
use Rattle.tap_bench.proofs.pairs.settle.Goals as goal

pub returns : goal.returns
returns c =
    let t = c.args.table.now in
    let after = c.in-Ok.ensures.after in
    record {
      owner = c.requires.owner ∙ sym (ap (λ p. p.owner) after);
      names = subst (AreNamesHeld t.settings) (sym after) (names-reconciled t.settings c.args.pointers.now c.requires.names t);
      laid = c.in-Ok.ensures.laid;
    }
