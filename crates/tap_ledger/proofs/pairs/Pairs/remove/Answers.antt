use Rattle.std.proofs.Common.{◌∙◌, ap, not}
use Rattle.std.specs.Prelude.{◌&&◌}
use Rattle.tap_history.specs.Published.{same_pair}
use Rattle.tap_ledger.specs.Pairs.{PairsValue, has_key}
use Rattle.tap_ledger.proofs.Keys.{goes}
use Rattle.tap_ledger.proofs.pairs.Pairs.remove.Goals as goal

pub returns-clause-pairs : goal.returns-clause-pairs
returns-clause-pairs c = λ q.
    let pair = c.args.pair in
    c.remove.ensures.updates.0 (q.object, q.server)
    ∙ goes (same_pair pair q) (has_key c.self.inside.items.keys q)
    ∙ ap (λ (p : PairsValue). not (same_pair pair q) && has_key p.keys q) c.self.view_is
