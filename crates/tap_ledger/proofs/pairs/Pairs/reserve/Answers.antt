use Rattle.std.proofs.Common.{◌∙◌, ap}
use Rattle.tap_ledger.specs.Pairs.{PairsValue, has_key}
use Rattle.tap_ledger.proofs.pairs.Pairs.reserve.Goals as goal

pub returns-in_ok-reserve-clause-pairs : goal.returns-in_ok-reserve-clause-pairs
returns-in_ok-reserve-clause-pairs c = λ q.
    c.reserve.ensures.keys.2 (q.object, q.server) ∙ ap (λ (p : PairsValue). has_key p.keys q) c.self.view_is
