use Rattle.std.proofs.Common.{◌∙◌, ℕ, Bool, true, nat_eq, List, ap}
use Rattle.std.specs.Prelude.{◌&&◌, ◌||◌}
use Rattle.std.specs.Cmp.Lexicographic.{pointwise}
use Rattle.std.specs.HashSet.{Updates}
use Rattle.std.proofs.lemmas.Result.{IfOk-at_ok}
use Rattle.tap_history.specs.Published.{same_pair}
use Rattle.tap_ledger.specs.Pairs.{PairsValue, has_key}
use Rattle.tap_ledger.proofs.Keys.{comes}
use Rattle.tap_ledger.proofs.pairs.Pairs.insert.Goals as goal

pub returns-clause-pairs : goal.returns-clause-pairs
returns-clause-pairs c = λ q.
    let pair = c.args.pair in
    let same : List ℕ × List ℕ → List ℕ × List ℕ → Bool = λ x y. pointwise nat_eq x.0 y.0 && pointwise nat_eq x.1 y.1 in
    let Updated : Bool → Type 0 = λ _. Updates same c.self.inside.items c.insert.new.self (pair.object, pair.server) true in
    (IfOk-at_ok Updated c.unwrap.ensures c.insert.ensures.updates).0 (q.object, q.server)
    ∙ comes (same_pair pair q) (has_key c.self.inside.items.keys q)
    ∙ ap (λ (p : PairsValue). same_pair pair q || has_key p.keys q) c.self.view_is
