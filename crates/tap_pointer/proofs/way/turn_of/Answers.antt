use Rattle.std.proofs.Common.{rules, ◌≡◌, ◌<◌, ◌+◌, length, Some, sym, ap, ◌∙◌}
use Rattle.tap_pointer.specs.Pointers.{level_held}
use Rattle.tap_pointer.specs.Reconcile.{hop_from}
use Rattle.tap_pointer.proofs.Ways.{turn_one_way}
use Rattle.tap_pointer.proofs.way.turn_of.Goals as goal

pub returns : goal.returns
returns c = λ t is object within same.
    let pair = c.args.pair.now in
    let level = c.in_ok-level.level in
    let hop = c.in_ok-hop.hop in
    let held : level_held c.args.state.now ≡ Some level = search rules in
    let wanted : c.args.wanted.now ≡ Some hop = search rules in
    let inside : level < length pair.object = search rules in
    let next : hop.level ≡ level + 1 = search rules in
    wanted ∙ turn_one_way t level pair.object hop inside next (ap (hop_from t pair.object) (sym held) ∙ sym is ∙ wanted) object within
    (same ∙ c.digit.ensures.value)
