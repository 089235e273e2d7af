use Rattle.std.proofs.Common.{◌≡◌, false, Some, sym, ap, ◌∙◌}
use Rattle.std.specs.BTreeMap.{is_at}
use Rattle.std.specs.Map.{lookup}
use Rattle.tap_pointer.specs.Pair.{pair_cmp}
use Rattle.tap_pointer.specs.Pointers.{with_published}
use Rattle.tap_pointer.proofs.Known.{found_state, written_state}
use Rattle.tap_pointer.proofs.change.withdraw.Goals as goal

pub returns-clause-after : goal.returns-clause-after
returns-clause-after c =
    let after = c.set_published.new.self in
    written_state c.args.pairs.now.entries c.args.own.now c.get_mut.ensures.ordered c.in_ok-state.state.now after
    (c.get_mut.follows.lender after).entries (λ s. with_published s false) (sym c.in_ok-state.ensures.value)
    (c.get_mut.follows.holds after).0 c.set_published.ensures.after

pub returns-clause-present : goal.returns-clause-present
returns-clause-present c =
    let pairs = c.args.pairs.now.entries in
    let found : lookup (is_at (pair_cmp c.args.own.now)) pairs ≡ Some c.in_ok-state.state.now = sym c.in_ok-state.ensures.value in
    found ∙ ap Some (sym (found_state pairs c.args.own.now c.get_mut.ensures.ordered c.in_ok-state.state.now found))
