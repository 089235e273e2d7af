use Rattle.std.proofs.Common.{◌≡◌, Some, sym, ap, ◌∙◌}
use Rattle.std.specs.BTreeMap.{is_at}
use Rattle.std.specs.Map.{lookup, set_value}
use Rattle.std.proofs.lemmas.Map.Steps.{set_value_same}
use Rattle.std.proofs.lemmas.Result.{on_err_weaker, on_ok_weaker}
use Rattle.tap_name.specs.Order.{name_cmp}
use Rattle.tap_register.specs.Registers.{entry_of}
use Rattle.tap_pointer.specs.declared.state.PairState.{PairState}
use Rattle.tap_pointer.specs.Pair.{pair_cmp}
use Rattle.tap_pointer.specs.Pointers.{with_lay}
use Rattle.tap_pointer.proofs.Known.{found_state, written_state}
use Rattle.tap_pointer.proofs.change.take.Goals as goal

pub returns-in-Some-clause-after : goal.returns-in-Some-clause-after
returns-in-Some-clause-after c =
    let after = c.take.new.self in
    on_ok_weaker c.take.result
    (λ is. written_state c.args.pairs.now.entries c.args.pair c.get_mut.ensures.ordered c.in-Some.state.now after
    (c.get_mut.follows.lender after).entries (λ s. with_lay s c.args.from c.args.version c.args.pointer)
    (sym c.in-Some.ensures.value) (c.get_mut.follows.holds after).0 is)
    c.take.ensures.after

pub returns-in-Some-clause-same : goal.returns-in-Some-clause-same
returns-in-Some-clause-same c =
    let pairs = c.args.pairs.now.entries in
    let test = is_at (pair_cmp c.args.pair) in
    let state = c.in-Some.state.now in
    let found : lookup test pairs ≡ Some state = sym c.in-Some.ensures.value in
    on_err_weaker c.take.result
    (λ is. (c.get_mut.follows.holds c.take.new.self).0 ∙ ap (set_value test pairs) is ∙ set_value_same test pairs state found)
    c.take.ensures.same

pub returns-in-Some-clause-new_sender : goal.returns-in-Some-clause-new_sender
returns-in-Some-clause-new_sender c =
    let pairs = c.args.pairs.now.entries in
    let state = c.in-Some.state.now in
    let same = found_state pairs c.args.pair c.get_mut.ensures.ordered state (sym c.in-Some.ensures.value) in
    on_err_weaker c.take.result (λ none. ap (λ (s : PairState). entry_of name_cmp s.registers c.args.from) same ∙ none)
    c.take.ensures.new_sender
