use Rattle.std.proofs.Common.{◌≡◌, sym, ap, ◌∙◌}
use Rattle.std.specs.BTreeMap.{insert_entry, is_at}
use Rattle.std.specs.Map.{set_value}
use Rattle.tap_pointer.specs.declared.state.PairState.{PairState}
use Rattle.tap_pointer.specs.Due.{pair_of_lay}
use Rattle.tap_pointer.specs.Pair.{pair_cmp}
use Rattle.tap_pointer.specs.Pointers.{change_between, state_among, with_laid}
use Rattle.tap_pointer.proofs.Known.{count_from, count_put, count_to, found_state, written_state}
use Rattle.tap_pointer.proofs.Telling.{laid_by-absent, laid_by-found}
use Rattle.tap_pointer.proofs.walk.lay_by.Goals as goal
use Rattle.tap_pointer.proofs.walk.lay_by.Goals.{After-set_laid-change}

pub returns-in_default-clause-after : goal.returns-in_default-clause-after
returns-in_default-clause-after c =
    let told = c.args.told.now in
    let pairs = c.args.pairs.now.entries in
    ap (λ m. m.entries) c.get_mut.follows.holds-at-none ∙ sym (laid_by-absent told pairs (sym c.in_default.ensures.value))

-- what is known of the pair afterwards, and that this is put in its place
laid : (c : After-set_laid-change) → PairState
laid c = with_laid (state_among c.args.pairs.now.entries (pair_of_lay c.args.told.now)) c.hop_told.result

put : (c : After-set_laid-change) → (c.get_mut.follows.lender c.set_laid-change.new.self).entries
    ≡ insert_entry pair_cmp c.args.pairs.now.entries (pair_of_lay c.args.told.now) (laid c)
unfolding laid
put c =
    let after = c.set_laid-change.new.self in
    written_state c.args.pairs.now.entries (pair_of_lay c.args.told.now) c.get_mut.ensures.ordered c.in-Some.state.now after
    (c.get_mut.follows.lender after).entries (λ s. with_laid s c.hop_told.result) (sym c.in-Some.ensures.value)
    (c.get_mut.follows.holds after).0 c.set_laid-change.ensures.after

changes : (c : After-set_laid-change)
    → c.set_laid-change.result ≡ change_between (state_among c.args.pairs.now.entries (pair_of_lay c.args.told.now)) (laid c)
unfolding laid
changes c =
    let pairs = c.args.pairs.now.entries in
    let pair = pair_of_lay c.args.told.now in
    let found = found_state pairs pair c.get_mut.ensures.ordered c.in-Some.state.now (sym c.in-Some.ensures.value) in
    c.set_laid-change.ensures.change ∙ ap (λ s. change_between s (with_laid s c.hop_told.result)) (sym found)

pub count_after-requires-clause-from : goal.count_after-requires-clause-from
count_after-requires-clause-from c =
    let at = (goal.at.count_after-requires-clause-from c).After-set_laid-change in
    count_from c.args.pairs.now.entries (pair_of_lay c.args.told.now) c.get_mut.ensures.ordered (laid at) c.set_laid-change.result
    (changes at) (c.get_mut.follows.lender c.set_laid-change.new.self).entries (put at) c.args.count c.requires

pub count_after-requires-clause-to : goal.count_after-requires-clause-to
count_after-requires-clause-to c =
    let at = (goal.at.count_after-requires-clause-to c).After-set_laid-change in
    count_to c.args.pairs.now.entries (pair_of_lay c.args.told.now) c.get_mut.ensures.ordered (laid at) c.set_laid-change.result
    (changes at) (c.get_mut.follows.lender c.set_laid-change.new.self).entries (put at) c.args.count c.requires
    c.len.result c.len.ensures.len

pub returns-clause-after : goal.returns-clause-after
returns-clause-after c =
    let told = c.args.told.now in
    let pairs = c.args.pairs.now.entries in
    let state = c.in-Some.state.now in
    (c.get_mut.follows.holds c.set_laid-change.new.self).0
    ∙ ap (set_value (is_at (pair_cmp (pair_of_lay told))) pairs) (c.set_laid-change.ensures.after ∙ ap (with_laid state) c.hop_told.ensures)
    ∙ laid_by-found told pairs state (sym c.in-Some.ensures.value)

pub returns-clause-count : goal.returns-clause-count
returns-clause-count c =
    let at = (goal.at.returns-clause-count c).After-set_laid-change in
    count_put c.args.pairs.now.entries (pair_of_lay c.args.told.now) c.get_mut.ensures.ordered (laid at) c.set_laid-change.result
    (changes at) (c.get_mut.follows.lender c.set_laid-change.new.self).entries (put at) c.args.count c.requires
    c.count_after.result c.count_after.ensures
