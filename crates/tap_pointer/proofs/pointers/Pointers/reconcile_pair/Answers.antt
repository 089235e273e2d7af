use Rattle.std.proofs.Common.{◌≡◌, ◌++◌, true, false, length, Option, ap, subst, sym, ◌∙◌}
use Rattle.std.specs.BTreeMap.{is_at}
use Rattle.std.specs.List.{All}
use Rattle.std.specs.Map.{lookup}
use Rattle.std.proofs.lemmas.List.{nil_from_length}
use Rattle.tap_name.specs.Name.{IsName}
use Rattle.tap_register.specs.Stamp.{HasGivenAtMost}
use Rattle.tap_pointer.specs.declared.hop.Hop.{Hop}
use Rattle.tap_pointer.specs.Pair.{pair_cmp}
use Rattle.tap_pointer.specs.Pointers.{IsPairState, is_held_or_laid, pair_of, state_among, with_laid}
use Rattle.tap_pointer.specs.Reconcile.{AreLaid, AreLaidBut, AreNamesHeld, layings, layings_to_wanted, lays_numbered, reconcile_lays, wanted_hop}
use Rattle.tap_pointer.proofs.Known.{All-found, count_from, count_to, known-among, known-laid, lays_pair, put_keeps, some_if_found}
use Rattle.tap_pointer.proofs.Layings.{all_laid, length-lays_numbered}
use Rattle.tap_pointer.proofs.Lowest.{from-among, from-laid, from-put}
use Rattle.tap_pointer.proofs.OnePair.{laid_as_wanted, laid_if_absent, laid_if_laid, none_if_absent, settles}
use Rattle.tap_pointer.proofs.Laws.{laid_sends_nothing}
use Rattle.tap_pointer.proofs.pointers.Pointers.reconcile_pair.Goals as goal
use Rattle.tap_pointer.proofs.pointers.Pointers.reconcile_pair.Goals.{After-is_laid_so, After-push_layings}

-- nothing is known of the pair
pub returns-in_default-clause-answer : goal.returns-in_default-clause-answer
returns-in_default-clause-answer c =
    let t = c.args.table.now in
    let pair = pair_of c.args.object c.args.server in
    let pairs = c.self.inside.pairs.entries in
    let others = subst (AreLaidBut t pair) (sym c.self.view_is) c.requires.others in
    let none = none_if_absent t pair pairs (sym c.in_default.ensures.value) others in
    rw (← c.self.view_is) (c.from_vec.ensures ∙ c.new-lays.ensures.items ∙ sym (ap (lays_numbered c.args.stamp.now) none.0))

pub returns-in_default-clause-after : goal.returns-in_default-clause-after
returns-in_default-clause-after c =
    let t = c.args.table.now in
    let pair = pair_of c.args.object c.args.server in
    let pairs = c.self.inside.pairs.entries in
    let others = subst (AreLaidBut t pair) (sym c.self.view_is) c.requires.others in
    let none = none_if_absent t pair pairs (sym c.in_default.ensures.value) others in
    rw (← c.self.view_is) (ap (λ pairs. record { owner = c.self.inside.owner; pairs = pairs }) (sym none.1))

pub returns-in_default-clause-laid : goal.returns-in_default-clause-laid
returns-in_default-clause-laid c =
    let t = c.args.table.now in
    let pair = pair_of c.args.object c.args.server in
    let pairs = c.self.inside.pairs.entries in
    let others = subst (AreLaidBut t pair) (sym c.self.view_is) c.requires.others in
    subst (AreLaid t) c.self.view_is (laid_if_absent t pair pairs (sym c.in_default.ensures.value) others)

-- the pair is laid as wanted
are_laid : (c : After-is_laid_so) → c.is_laid_so.result ≡ true → AreLaid c.args.table.now c.args.self.now
are_laid c is =
    let t = c.args.table.now in
    let pair = pair_of c.args.object c.args.server in
    let others = subst (AreLaidBut t pair) (sym c.self.view_is) c.requires.others in
    subst (AreLaid t) c.self.view_is
    (laid_if_laid t pair c.self.inside.pairs.entries c.in-Some.state.now c.len-ordered.ensures.ordered
    (sym c.in-Some.ensures.value) others (c.is_laid_so.ensures is ∙ c.wanted_hop-wanted.ensures))

pub returns-then-is_laid_so-clause-answer : goal.returns-then-is_laid_so-clause-answer
returns-then-is_laid_so-clause-answer c =
    let laid = are_laid (goal.at.returns-then-is_laid_so-clause-answer c).After-is_laid_so c.if-is_laid_so.true in
    c.from_vec-then-is_laid_so.ensures ∙ c.new-lays.ensures.items
    ∙ sym (laid_sends_nothing c.args.table.now c.args.stamp.now c.args.self.now laid).0

pub returns-then-is_laid_so-clause-after : goal.returns-then-is_laid_so-clause-after
returns-then-is_laid_so-clause-after c =
    let laid = are_laid (goal.at.returns-then-is_laid_so-clause-after c).After-is_laid_so c.if-is_laid_so.true in
    sym (laid_sends_nothing c.args.table.now c.args.stamp.now c.args.self.now laid).1

pub returns-then-is_laid_so-clause-laid : goal.returns-then-is_laid_so-clause-laid
returns-then-is_laid_so-clause-laid c =
    are_laid (goal.at.returns-then-is_laid_so-clause-laid c).After-is_laid_so c.if-is_laid_so.true

-- the pair is known
pub wanted_hop-wanted-requires-clause-name : goal.wanted_hop-wanted-requires-clause-name
wanted_hop-wanted-requires-clause-name c =
    let settings = c.args.table.now.settings in
    let names = subst (AreNamesHeld settings) (sym c.self.view_is) c.requires.names in
    All-found (λ e. is_held_or_laid e.1 ≡ true → IsName settings e.0.object) (pair_of c.args.object c.args.server)
    c.in-Some.state.now c.self.inside.pairs.entries names (sym c.in-Some.ensures.value)

pub wanted_hop-wanted-requires-clause-levels : goal.wanted_hop-wanted-requires-clause-levels
wanted_hop-wanted-requires-clause-levels c =
    let known =
    All-found (IsPairState c.self.inside.owner) (pair_of c.args.object c.args.server) c.in-Some.state.now
    c.self.inside.pairs.entries c.self.invariant.0 (sym c.in-Some.ensures.value) in
    known.levels_to

pub unwrap-change-requires : goal.unwrap-change-requires
unwrap-change-requires c =
    let pair = pair_of c.args.object c.args.server in
    some_if_found (lookup (is_at (pair_cmp pair)) c.self.inside.pairs.entries) c.in-Some.state.now c.lay.result
    (sym c.in-Some.ensures.value) c.lay.ensures.absent

pub count_after-self-inside-requires-clause-from : goal.count_after-self-inside-requires-clause-from
count_after-self-inside-requires-clause-from c =
    let pair = pair_of c.args.object c.args.server in
    let pairs = c.self.inside.pairs.entries in
    let hop = c.wanted_hop-wanted.result in
    let change = c.unwrap-change.result in
    let new = c.lay.new.pairs.entries in
    let lays = lays_pair pairs new pair hop c.lay.result change c.unwrap-change.ensures c.lay.ensures.change c.lay.ensures.after in
    count_from pairs pair c.lay.ensures.ordered (with_laid (state_among pairs pair) hop) change lays.is new lays.after
    c.self.inside.held_or_laid c.self.invariant.1

pub count_after-self-inside-requires-clause-to : goal.count_after-self-inside-requires-clause-to
count_after-self-inside-requires-clause-to c =
    let pair = pair_of c.args.object c.args.server in
    let pairs = c.self.inside.pairs.entries in
    let hop = c.wanted_hop-wanted.result in
    let change = c.unwrap-change.result in
    let new = c.lay.new.pairs.entries in
    let lays = lays_pair pairs new pair hop c.lay.result change c.unwrap-change.ensures c.lay.ensures.change c.lay.ensures.after in
    count_to pairs pair c.lay.ensures.ordered (with_laid (state_among pairs pair) hop) change lays.is new lays.after
    c.self.inside.held_or_laid c.self.invariant.1 c.len.result c.len.ensures.len

pub invariant_of-self : goal.invariant_of-self
invariant_of-self c =
    let pair = pair_of c.args.object c.args.server in
    let pairs = c.self.inside.pairs.entries in
    let owner = c.self.inside.owner in
    let hop = c.wanted_hop-wanted.result in
    let change = c.unwrap-change.result in
    let new = c.lay.new.pairs.entries in
    let lays = lays_pair pairs new pair hop c.lay.result change c.unwrap-change.ensures c.lay.ensures.change c.lay.ensures.after in
    let known = known-laid owner pair (state_among pairs pair) (known-among owner pair pairs c.self.invariant.0) hop in
    let kept =
    put_keeps pairs pair c.lay.ensures.ordered (with_laid (state_among pairs pair) hop) change lays.is new lays.after
    c.self.inside.held_or_laid c.self.invariant.1
    owner c.count_after-self-inside.result c.count_after-self-inside.ensures c.self.invariant.0 known in
    let lowest = c.self.inside.lowest in (
      kept.0,
      kept.1,
      from-put lowest pair pairs new (with_laid (state_among pairs pair) hop) lays.after c.self.invariant.2
          (from-laid lowest pair (state_among pairs pair) (from-among lowest pair pairs c.self.invariant.2) hop),
    )

pub returns-clause-answer : goal.returns-clause-answer
returns-clause-answer c =
    let t = c.args.table.now in
    let pair = pair_of c.args.object c.args.server in
    let state = c.in-Some.state.now in
    let stamp = c.args.stamp.now in
    let others = subst (AreLaidBut t pair) (sym c.self.view_is) c.requires.others in
    let settled =
    settles t pair c.self.inside.pairs.entries state c.lay.ensures.ordered (sym c.in-Some.ensures.value) others in
    let laying = λ (hop : Option Hop). layings pair state.laid hop in
    rw (← c.self.view_is)
    (c.from_vec-2.ensures ∙ c.in_ok-push_layings.ensures.added
    ∙ ap (λ items. items ++ lays_numbered stamp (laying c.wanted_hop-wanted.result)) c.new-lays.ensures.items
    ∙ ap (lays_numbered stamp) (ap laying c.wanted_hop-wanted.ensures ∙ sym settled.lays))

pub returns-clause-after : goal.returns-clause-after
returns-clause-after c =
    let t = c.args.table.now in
    let pair = pair_of c.args.object c.args.server in
    let pairs = c.self.inside.pairs.entries in
    let hop = c.wanted_hop-wanted.result in
    let others = subst (AreLaidBut t pair) (sym c.self.view_is) c.requires.others in
    let lays = lays_pair pairs c.lay.new.pairs.entries pair hop c.lay.result c.unwrap-change.result c.unwrap-change.ensures
    c.lay.ensures.change c.lay.ensures.after in
    rw (← c.self.view_is)
    (ap (λ pairs. record { owner = c.self.inside.owner; pairs = pairs })
    (lays.after ∙ laid_as_wanted t pair pairs c.in-Some.state.now hop c.lay.ensures.ordered (sym c.in-Some.ensures.value) others
    c.wanted_hop-wanted.ensures))

pub returns-clause-laid : goal.returns-clause-laid
returns-clause-laid c =
    let t = c.args.table.now in
    let pair = pair_of c.args.object c.args.server in
    let pairs = c.self.inside.pairs.entries in
    let hop = c.wanted_hop-wanted.result in
    let others = subst (AreLaidBut t pair) (sym c.self.view_is) c.requires.others in
    let lays = lays_pair pairs c.lay.new.pairs.entries pair hop c.lay.result c.unwrap-change.result c.unwrap-change.ensures
    c.lay.ensures.change c.lay.ensures.after in
    let all = laid_as_wanted t pair pairs c.in-Some.state.now hop c.lay.ensures.ordered (sym c.in-Some.ensures.value) others
    c.wanted_hop-wanted.ensures in
    subst (All (λ e. e.1.laid ≡ wanted_hop t e)) (sym (lays.after ∙ all)) (all_laid t pairs)

-- the Lays that are due are those of the pair
few_due : (c : After-push_layings) → length (reconcile_lays c.args.table.now c.args.stamp.now c.args.self.now)
    ≡ length (layings (pair_of c.args.object c.args.server) c.in-Some.state.now.laid c.wanted_hop-wanted.result)
few_due c =
    let t = c.args.table.now in
    let pair = pair_of c.args.object c.args.server in
    let pairs = c.self.inside.pairs.entries in
    let state = c.in-Some.state.now in
    let others = subst (AreLaidBut t pair) (sym c.self.view_is) c.requires.others in
    let settled = settles t pair pairs state c.len-ordered.ensures.ordered (sym c.in-Some.ensures.value) others in
    let laying = λ (hop : Option Hop). layings pair state.laid hop in
    rw (← c.self.view_is)
    (length-lays_numbered c.args.stamp.now (layings_to_wanted t pairs)
    ∙ ap length (settled.lays ∙ ap laying (sym c.wanted_hop-wanted.ensures)))

given : (c : After-push_layings) → HasGivenAtMost (length (reconcile_lays c.args.table.now c.args.stamp.now c.args.self.now))
    c.args.stamp.now c.push_layings.new.stamp
given c =
    subst (λ n. HasGivenAtMost n c.args.stamp.now c.push_layings.new.stamp) (sym (few_due c)) c.push_layings.ensures.given

pub returns-in_err-push_layings-clause-given : goal.returns-in_err-push_layings-clause-given
returns-in_err-push_layings-clause-given c = given (goal.at.returns-in_err-push_layings-clause-given c).After-push_layings

pub returns-clause-given : goal.returns-clause-given
returns-clause-given c = given (goal.at.returns-clause-given c).After-push_layings

pub returns-in_err-push_layings-clause-none_due : goal.returns-in_err-push_layings-clause-none_due
returns-in_err-push_layings-clause-none_due c none =
    let due = few_due (goal.at.returns-in_err-push_layings-clause-none_due c).After-push_layings in
    let few = ap length none in
    let wrong : false ≡ true = c.in_err-push_layings.ensures.none
    (nil_from_length (layings (pair_of c.args.object c.args.server) c.in-Some.state.now.laid c.wanted_hop-wanted.result) (sym due ∙ few)) in
    absurd (cc)
