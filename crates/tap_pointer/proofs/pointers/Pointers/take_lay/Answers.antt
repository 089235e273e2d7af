use Rattle.std.proofs.Common.{rules, ◌≡◌, ℕ, ◌++◌, min, true, false, length, All, Option, Result, Ok, Err, arith, ap, subst, sym, refl, ◌∙◌, inl, inr}
use Rattle.std.specs.Result.{OnErr}
use Rattle.std.proofs.lemmas.List.{nil_from_length}
use Rattle.tap_register.specs.Stamp.{HasGivenAtMost}
use Rattle.tap_pointer.specs.declared.hop.Hop.{Hop}
use Rattle.tap_pointer.specs.Pointers.{IsHeldFrom, IsNewSender, IsPairState, PointersValue, held_or_laid_count, lay_applied, pair_of, pointer_at, state_among, with_lay}
use Rattle.tap_pointer.specs.Reconcile.{AreLaid, layings, lays_numbered, reconcile_lays, relaid, wanted_hop}
use Rattle.tap_pointer.proofs.Known.{count_from, count_to, known-among, known-laid, known-with_lay, put_keeps}
use Rattle.tap_pointer.proofs.Layings.{length-lays_numbered}
use Rattle.tap_pointer.proofs.Lowest.{from-among, from-laid, from-lower, from-put, from-with_lay}
use Rattle.tap_pointer.proofs.Relaying.{relaid-lays, relaid-pairs}
use Rattle.tap_pointer.proofs.pointers.Pointers.take_lay.Goals as goal
use Rattle.tap_pointer.proofs.pointers.Pointers.take_lay.Goals.{After-count_after-self-inside, After-push_layings}

pub take_and_lay-requires-clause-levels : goal.take_and_lay-requires-clause-levels
take_and_lay-requires-clause-levels c =
    let pair = pair_of c.args.object c.args.server in
    let known = known-among c.self.inside.owner pair c.self.inside.pairs.entries c.self.invariant.0 in
    known.levels_to

pub count_after-self-inside-requires-clause-from : goal.count_after-self-inside-requires-clause-from
count_after-self-inside-requires-clause-from c =
    let pairs = c.self.inside.pairs.entries in
    let pair = pair_of c.args.object c.args.server in
    let pointer = pointer_at c.args.level c.args.on in
    let state = relaid c.args.table.now pair (state_among pairs pair) c.args.from c.args.version pointer in
    count_from pairs pair c.take_and_lay.ensures.ordered state c.in_ok-relaid.relaid.change c.in_ok-relaid.ensures.change
    c.take_and_lay.new.pairs.entries c.in_ok-relaid.ensures.after c.self.inside.held_or_laid c.self.invariant.1

pub count_after-self-inside-requires-clause-to : goal.count_after-self-inside-requires-clause-to
count_after-self-inside-requires-clause-to c =
    let pairs = c.self.inside.pairs.entries in
    let pair = pair_of c.args.object c.args.server in
    let pointer = pointer_at c.args.level c.args.on in
    let state = relaid c.args.table.now pair (state_among pairs pair) c.args.from c.args.version pointer in
    count_to pairs pair c.take_and_lay.ensures.ordered state c.in_ok-relaid.relaid.change c.in_ok-relaid.ensures.change
    c.take_and_lay.new.pairs.entries c.in_ok-relaid.ensures.after c.self.inside.held_or_laid c.self.invariant.1
    c.len.result c.len.ensures.len

-- what is known of the pairs is as it should be, and counted
keeps : (c : After-count_after-self-inside) → (All (IsPairState c.self.inside.owner) c.take_and_lay.new.pairs.entries)
    × (c.count_after-self-inside.result ≡ held_or_laid_count c.take_and_lay.new.pairs.entries)
    × (All (IsHeldFrom c.min-self-inside.result) c.take_and_lay.new.pairs.entries)
keeps c =
    let pairs = c.self.inside.pairs.entries in
    let owner = c.self.inside.owner in
    let pair = pair_of c.args.object c.args.server in
    let pointer = pointer_at c.args.level c.args.on in
    let taken = with_lay (state_among pairs pair) c.args.from c.args.version pointer in
    let state = relaid c.args.table.now pair (state_among pairs pair) c.args.from c.args.version pointer in
    let known =
    known-laid owner pair taken
    (known-with_lay owner pair (state_among pairs pair) (known-among owner pair pairs c.self.invariant.0) c.args.from c.args.version
    pointer c.requires.from c.requires.to)
    (wanted_hop c.args.table.now (pair, taken)) in
    let kept =
    put_keeps pairs pair c.take_and_lay.ensures.ordered state c.in_ok-relaid.relaid.change c.in_ok-relaid.ensures.change
    c.take_and_lay.new.pairs.entries c.in_ok-relaid.ensures.after c.self.inside.held_or_laid c.self.invariant.1
    owner c.count_after-self-inside.result c.count_after-self-inside.ensures c.self.invariant.0 known in
    let lowest : ℕ = c.min-self-inside.result in
    let is : lowest ≡ min c.self.inside.lowest c.args.level = search rules in
    let from = from-lower c.self.inside.lowest lowest (omega (arith, is)) pairs c.self.invariant.2 in
    let taken_from =
    from-with_lay lowest pair (state_among pairs pair) (from-among lowest pair pairs from) c.args.from c.args.version pointer
    (omega (arith, is)) in (
      kept.0,
      kept.1,
      from-put lowest pair pairs c.take_and_lay.new.pairs.entries state c.in_ok-relaid.ensures.after from
          (from-laid lowest pair taken taken_from (wanted_hop c.args.table.now (pair, taken))),
    )

pub invariant_of-self-in_err-push_layings : goal.invariant_of-self-in_err-push_layings
invariant_of-self-in_err-push_layings c = keeps (goal.at.invariant_of-self-in_err-push_layings c).After-count_after-self-inside

pub invariant_of-self-2 : goal.invariant_of-self-2
invariant_of-self-2 c = keeps (goal.at.invariant_of-self-2 c).After-count_after-self-inside

pub returns-clause-answer : goal.returns-clause-answer
returns-clause-answer c =
    let t = c.args.table.now in
    let pair = pair_of c.args.object c.args.server in
    let pointer = pointer_at c.args.level c.args.on in
    let stamp = c.args.stamp.now in
    let before : PointersValue = record { owner = c.self.inside.owner; pairs = c.self.inside.pairs.entries } in
    let laid = subst (AreLaid t) (sym c.self.view_is) c.requires.laid in
    let relaid = c.in_ok-relaid.relaid in
    let lays = λ (from to : Option Hop). lays_numbered stamp (layings pair from to) in
    rw (← c.self.view_is)
    (c.from_vec.ensures ∙ c.in_ok-push_layings.ensures.added ∙ ap (λ items. items ++ lays relaid.from relaid.to) c.new-lays.ensures.items
    ∙ ap (λ from. lays from relaid.to) c.in_ok-relaid.ensures.from
    ∙ ap (λ to. lays (state_among before.pairs pair).laid to) c.in_ok-relaid.ensures.to
    ∙ sym (relaid-lays t before pair c.args.from c.args.version pointer c.take_and_lay.ensures.ordered laid stamp))

pub returns-clause-after : goal.returns-clause-after
returns-clause-after c =
    let t = c.args.table.now in
    let pair = pair_of c.args.object c.args.server in
    let pointer = pointer_at c.args.level c.args.on in
    let before : PointersValue = record { owner = c.self.inside.owner; pairs = c.self.inside.pairs.entries } in
    let laid = subst (AreLaid t) (sym c.self.view_is) c.requires.laid in
    rw (← c.self.view_is)
    (ap (λ pairs. record { owner = c.self.inside.owner; pairs = pairs })
    (c.in_ok-relaid.ensures.after ∙ relaid-pairs t before pair c.args.from c.args.version pointer c.take_and_lay.ensures.ordered laid))

-- the Lays that are due are those of the pair
lays_due : (c : After-push_layings) → reconcile_lays c.args.table.now c.args.stamp.now
    (lay_applied c.args.self.now (pair_of c.args.object c.args.server) c.args.from c.args.version (pointer_at c.args.level c.args.on))
    ≡ lays_numbered c.args.stamp.now
    (layings (pair_of c.args.object c.args.server) c.in_ok-relaid.relaid.from c.in_ok-relaid.relaid.to)
lays_due c =
    let t = c.args.table.now in
    let pair = pair_of c.args.object c.args.server in
    let pointer = pointer_at c.args.level c.args.on in
    let stamp = c.args.stamp.now in
    let before : PointersValue = record { owner = c.self.inside.owner; pairs = c.self.inside.pairs.entries } in
    let laid = subst (AreLaid t) (sym c.self.view_is) c.requires.laid in
    let relaid = c.in_ok-relaid.relaid in
    let lays = λ (from to : Option Hop). lays_numbered stamp (layings pair from to) in
    rw (← c.self.view_is)
    (relaid-lays t before pair c.args.from c.args.version pointer c.take_and_lay.ensures.ordered laid stamp
    ∙ sym (ap (λ from. lays from relaid.to) c.in_ok-relaid.ensures.from
    ∙ ap (λ to. lays (state_among before.pairs pair).laid to) c.in_ok-relaid.ensures.to))

few_due : (c : After-push_layings) → length (reconcile_lays c.args.table.now c.args.stamp.now
    (lay_applied c.args.self.now (pair_of c.args.object c.args.server) c.args.from c.args.version (pointer_at c.args.level c.args.on)))
    ≡ length (layings (pair_of c.args.object c.args.server) c.in_ok-relaid.relaid.from c.in_ok-relaid.relaid.to)
few_due c =
    ap length (lays_due c)
    ∙ length-lays_numbered c.args.stamp.now
    (layings (pair_of c.args.object c.args.server) c.in_ok-relaid.relaid.from c.in_ok-relaid.relaid.to)

given : (c : After-push_layings) → HasGivenAtMost (length (reconcile_lays c.args.table.now c.args.stamp.now
    (lay_applied c.args.self.now (pair_of c.args.object c.args.server) c.args.from c.args.version (pointer_at c.args.level c.args.on))))
    c.args.stamp.now c.push_layings.new.stamp
given c =
    subst (λ n. HasGivenAtMost n c.args.stamp.now c.push_layings.new.stamp) (sym (few_due c)) c.push_layings.ensures.given

pub returns-in_err-push_layings-clause-given : goal.returns-in_err-push_layings-clause-given
returns-in_err-push_layings-clause-given c = given (goal.at.returns-in_err-push_layings-clause-given c).After-push_layings

pub returns-clause-given : goal.returns-clause-given
returns-clause-given c = given (goal.at.returns-clause-given c).After-push_layings

pub returns-in_err-push_layings-clause-none_due : goal.returns-in_err-push_layings-clause-none_due
returns-in_err-push_layings-clause-none_due c none =
    let due = few_due (goal.at.returns-in_err-push_layings-clause-none_due c).After-push_layings in
    let few = ap length none in
    let wrong : false ≡ true = c.in_err-push_layings.ensures.none
    (nil_from_length (layings (pair_of c.args.object c.args.server) c.in_ok-relaid.relaid.from c.in_ok-relaid.relaid.to) (sym due ∙ few)) in
    absurd (cc)

-- what holds anyhow holds after a refusal
after_refusal : {X E P : Type 0} (answer : Result X E) → P → OnErr answer P
after_refusal (Ok x) holds = tt
after_refusal (Err e) holds = holds

-- the Lay is taken, and the pair is laid as wanted
pub returns-in_err-push_layings-clause-refused : goal.returns-in_err-push_layings-clause-refused
returns-in_err-push_layings-clause-refused c =
    let t = c.args.table.now in
    let pair = pair_of c.args.object c.args.server in
    let pointer = pointer_at c.args.level c.args.on in
    let before : PointersValue = record { owner = c.self.inside.owner; pairs = c.self.inside.pairs.entries } in
    let laid = subst (AreLaid t) (sym c.self.view_is) c.requires.laid in
    after_refusal _ (inr (rw (← c.self.view_is)
    (ap (λ pairs. record { owner = c.self.inside.owner; pairs = pairs })
    (c.in_ok-relaid.ensures.after ∙ relaid-pairs t before pair c.args.from c.args.version pointer c.take_and_lay.ensures.ordered laid))))

-- nothing is done
pub returns-in_err-relaid-clause-refused : goal.returns-in_err-relaid-clause-refused
returns-in_err-relaid-clause-refused c =
    after_refusal c.from_residual.result
    (inl (ap (λ pairs. record { owner = c.self.inside.owner; pairs = pairs }) c.in_err-relaid.ensures.same ∙ c.self.view_is, refl))

pub returns-in_err-relaid-clause-none_due : goal.returns-in_err-relaid-clause-none_due
returns-in_err-relaid-clause-none_due c none =
    after_refusal c.from_residual.result
    (subst (λ (p : PointersValue). IsNewSender p (pair_of c.args.object c.args.server) c.args.from) c.self.view_is
    c.in_err-relaid.ensures.new_sender)
