use Rattle.std.proofs.Common.{◌≡◌, ◌≤◌, ◌+◌, ◌++◌, [], ◌∷◌, true, false, length, All, arith, sym, ap, subst, ◌∙◌}
use Rattle.std.specs.Map.Iter.{deref_pair}
use Rattle.std.proofs.lemmas.List.Elements.{All-head, All-tail}
use Rattle.std.proofs.lemmas.Map.Iter.{rest_more}
use Rattle.tap_name.specs.Name.{IsName}
use Rattle.tap_register.specs.Stamp.{HasGivenAtMost}
use Rattle.tap_pointer.specs.Pointers.{is_held_or_laid, held_or_laid_count}
use Rattle.tap_pointer.specs.Reconcile.{AreLaidUnlessApart, layings, layings_to_wanted, lays_numbered, may_be_apart, wanted_hop}
use Rattle.tap_pointer.proofs.Layings.{few_here, given_on_the_way, laid_already, length_step, none_on_the_way, numbered_step}
use Rattle.tap_pointer.proofs.walk.lays_to_wanted.Goals as goal

pub follow-requires-clause-name : goal.follow-requires-clause-name
follow-requires-clause-name c =
    let settings = c.args.table.now.settings in
    let pair = c.in-Some.pair.now in
    let state = c.in-Some.state.now in
    let rest = c.next.new.self in
    let left : c.loop-pair.pair-iterator ≡ (pair, state) ∷ rest =
    rest_more deref_pair _ _ c.next.result (c.in-Some.pair, c.in-Some.state) c.in-Some.is c.next.ensures.steps in
    All-head (λ e. is_held_or_laid e.1 ≡ true → IsName settings e.0.object) (pair, state) rest
    (subst (All (λ e. is_held_or_laid e.1 ≡ true → IsName settings e.0.object)) left c.loop-pair.invariant.3)

pub push_layings-requires : goal.push_layings-requires
push_layings-requires c =
    let t = c.args.table.now in
    let pair = c.in-Some.pair.now in
    let state = c.in-Some.state.now in
    let rest = c.next.new.self in
    let left : c.loop-pair.pair-iterator ≡ (pair, state) ∷ rest =
    rest_more deref_pair _ _ c.next.result (c.in-Some.pair, c.in-Some.state) c.in-Some.is c.next.ensures.steps in
    let lays : length (layings pair state.laid c.follow.new.way.hop) ≡ length (layings pair state.laid (wanted_hop t (pair, state))) =
    ap (λ hop. length (layings pair state.laid hop)) c.follow.ensures.wanted in
    let spans : held_or_laid_count c.loop-pair.pair-iterator ≡ held_or_laid_count ((pair, state) ∷ rest) = ap held_or_laid_count left in
    omega (arith, lays, spans, few_here t (pair, state) rest, c.loop-pair.invariant.2)

pub loop-pair-preserved : goal.loop-pair-preserved
loop-pair-preserved c =
    let t = c.args.table.now in
    let pair = c.in-Some.pair.now in
    let state = c.in-Some.state.now in
    let rest = c.next.new.self in
    let lays = c.loop-pair.lays.items in
    let stamp = c.loop-pair.stamp in
    let here = layings pair state.laid (wanted_hop t (pair, state)) in
    let left : c.loop-pair.pair-iterator ≡ (pair, state) ∷ rest =
    rest_more deref_pair _ _ c.next.result (c.in-Some.pair, c.in-Some.state) c.in-Some.is c.next.ensures.steps in
    let pushed : c.push_layings.new.lays.items ≡ lays ++ lays_numbered stamp here =
    c.in_ok-push_layings.ensures.added
    ∙ ap (λ hop. lays ++ lays_numbered stamp (layings pair state.laid hop)) c.follow.ensures.wanted in
    let stamped : c.push_layings.new.stamp ≡ stamp + length here =
    c.in_ok-push_layings.ensures.stamped ∙ ap (λ hop. stamp + length (layings pair state.laid hop)) c.follow.ensures.wanted in
    let spans : held_or_laid_count c.loop-pair.pair-iterator ≡ held_or_laid_count ((pair, state) ∷ rest) = ap held_or_laid_count left in
    rw (pushed, stamped) (
      numbered_step lays (lays_numbered c.args.stamp.now (layings_to_wanted t c.args.pairs.now.entries)) stamp here
          (layings_to_wanted t rest) (ap (λ es. lays ++ lays_numbered stamp (layings_to_wanted t es)) (sym left) ∙ c.loop-pair.invariant.0),
      length_step lays c.args.stamp.now stamp here c.loop-pair.invariant.1,
      omega (arith, spans, few_here t (pair, state) rest, c.loop-pair.invariant.2),
      All-tail (λ e. is_held_or_laid e.1 ≡ true → IsName t.settings e.0.object) (pair, state) rest
          (subst (All (λ e. is_held_or_laid e.1 ≡ true → IsName t.settings e.0.object)) left c.loop-pair.invariant.3),
      All-tail (λ e. All (λ r. r.value.level ≤ length e.0.object) e.1.registers) (pair, state) rest
          (subst (All (λ e. All (λ r. r.value.level ≤ length e.0.object) e.1.registers)) left c.loop-pair.invariant.4),
      All-tail (λ e. may_be_apart t.owner c.args.level e ≡ false → e.1.laid ≡ wanted_hop t e) (pair, state) rest
          (subst (AreLaidUnlessApart t c.args.level) left c.loop-pair.invariant.5),
      c.follow.ensures.way,
      c.loop-pair.invariant.7,
    )

-- a pair that is laid as wanted takes no Lay
pub loop-pair-preserved-then-is_laid_so : goal.loop-pair-preserved-then-is_laid_so
loop-pair-preserved-then-is_laid_so c =
    let t = c.args.table.now in
    let pair = c.in-Some.pair.now in
    let state = c.in-Some.state.now in
    let rest = c.next.new.self in
    let left : c.loop-pair.pair-iterator ≡ (pair, state) ∷ rest =
    rest_more deref_pair _ _ c.next.result (c.in-Some.pair, c.in-Some.state) c.in-Some.is c.next.ensures.steps in
    let laid : state.laid ≡ wanted_hop t (pair, state) =
    c.is_laid_so.ensures c.if-is_laid_so.true ∙ c.follow.ensures.wanted in
    let same : layings_to_wanted t c.loop-pair.pair-iterator ≡ layings_to_wanted t rest =
    ap (layings_to_wanted t) left ∙ ap (λ here. here ++ layings_to_wanted t rest) (laid_already t (pair, state) laid) in
    let spans : held_or_laid_count c.loop-pair.pair-iterator ≡ held_or_laid_count ((pair, state) ∷ rest) = ap held_or_laid_count left in (
      ap (λ layings. c.loop-pair.lays.items ++ lays_numbered c.loop-pair.stamp layings) (sym same) ∙ c.loop-pair.invariant.0,
      c.loop-pair.invariant.1,
      omega (arith, spans, few_here t (pair, state) rest, c.loop-pair.invariant.2),
      All-tail (λ e. is_held_or_laid e.1 ≡ true → IsName t.settings e.0.object) (pair, state) rest
          (subst (All (λ e. is_held_or_laid e.1 ≡ true → IsName t.settings e.0.object)) left c.loop-pair.invariant.3),
      All-tail (λ e. All (λ r. r.value.level ≤ length e.0.object) e.1.registers) (pair, state) rest
          (subst (All (λ e. All (λ r. r.value.level ≤ length e.0.object) e.1.registers)) left c.loop-pair.invariant.4),
      All-tail (λ e. may_be_apart t.owner c.args.level e ≡ false → e.1.laid ≡ wanted_hop t e) (pair, state) rest
          (subst (AreLaidUnlessApart t c.args.level) left c.loop-pair.invariant.5),
      c.follow.ensures.way,
      c.loop-pair.invariant.7,
    )

-- nor does one that may not be laid elsewhere
pub loop-pair-preserved-then-not-may_be_apart : goal.loop-pair-preserved-then-not-may_be_apart
loop-pair-preserved-then-not-may_be_apart c =
    let t = c.args.table.now in
    let pair = c.in-Some.pair.now in
    let state = c.in-Some.state.now in
    let rest = c.next.new.self in
    let left : c.loop-pair.pair-iterator ≡ (pair, state) ∷ rest =
    rest_more deref_pair _ _ c.next.result (c.in-Some.pair, c.in-Some.state) c.in-Some.is c.next.ensures.steps in
    let kept : state.laid ≡ wanted_hop t (pair, state) =
    All-head (λ e. may_be_apart t.owner c.args.level e ≡ false → e.1.laid ≡ wanted_hop t e) (pair, state) rest
    (subst (AreLaidUnlessApart t c.args.level) left c.loop-pair.invariant.5) (ap (λ owner. may_be_apart owner c.args.level (pair, state)) (sym c.loop-pair.invariant.7)
    ∙ sym c.may_be_apart.ensures ∙ c.if-not-may_be_apart.true) in
    let same : layings_to_wanted t c.loop-pair.pair-iterator ≡ layings_to_wanted t rest =
    ap (layings_to_wanted t) left ∙ ap (λ here. here ++ layings_to_wanted t rest) (laid_already t (pair, state) kept) in
    let spans : held_or_laid_count c.loop-pair.pair-iterator ≡ held_or_laid_count ((pair, state) ∷ rest) = ap held_or_laid_count left in (
      ap (λ layings. c.loop-pair.lays.items ++ lays_numbered c.loop-pair.stamp layings) (sym same) ∙ c.loop-pair.invariant.0,
      c.loop-pair.invariant.1,
      omega (arith, spans, few_here t (pair, state) rest, c.loop-pair.invariant.2),
      All-tail (λ e. is_held_or_laid e.1 ≡ true → IsName t.settings e.0.object) (pair, state) rest
          (subst (All (λ e. is_held_or_laid e.1 ≡ true → IsName t.settings e.0.object)) left c.loop-pair.invariant.3),
      All-tail (λ e. All (λ r. r.value.level ≤ length e.0.object) e.1.registers) (pair, state) rest
          (subst (All (λ e. All (λ r. r.value.level ≤ length e.0.object) e.1.registers)) left c.loop-pair.invariant.4),
      All-tail (λ e. may_be_apart t.owner c.args.level e ≡ false → e.1.laid ≡ wanted_hop t e) (pair, state) rest
          (subst (AreLaidUnlessApart t c.args.level) left c.loop-pair.invariant.5),
      c.loop-pair.invariant.6,
      c.loop-pair.invariant.7,
    )

-- memory was refused on the way
pub returns-in_err-push_layings-clause-given : goal.returns-in_err-push_layings-clause-given
returns-in_err-push_layings-clause-given c =
    let t = c.args.table.now in
    let pair = c.in-Some.pair.now in
    let state = c.in-Some.state.now in
    let rest = c.next.new.self in
    let lays = c.loop-pair.lays.items in
    let stamp = c.loop-pair.stamp in
    let next = c.push_layings.new.stamp in
    let left : c.loop-pair.pair-iterator ≡ (pair, state) ∷ rest =
    rest_more deref_pair _ _ c.next.result (c.in-Some.pair, c.in-Some.state) c.in-Some.is c.next.ensures.steps in
    let given = subst (λ hop. HasGivenAtMost (length (layings pair state.laid hop)) stamp next) c.follow.ensures.wanted
    c.push_layings.ensures.given in
    given_on_the_way lays c.args.stamp.now stamp (layings pair state.laid (wanted_hop t (pair, state))) (layings_to_wanted t rest)
    (layings_to_wanted t c.args.pairs.now.entries)
    (ap (λ es. lays ++ lays_numbered stamp (layings_to_wanted t es)) (sym left) ∙ c.loop-pair.invariant.0) c.loop-pair.invariant.1 next given

pub returns-in_err-push_layings-clause-none : goal.returns-in_err-push_layings-clause-none
returns-in_err-push_layings-clause-none c none =
    let t = c.args.table.now in
    let pair = c.in-Some.pair.now in
    let state = c.in-Some.state.now in
    let rest = c.next.new.self in
    let lays = c.loop-pair.lays.items in
    let stamp = c.loop-pair.stamp in
    let left : c.loop-pair.pair-iterator ≡ (pair, state) ∷ rest =
    rest_more deref_pair _ _ c.next.result (c.in-Some.pair, c.in-Some.state) c.in-Some.is c.next.ensures.steps in
    let here = none_on_the_way lays c.args.stamp.now stamp (layings pair state.laid (wanted_hop t (pair, state))) (layings_to_wanted t rest)
    (layings_to_wanted t c.args.pairs.now.entries)
    (ap (λ es. lays ++ lays_numbered stamp (layings_to_wanted t es)) (sym left) ∙ c.loop-pair.invariant.0) c.loop-pair.invariant.1 none in
    let wrong : false ≡ true = c.in_err-push_layings.ensures.none (ap (λ hop. layings pair state.laid hop) c.follow.ensures.wanted ∙ here) in
    absurd (cc)

pub returns-clause-given : goal.returns-clause-given
returns-clause-given c =
    let t = c.args.table.now in
    let stamp = c.loop-pair.stamp in
    let none : HasGivenAtMost 0 stamp stamp = record { forward = omega arith; few = omega arith } in
    given_on_the_way c.loop-pair.lays.items c.args.stamp.now stamp [] (layings_to_wanted t c.loop-pair.pair-iterator)
    (layings_to_wanted t c.args.pairs.now.entries) c.loop-pair.invariant.0 c.loop-pair.invariant.1 stamp none
