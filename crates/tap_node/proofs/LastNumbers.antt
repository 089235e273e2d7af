-- Numbers are left for what a node sends at the start of its departure and at its end.
use Rattle.std.proofs.Common.{◌≡◌, ◌+◌, ◌*◌, ◌≤◌, List, [], ◌∷◌, length, map, true, false, arith, refl, sym, subst, inl, inr}
use Rattle.std.proofs.lemmas.Bool.{cases_Bool}
use Rattle.tap_pointer.specs.declared.pair.Pair.{Pair}
use Rattle.tap_pointer.specs.declared.state.PairState.{PairState}
use Rattle.tap_pointer.specs.Pointers.{all_withdrawn, held_or_laid_count, is_held_or_laid, with_published}
use Rattle.tap_table.specs.Table.{rows}
use Rattle.tap_rule.specs.Leaving.{with_departure}
use Rattle.tap_rule.specs.Node.{NodeState, settings_of}
use Rattle.tap_node_common.specs.SoundNode.{AreNamedHops, IsSoundNode, PairsHaveNames, has_numbers_left}
use Rattle.tap_node_common.proofs.Pairs.{hops-all_withdrawn, named-all_withdrawn}
use Rattle.tap_node_common.proofs.NumbersLeft.{hops-sound, numbers_left}

-- a pair that isn't published any more, and held or laid, was so
still_held : (state : PairState) → is_held_or_laid (with_published state false) ≡ true → is_held_or_laid state ≡ true
still_held state after = elim (cases_Bool state.published) [ inl is ↦ rw is refl | inr is_not ↦ rw is_not after ]

-- no more pairs are held or laid once nothing is published any more
fewer_held : (pairs : List (Pair × PairState))
    → held_or_laid_count (map (λ e. (e.0, with_published e.1 false)) pairs) ≤ held_or_laid_count pairs
fewer_held [] = omega arith
fewer_held (e ∷ pairs) =
    let fewer = fewer_held pairs in
    elim (cases_Bool (is_held_or_laid (with_published e.1 false))) [
      | inl after ↦ let was = still_held e.1 after in rw (after, was) (omega (arith, fewer))
      | inr off ↦ elim (cases_Bool (is_held_or_laid e.1)) [
        | inl was ↦ rw (off, was) (omega (arith, fewer))
        | inr was_not ↦ rw (off, was_not) fewer
      ]
    ]

module _ (node : NodeState) (sound : IsSoundNode node) (room : has_numbers_left node ≡ true) where
  -- a word for each link and a Lay for each pair
  pub last_numbers : node.stamp + length (rows node.ties.table) + held_or_laid_count node.pointers.pairs ≤ 4294967295
  last_numbers =
      let left = numbers_left node room in let few = sound.few in omega (arith, left.stamp, left.pairs, few)

  -- the same once nothing is published any more, and two Lays for each pair
  pub last_withdrawn_numbers : node.stamp + length (rows node.ties.table) + held_or_laid_count (all_withdrawn node.pointers).pairs ≤ 4294967295
  last_withdrawn_numbers =
      let fewer = fewer_held node.pointers.pairs in omega (arith, last_numbers, fewer)

  pub withdrawn_numbers : node.stamp + 2 * held_or_laid_count (all_withdrawn node.pointers).pairs ≤ 4294967295
  withdrawn_numbers =
      let left = numbers_left node room in
      let fewer = fewer_held node.pointers.pairs in omega (arith, left.stamp, left.pairs, fewer)

-- what a node that starts its departure keeps of its pairs, and the numbers that it may take
pub record Departs (leaving : NodeState) : Type 0 where
  pub pairs : PairsHaveNames (settings_of leaving) leaving.pointers
  pub hops : AreNamedHops (settings_of leaving) leaving.pointers
  pub last : leaving.stamp + length (rows leaving.ties.table) + held_or_laid_count leaving.pointers.pairs ≤ 4294967295
  pub notices : leaving.stamp + 2 * held_or_laid_count leaving.pointers.pairs ≤ 4294967295

pub departs : (node leaving : NodeState) → leaving ≡ with_departure node → IsSoundNode node → has_numbers_left node ≡ true → Departs leaving
departs node leaving is sound room =
    let departure : Departs (with_departure node) = record {
      pairs = named-all_withdrawn (settings_of node) node.pointers sound.pairs;
      hops = hops-all_withdrawn (settings_of node) node.pointers (hops-sound node sound);
      last = last_withdrawn_numbers node sound room;
      notices = withdrawn_numbers node sound room;
    } in
    subst Departs (sym is) departure
