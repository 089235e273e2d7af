-- Reconciling where one pair alone may not be laid as wanted.
-- Cited above: settles
use Rattle.std.proofs.Common.{◌≡◌, false, List, [], ◌∷◌, ◌++◌, map, append-nil, Option, None, Some, refl, sym, ap, subst, ◌∙◌}
use Rattle.std.specs.BTreeMap.{insert_entry, is_at}
use Rattle.std.specs.List.{All, AllByRecursion}
use Rattle.std.specs.List.Sorted.{IsStrictlySortedBy}
use Rattle.std.specs.Map.{keys_of, lookup}
use Rattle.std.specs.Option.{unwrap_or}
use Rattle.std.specs.Ordering.{is_eq}
use Rattle.std.specs.declared.cmp.Ordering.{Ordering}
use Rattle.std.specs.declared.cmp.Ordering.TheVariants.{Less, Equal, Greater}
use Rattle.std.proofs.lemmas.List.Elements.{All-cons, All-head, All-nil, All-tail}
use Rattle.std.proofs.lemmas.Map.{NonePasses, lookup-none, none_passes_from_lookup}
use Rattle.std.proofs.lemmas.Map.Entries.{none_below_head}
use Rattle.std.proofs.lemmas.Map.Keys.{sorted_head, sorted_tail}
use Rattle.tap_table.specs.Table.{TableValue}
use Rattle.tap_pointer.specs.declared.hop.Hop.{Hop}
use Rattle.tap_pointer.specs.declared.laying.Laying.{Laying}
use Rattle.tap_pointer.specs.declared.pair.Pair.{Pair}
use Rattle.tap_pointer.specs.declared.state.PairState.{PairState}
use Rattle.tap_pointer.specs.Pair.{pair_cmp, pair_cmp-total}
use Rattle.tap_pointer.specs.Pointers.{state_among, with_laid}
use Rattle.tap_pointer.specs.Reconcile.{layings, layings_to_wanted, wanted_hop, with_wanted}
use Rattle.tap_pointer.proofs.Known.{found_state, pair_cmp-equal}
use Rattle.tap_pointer.proofs.Layings.{laid_already, none_if_laid, stays}

module _ (t : TableValue) (pair : Pair) where
  -- laid as wanted, and laid as wanted unless it is this pair
  abbrev Laid : Pair × PairState → Type 0
  Laid e = e.1.laid ≡ wanted_hop t e

  abbrev LaidUnless : Pair × PairState → Type 0
  LaidUnless e = is_at (pair_cmp pair) e.0 ≡ false → Laid e

  others_laid : (pairs : List (Pair × PairState)) → NonePasses (is_at (pair_cmp pair)) pairs → All LaidUnless pairs → All Laid pairs
  others_laid [] apart all = All-nil Laid
  others_laid (e ∷ pairs) apart all =
      All-cons Laid e pairs (All-head LaidUnless e pairs all apart.0)
      (others_laid pairs apart.1 (All-tail LaidUnless e pairs all))

  later_apart : (pairs : List (Pair × PairState)) → AllByRecursion (λ key. pair_cmp pair key ≡ Less) (keys_of pairs)
      → NonePasses (is_at (pair_cmp pair)) pairs
  later_apart [] above = tt
  later_apart (e ∷ pairs) above = (ap is_eq above.0, later_apart pairs above.1)

  -- nothing is known of the pair: each pair is laid as wanted, so no Lay is sent, and all stays
  pub laid_if_absent : (pairs : List (Pair × PairState)) → lookup (is_at (pair_cmp pair)) pairs ≡ None → All LaidUnless pairs
      → All Laid pairs
  laid_if_absent pairs absent all = others_laid pairs (none_passes_from_lookup (is_at (pair_cmp pair)) pairs absent) all

  pub none_if_absent : (pairs : List (Pair × PairState)) → lookup (is_at (pair_cmp pair)) pairs ≡ None → All LaidUnless pairs
      → (layings_to_wanted t pairs ≡ []) × (map (with_wanted t) pairs ≡ pairs)
  none_if_absent pairs absent all =
      none_if_laid t pairs (laid_if_absent pairs absent all)

  -- the pair itself is laid as wanted: each pair is
  pub laid_if_laid : (pairs : List (Pair × PairState)) (state : PairState) → IsStrictlySortedBy pair_cmp (keys_of pairs)
      → lookup (is_at (pair_cmp pair)) pairs ≡ Some state → All LaidUnless pairs → Laid (pair, state) → All Laid pairs
  laid_if_laid [] state sorted found all laid = All-nil Laid
  laid_if_laid (e ∷ pairs) state sorted found all laid =
      by_order (λ later. laid_if_laid pairs state (sorted_tail pair_cmp e.0 (keys_of pairs) sorted) later
      (All-tail LaidUnless e pairs all) laid)
      (pair_cmp pair e.0) refl
    where
      by_order : (lookup (is_at (pair_cmp pair)) pairs ≡ Some state → All Laid pairs)
          → (order : Ordering) → pair_cmp pair e.0 ≡ order → All Laid (e ∷ pairs)
      by_order later Less is =
          let none = lookup-none (is_at (pair_cmp pair)) (e ∷ pairs) (none_below_head pair_cmp-total pair e pairs sorted is) in
          let wrong : None ≡ Some state = sym none ∙ found in absurd (cc)
      by_order later Equal is =
          let same : pair ≡ e.0 = pair_cmp-equal pair e.0 is in
          let first : Some e.1 ≡ Some state = rw is at found in
          let state_is : e.1 ≡ state = ap (λ s. unwrap_or s e.1) first in
          let entry : (pair, state) ≡ e = ap (λ p. (p, state)) same ∙ ap (λ s. (e.0, s)) (sym state_is) in
          let above : AllByRecursion (λ key. pair_cmp pair key ≡ Less) (keys_of pairs) =
          subst (λ p. AllByRecursion (λ key. pair_cmp p key ≡ Less) (keys_of pairs)) (sym same)
          (sorted_head pair_cmp e.0 (keys_of pairs) sorted) in
          All-cons Laid e pairs (subst Laid entry laid)
          (others_laid pairs (later_apart pairs above) (All-tail LaidUnless e pairs all))
      by_order later Greater is =
          All-cons Laid e pairs (All-head LaidUnless e pairs all (ap is_eq is)) (later (rw is at found))

  -- what reconciling does if the pair has this state
  pub record Settles (pairs : List (Pair × PairState)) (state : PairState) : Type 0 where
    pub lays : layings_to_wanted t pairs ≡ layings pair state.laid (wanted_hop t (pair, state))
    pub after : map (with_wanted t) pairs ≡ insert_entry pair_cmp pairs pair (with_laid state (wanted_hop t (pair, state)))

  -- the Lays are those of the pair, which alone changes
  pub settles : (pairs : List (Pair × PairState)) (state : PairState) → IsStrictlySortedBy pair_cmp (keys_of pairs)
      → lookup (is_at (pair_cmp pair)) pairs ≡ Some state → All LaidUnless pairs → Settles pairs state
  settles [] state sorted found all = let wrong : None ≡ Some state = found in absurd (cc)
  settles (e ∷ pairs) state sorted found all =
      by_order (λ later. settles pairs state (sorted_tail pair_cmp e.0 (keys_of pairs) sorted) later (All-tail LaidUnless e pairs all))
      (pair_cmp pair e.0) refl
    where
      by_order : (lookup (is_at (pair_cmp pair)) pairs ≡ Some state → Settles pairs state)
          → (order : Ordering) → pair_cmp pair e.0 ≡ order → Settles (e ∷ pairs) state
      by_order later Less is =
          let none = lookup-none (is_at (pair_cmp pair)) (e ∷ pairs) (none_below_head pair_cmp-total pair e pairs sorted is) in
          let wrong : None ≡ Some state = sym none ∙ found in absurd (cc)
      by_order later Equal is =
          let same : pair ≡ e.0 = pair_cmp-equal pair e.0 is in
          let here : Some e.1 ≡ Some state = rw is at found in
          let state_is : e.1 ≡ state = ap (λ s. unwrap_or s e.1) here in
          let entry : (pair, state) ≡ e = ap (λ p. (p, state)) same ∙ ap (λ s. (e.0, s)) (sym state_is) in
          let above : AllByRecursion (λ key. pair_cmp pair key ≡ Less) (keys_of pairs) =
          subst (λ p. AllByRecursion (λ key. pair_cmp p key ≡ Less) (keys_of pairs)) (sym same)
          (sorted_head pair_cmp e.0 (keys_of pairs) sorted) in
          let others = none_if_laid t pairs (others_laid pairs (later_apart pairs above) (All-tail LaidUnless e pairs all)) in
          let laying : Pair × PairState → List Laying = λ x. layings x.0 x.1.laid (wanted_hop t x) in
          let put : insert_entry pair_cmp (e ∷ pairs) pair (with_laid state (wanted_hop t (pair, state)))
          ≡ (e.0, with_laid state (wanted_hop t (pair, state))) ∷ pairs = rw is refl in
          let first : with_wanted t e ≡ (e.0, with_laid state (wanted_hop t (pair, state))) =
          ap (λ x. (e.0, with_laid x.1 (wanted_hop t x))) (sym entry) in
          record {
            lays = ap (λ more. laying e ++ more) others.0 ∙ append-nil (laying e) ∙ ap laying (sym entry);
            after = ap (λ x. x ∷ map (with_wanted t) pairs) first
                ∙ ap (λ more. (e.0, with_laid state (wanted_hop t (pair, state))) ∷ more) others.1 ∙ sym put;
          }
      by_order later Greater is =
          let laid : Laid e = All-head LaidUnless e pairs all (ap is_eq is) in
          let rest = later (rw is at found) in
          let put : insert_entry pair_cmp (e ∷ pairs) pair (with_laid state (wanted_hop t (pair, state)))
          ≡ e ∷ insert_entry pair_cmp pairs pair (with_laid state (wanted_hop t (pair, state))) = rw is refl in
          record {
            lays = ap (λ first. first ++ layings_to_wanted t pairs) (laid_already t e laid) ∙ rest.lays;
            after = ap (λ first. first ∷ map (with_wanted t) pairs) (stays t e laid) ∙ ap (λ more. e ∷ more) rest.after ∙ sym put;
          }

  -- so laying the pair where it is wanted lays all as wanted
  pub laid_as_wanted : (pairs : List (Pair × PairState)) (state : PairState) (hop : Option Hop)
      → IsStrictlySortedBy pair_cmp (keys_of pairs) → lookup (is_at (pair_cmp pair)) pairs ≡ Some state → All LaidUnless pairs
      → hop ≡ wanted_hop t (pair, state)
      → insert_entry pair_cmp pairs pair (with_laid (state_among pairs pair) hop) ≡ map (with_wanted t) pairs
  laid_as_wanted pairs state hop sorted found all is =
      ap (λ s. insert_entry pair_cmp pairs pair (with_laid s hop)) (found_state pairs pair sorted state found)
      ∙ ap (λ h. insert_entry pair_cmp pairs pair (with_laid state h)) is
      ∙ sym (settles pairs state sorted found all).after
