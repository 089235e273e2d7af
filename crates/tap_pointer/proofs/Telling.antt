-- Laying the pairs of Lays as these tell, of all Lays that it takes to have all pairs laid as wanted, lays all as wanted.
use Rattle.std.proofs.Common.{◌≡◌, ℕ, ◌+◌, Bool, true, false, List, [], ◌∷◌, ◌++◌, ◌==◌, length, map, drop, Option, None, Some, refl, sym, ap, ◌∙◌, inl, inr}
use Rattle.std.specs.BTreeMap.{is_at}
use Rattle.std.specs.List.{All, AllByRecursion}
use Rattle.std.specs.List.Sorted.{IsStrictlySortedBy}
use Rattle.std.specs.Map.{keys_of, lookup, set_value}
use Rattle.std.specs.Option.{unwrap_or}
use Rattle.std.specs.Ordering.{is_eq, ordering_reverse}
use Rattle.std.specs.declared.cmp.Ordering.TheVariants.{Less, Greater}
use Rattle.std.proofs.lemmas.Bool.{and_parts, cases_Bool}
use Rattle.std.proofs.lemmas.Cmp.{tied_itself}
use Rattle.std.proofs.lemmas.List.Elements.{All-append, All-head, All-nil, All-tail, All-weaker}
use Rattle.std.proofs.lemmas.Map.Keys.{sorted_head, sorted_tail}
use Rattle.tap_table.specs.Table.{TableValue}
use Rattle.tap_pointer.specs.declared.hop.Hop.{Hop}
use Rattle.tap_pointer.specs.declared.lay.Lay.{Lay}
use Rattle.tap_pointer.specs.declared.laying.Laying.{Laying}
use Rattle.tap_pointer.specs.declared.pair.Pair.{Pair}
use Rattle.tap_pointer.specs.declared.state.PairState.{PairState}
use Rattle.tap_pointer.specs.Due.{hop_due, pair_of_lay}
use Rattle.tap_pointer.specs.Pair.{pair_cmp, pair_cmp-total}
use Rattle.tap_pointer.specs.Pointers.{with_laid}
use Rattle.tap_pointer.specs.Reconcile.{hop_told, is_same_hop, is_to, laid_by, laid_by_all, lay_numbered, laying_at, layings, layings_to_wanted, lays_numbered, told_off, told_on, wanted_hop, with_wanted}
use Rattle.tap_pointer.proofs.Due.{All-lays_numbered, both_due, same_hop}
use Rattle.tap_pointer.proofs.Layings.{lays_numbered-append}

-- the pair of a Lay is changed where it is found, and nothing where it isn't
pub laid_by-found : (lay : Lay) (pairs : List (Pair × PairState)) (state : PairState)
    → lookup (is_at (pair_cmp (pair_of_lay lay))) pairs ≡ Some state
    → set_value (is_at (pair_cmp (pair_of_lay lay))) pairs (with_laid state (hop_told lay)) ≡ laid_by pairs lay
laid_by-found lay [] state found = refl
laid_by-found lay (e ∷ pairs) state found =
    elim (cases_Bool (is_at (pair_cmp (pair_of_lay lay)) e.0)) [
      | inl here ↦
          let first : Some e.1 ≡ Some state = rw here at found in
          let state_is : e.1 ≡ state = ap (λ s. unwrap_or s e.1) first in
          rw here (ap (λ s. (e.0, with_laid s (hop_told lay)) ∷ pairs) (sym state_is))
      | inr other ↦ rw other (ap (λ more. e ∷ more) (laid_by-found lay pairs state (rw other at found)))
    ]

pub laid_by-absent : (lay : Lay) (pairs : List (Pair × PairState)) → lookup (is_at (pair_cmp (pair_of_lay lay))) pairs ≡ None
    → laid_by pairs lay ≡ pairs
laid_by-absent lay [] absent = refl
laid_by-absent lay (e ∷ pairs) absent =
    elim (cases_Bool (is_at (pair_cmp (pair_of_lay lay)) e.0)) [
      | inl here ↦ let wrong : Some e.1 ≡ None = rw here at absent in absurd (cc)
      | inr other ↦ rw other (ap (λ more. e ∷ more) (laid_by-absent lay pairs (rw other at absent)))
    ]

laid_by_all-append : (first second : List Lay) (pairs : List (Pair × PairState))
    → laid_by_all pairs (first ++ second) ≡ laid_by_all (laid_by_all pairs first) second
laid_by_all-append [] second pairs = refl
laid_by_all-append (lay ∷ first) second pairs = laid_by_all-append first second (laid_by pairs lay)

-- Lays of other pairs than the first one leave it
first_kept : (e : Pair × PairState) (pairs : List (Pair × PairState)) (lays : List Lay)
    → All (λ l. is_at (pair_cmp (pair_of_lay l)) e.0 ≡ false) lays → laid_by_all (e ∷ pairs) lays ≡ e ∷ laid_by_all pairs lays
first_kept e pairs [] others = refl
first_kept e pairs (lay ∷ lays) others =
    let other : is_at (pair_cmp (pair_of_lay lay)) e.0 ≡ false =
    All-head (λ l. is_at (pair_cmp (pair_of_lay l)) e.0 ≡ false) lay lays others in
    let step : laid_by (e ∷ pairs) lay ≡ e ∷ laid_by pairs lay = rw other refl in
    ap (λ es. laid_by_all es lays) step
    ∙ first_kept e (laid_by pairs lay) lays (All-tail (λ l. is_at (pair_cmp (pair_of_lay l)) e.0 ≡ false) lay lays others)

-- the Lays of the first pair lay it as wanted
module _ (key : Pair) (pairs : List (Pair × PairState)) where
  one_told : (last : ℕ) (state : PairState) (hop : Hop) (on : Bool)
      → laid_by ((key, state) ∷ pairs) (lay_numbered last (record { pair = key; hop = hop; on = on }))
      ≡ (key, with_laid state (hop_told (lay_numbered last (record { pair = key; hop = hop; on = on })))) ∷ pairs
  one_told last state hop on = rw (tied_itself pair_cmp-total key) refl

  abbrev after_both : ℕ → PairState → Option Hop → Option Hop → List (Pair × PairState)
  after_both last state off on = laid_by_all ((key, state) ∷ pairs) (lays_numbered last (laying_at key false off ++ laying_at key true on))

  first_laid : (last : ℕ) (state : PairState) (laid wanted : Option Hop) → state.laid ≡ laid
      → after_both last state (told_off laid wanted) (told_on laid wanted) ≡ (key, with_laid state wanted) ∷ pairs
  first_laid last state None None is = ap (λ hop. (key, with_laid state hop) ∷ pairs) is
  first_laid last state None (Some hop) is = one_told (last + 1) state hop true
  first_laid last state (Some hop) None is = one_told (last + 1) state hop false
  first_laid last state (Some laid) (Some wanted) is =
      by_tests (is_to laid wanted) (is_same_hop laid wanted) refl refl
    where
      by_tests : (to same : Bool) → is_to laid wanted ≡ to → is_same_hop laid wanted ≡ same
          → after_both last state (told_off (Some laid) (Some wanted)) (told_on (Some laid) (Some wanted))
          ≡ (key, with_laid state (Some wanted)) ∷ pairs
      by_tests to true to_is same_is =
          let hops : laid ≡ wanted = same_hop laid wanted same_is in
          let wrong_off : is_to laid wanted ≡ true = (and_parts (is_to laid wanted) (laid.level == wanted.level) same_is).0 in
          let off : told_off (Some laid) (Some wanted) ≡ None = rw wrong_off refl in
          let on : told_on (Some laid) (Some wanted) ≡ None = rw same_is refl in
          ap (λ o. after_both last state o (told_on (Some laid) (Some wanted))) off ∙ ap (λ o. after_both last state None o) on
          ∙ ap (λ hop. (key, with_laid state hop) ∷ pairs) (is ∙ ap Some hops)
      by_tests true false to_is same_is =
          let off : told_off (Some laid) (Some wanted) ≡ None = rw to_is refl in
          let on : told_on (Some laid) (Some wanted) ≡ Some wanted = rw same_is refl in
          ap (λ o. after_both last state o (told_on (Some laid) (Some wanted))) off ∙ ap (λ o. after_both last state None o) on
          ∙ one_told (last + 1) state wanted true
      by_tests false false to_is same_is =
          let off : told_off (Some laid) (Some wanted) ≡ Some laid = rw to_is refl in
          let on : told_on (Some laid) (Some wanted) ≡ Some wanted = rw same_is refl in
          ap (λ o. after_both last state o (told_on (Some laid) (Some wanted))) off
          ∙ ap (λ o. after_both last state (Some laid) o) on
          ∙ ap (λ es. laid_by es (lay_numbered (last + 1 + 1) (record { pair = key; hop = wanted; on = true })))
          (one_told (last + 1) state laid false)
          ∙ one_told (last + 1 + 1) (with_laid state None) wanted true

module _ (t : TableValue) where
  -- the Lays of pairs that are above a key are of other pairs
  others_told : (key : Pair) (pairs : List (Pair × PairState)) → AllByRecursion (λ other. pair_cmp key other ≡ Less) (keys_of pairs)
      → All (λ (l : Laying). is_at (pair_cmp l.pair) key ≡ false) (layings_to_wanted t pairs)
  others_told key [] above = All-nil (λ (l : Laying). is_at (pair_cmp l.pair) key ≡ false)
  others_told key (e ∷ pairs) above =
      let order : pair_cmp e.0 key ≡ Greater = pair_cmp-total.antisymm e.0 key ∙ ap ordering_reverse above.0 in
      let apart : is_at (pair_cmp e.0) key ≡ false = ap is_eq order in
      let here = layings e.0 e.1.laid (wanted_hop t e) in
      All-append (λ (l : Laying). is_at (pair_cmp l.pair) key ≡ false) here (layings_to_wanted t pairs)
      (All-weaker (λ (l : Laying). (l.pair ≡ e.0) × (hop_due l.on e.1.laid (wanted_hop t e) ≡ Some l.hop))
      (λ (l : Laying). is_at (pair_cmp l.pair) key ≡ false)
      (λ l due. ap (λ pair. is_at (pair_cmp pair) key) due.0 ∙ apart) here (both_due e (wanted_hop t e)))
      (others_told key pairs above.1)

  pub all_laid_as_told : (last : ℕ) (pairs : List (Pair × PairState)) → IsStrictlySortedBy pair_cmp (keys_of pairs)
      → laid_by_all pairs (lays_numbered last (layings_to_wanted t pairs)) ≡ map (with_wanted t) pairs
  all_laid_as_told last [] sorted = refl
  all_laid_as_told last (e ∷ pairs) sorted =
      let here = layings e.0 e.1.laid (wanted_hop t e) in
      let later = layings_to_wanted t pairs in
      let next = last + length here in
      let others =
      All-lays_numbered (λ l. is_at (pair_cmp (pair_of_lay l)) e.0 ≡ false) (λ (l : Laying). is_at (pair_cmp l.pair) e.0 ≡ false)
      (λ version l other. other) next later (others_told e.0 pairs (sorted_head pair_cmp e.0 (keys_of pairs) sorted)) in
      ap (laid_by_all (e ∷ pairs)) (lays_numbered-append last here later)
      ∙ laid_by_all-append (lays_numbered last here) (lays_numbered next later) (e ∷ pairs)
      ∙ ap (λ es. laid_by_all es (lays_numbered next later)) (first_laid e.0 pairs last e.1 e.1.laid (wanted_hop t e) refl)
      ∙ first_kept (with_wanted t e) pairs (lays_numbered next later) others
      ∙ ap (λ more. with_wanted t e ∷ more) (all_laid_as_told next pairs (sorted_tail pair_cmp e.0 (keys_of pairs) sorted))

-- of two Lays of one pair, one after the other, the second alone counts
told_again : (first second : Lay) → pair_of_lay first ≡ pair_of_lay second → (pairs : List (Pair × PairState))
    → laid_by (laid_by pairs first) second ≡ laid_by pairs second
told_again first second same [] = refl
told_again first second same (e ∷ pairs) =
    elim (cases_Bool (is_at (pair_cmp (pair_of_lay first)) e.0)) [
      | inl here ↦
          let there : is_at (pair_cmp (pair_of_lay second)) e.0 ≡ true = ap (λ p. is_at (pair_cmp p) e.0) (sym same) ∙ here in
          rw (here, there) refl
      | inr other ↦
          let there : is_at (pair_cmp (pair_of_lay second)) e.0 ≡ false = ap (λ p. is_at (pair_cmp p) e.0) (sym same) ∙ other in
          rw (other, there) (ap (λ more. e ∷ more) (told_again first second same pairs))
    ]

pub told_twice : (lays : List Lay) (at : ℕ) (first second : Lay) → drop at lays ≡ first ∷ drop (at + 1) lays
    → drop (at + 1) lays ≡ second ∷ drop (at + 1 + 1) lays → pair_of_lay first ≡ pair_of_lay second → (pairs : List (Pair × PairState))
    → laid_by_all pairs (drop at lays) ≡ laid_by_all pairs (drop (at + 1) lays)
told_twice lays at first second here next same pairs =
    let rest = drop (at + 1 + 1) lays in
    ap (laid_by_all pairs) (here ∙ ap (λ more. first ∷ more) next)
    ∙ ap (λ es. laid_by_all es rest) (told_again first second same pairs)
    ∙ sym (ap (laid_by_all pairs) next)
