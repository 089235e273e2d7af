-- A Lay is taken of a pair, which is then laid as wanted, where each pair was laid so before.
use Rattle.std.proofs.Common.{◌≡◌, ℕ, List, [], ◌∷◌, Some, refl, sym, ap, ◌∙◌}
use Rattle.std.specs.BTreeMap.{insert_entry, is_at}
use Rattle.std.specs.Cmp.{IsTotalOrder}
use Rattle.std.specs.List.Sorted.{IsStrictlySortedBy}
use Rattle.std.specs.Map.{keys_of, lookup}
use Rattle.std.specs.declared.cmp.Ordering.{Ordering}
use Rattle.std.specs.declared.cmp.Ordering.TheVariants.{Less, Equal, Greater}
use Rattle.std.proofs.lemmas.Cmp.{tied_itself}
use Rattle.tap_table.specs.Table.{TableValue}
use Rattle.tap_pointer.specs.declared.pair.Pair.{Pair}
use Rattle.tap_pointer.specs.declared.state.PairState.{PairState}
use Rattle.tap_pointer.specs.declared.state.Pointer.{Pointer}
use Rattle.tap_pointer.specs.Pair.{pair_cmp, pair_cmp-total}
use Rattle.tap_pointer.specs.Pointers.{PointersValue, lay_applied, state_of, with_lay}
use Rattle.tap_pointer.specs.Reconcile.{AreLaid, layings, lays_numbered, reconcile_lays, reconciled, relaid, wanted_hop}
use Rattle.tap_pointer.proofs.Entries.{lookup-put, sorted-put}
use Rattle.tap_pointer.proofs.Laws.{lay_applied_lays_others}
use Rattle.tap_pointer.proofs.OnePair.{Settles, settles}

-- of two values that are put in at one key the last one stays
module _ {K X : Type 0} {R : K → K → Ordering} (total : IsTotalOrder R) (k : K) (first last : X) where
  put_twice : (es : List (K × X)) → insert_entry R (insert_entry R es k first) k last ≡ insert_entry R es k last
  put_twice [] = rw (tied_itself total k) refl
  put_twice (e ∷ es) = by_order (put_twice es) (R k e.0) refl
    where
      by_order : insert_entry R (insert_entry R es k first) k last ≡ insert_entry R es k last → (order : Ordering) → R k e.0 ≡ order
          → insert_entry R (insert_entry R (e ∷ es) k first) k last ≡ insert_entry R (e ∷ es) k last
      by_order later Less is = rw (is, tied_itself total k) refl
      by_order later Equal is = rw (is, is) refl
      by_order later Greater is = rw (is, is) (ap (λ more. e ∷ more) later)

module _ (t : TableValue) (p : PointersValue) (pair : Pair) (from : List ℕ) (version : ℕ) (pointer : Pointer)
    (sorted : IsStrictlySortedBy pair_cmp (keys_of p.pairs)) (laid : AreLaid t p) where
  abbrev taken : PairState
  taken = with_lay (state_of p pair) from version pointer

  abbrev known : List (Pair × PairState)
  known = insert_entry pair_cmp p.pairs pair taken

  found : lookup (is_at (pair_cmp pair)) known ≡ Some taken
  found = lookup-put pair_cmp-total pair taken pair p.pairs ∙ rw (tied_itself pair_cmp-total pair) refl

  settled : Settles t pair known taken
  settled =
      settles t pair known taken (sorted-put pair_cmp-total pair taken p.pairs sorted) found
      (lay_applied_lays_others t pair from version pointer p laid)

  -- the Lays are those of the pair, which alone changes
  pub relaid-lays : (last : ℕ) → reconcile_lays t last (lay_applied p pair from version pointer)
      ≡ lays_numbered last (layings pair (state_of p pair).laid (wanted_hop t (pair, with_lay (state_of p pair) from version pointer)))
  relaid-lays last = ap (lays_numbered last) settled.lays

  pub relaid-pairs : insert_entry pair_cmp p.pairs pair (relaid t pair (state_of p pair) from version pointer)
      ≡ (reconciled t (lay_applied p pair from version pointer)).pairs
  relaid-pairs =
      sym (settled.after ∙ put_twice pair_cmp-total pair taken (relaid t pair (state_of p pair) from version pointer) p.pairs)
