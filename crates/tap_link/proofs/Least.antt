-- The least settled link.
-- Cited above: ascending_tail, least_settled_is, never_settled
use Rattle.std.proofs.Common.{◌≡◌, ◌≢◌, ℕ, ◌+◌, ◌<◌, nat_lt, Option, is_some, true, false, cond, List, [], ◌∷◌, length, drop, get_or, slice_get, None, Some, arith, suc, refl, sym, ap, ◌∙◌, inl, inr}
use Rattle.std.specs.Cmp.{IsTotalOrder}
use Rattle.std.specs.Ordering.{is_eq, ordering_reverse}
use Rattle.std.specs.declared.cmp.Ordering.{Ordering}
use Rattle.std.specs.declared.cmp.Ordering.TheVariants.{Less, Equal, Greater}
use Rattle.std.proofs.lemmas.Bool.{cases_Bool, lt-ltb}
use Rattle.std.proofs.lemmas.Cmp.{tied_itself, alike_right}
use Rattle.std.proofs.lemmas.List.{at_drop_more}
use Rattle.std.proofs.lemmas.List.Sums.{sum_by-cons}
use Rattle.tap_link.specs.declared.kind.Kind.{Kind}
use Rattle.tap_link.specs.declared.kind.Kind.TheVariants.{Pin, Settled, Leaving}
use Rattle.tap_link.specs.Entry.{LinkEntry}
use Rattle.tap_link.specs.LinkSet.{LinksAscend, IsLeastSettled, kind_of, is_settled, settled_count, least_settled}
use Rattle.tap_link.proofs.Present.{get_or_from_got, within_from_got}

is_settled_is : (kind : Kind) → is_settled (Some kind) ≡ true → kind ≡ Settled
is_settled_is Pin is = cc
is_settled_is Settled is = refl
is_settled_is Leaving is = cc

-- an ordering by its test for equality
pub tied_is : (o : Ordering) → is_eq o ≡ true → o ≡ Equal
tied_is Less tied = cc
tied_is Equal tied = refl
tied_is Greater tied = cc

module _ {K : Type 0} where
  -- the steps of a loop over the links
  least_settled-drop : (links : List (LinkEntry K)) (at : ℕ) (x : LinkEntry K) → slice_get links at ≡ Some x
      → least_settled (drop at links) ≡ least_settled (x ∷ drop (at + 1) links)
  least_settled-drop links at x got =
      at_drop_more least_settled links at x (within_from_got links at x got)
      ∙ ap (λ (e : LinkEntry K). least_settled (e ∷ drop (at + 1) links)) (get_or_from_got links at x x got)

  pub least_settled-drop_other : (links : List (LinkEntry K)) (at : ℕ) (x : LinkEntry K) → slice_get links at ≡ Some x
      → is_settled (Some x.kind) ≡ false → least_settled (drop at links) ≡ least_settled (drop (at + 1) links)
  least_settled-drop_other links at x got other = least_settled-drop links at x got ∙ rw other refl

  pub least_settled-drop_settled : (links : List (LinkEntry K)) (at : ℕ) (x : LinkEntry K) → slice_get links at ≡ Some x
      → is_settled (Some x.kind) ≡ true → least_settled (drop at links) ≡ Some x.target
  least_settled-drop_settled links at x got settled = least_settled-drop links at x got ∙ rw settled refl

  settled_count-cons : (e : LinkEntry K) (es : List (LinkEntry K))
      → settled_count (e ∷ es) ≡ cond {A = ℕ} (is_settled (Some e.kind)) 1 0 + settled_count es
  settled_count-cons e es = sum_by-cons (λ f. cond (is_settled (Some f.kind)) 1 0) e es

  -- there is a least settled link exactly where some link is settled and not leaving
  pub counted_some : (links : List (LinkEntry K)) (target : K) → least_settled links ≡ Some target → 0 < settled_count links
  counted_some [] target some = cc
  counted_some (e ∷ es) target some =
      elim (cases_Bool (is_settled (Some e.kind))) [
        | inl is ↦ rw (settled_count-cons e es, is) (omega arith)
        | inr is ↦
            let rest : least_settled es ≡ Some target = rw is at some in
            rw (settled_count-cons e es, is) (omega (arith, counted_some es target rest))
      ]

  pub counted_none : (links : List (LinkEntry K)) → least_settled links ≡ None → settled_count links ≡ 0
  counted_none [] none = refl
  counted_none (e ∷ es) none =
      elim (cases_Bool (is_settled (Some e.kind))) [
        | inl is ↦ let wrong : Some e.target ≡ None = rw is at none in cc
        | inr is ↦
            let rest : least_settled es ≡ None = rw is at none in
            rw (settled_count-cons e es, is) (omega (arith, counted_none es rest))
      ]

  -- there is a least one exactly if some are counted
  pub some_counted : (links : List (LinkEntry K)) (count : ℕ) → count ≡ settled_count links → nat_lt 0 count ≡ is_some (least_settled links)
  some_counted links count is = go (least_settled links) refl
    where
      go : (least : Option K) → least_settled links ≡ least → nat_lt 0 count ≡ is_some (least_settled links)
      go None none = let zero : count ≡ 0 = is ∙ counted_none links none in rw (none, zero) refl
      go (Some target) some =
          let above : 0 < count = omega (arith, is, counted_some links target some) in
          rw some (lt-ltb 0 count above)

module _ {K : Type 0} (cmp : K → K → Ordering) where
  -- the target is below each of these
  abbrev IsBelowAll : K → List (LinkEntry K) → Type 0
  IsBelowAll target links = (k : ℕ) (d : LinkEntry K) → k < length links → cmp target (get_or links k d).target ≡ Less

  below_rest : (e : LinkEntry K) (es : List (LinkEntry K)) → LinksAscend cmp (e ∷ es) → IsBelowAll e.target es
  below_rest e es ascending k d h = ascending 0 (suc k) d (omega arith) (omega arith)

  below_tail : (target : K) (e : LinkEntry K) (es : List (LinkEntry K)) → IsBelowAll target (e ∷ es) → IsBelowAll target es
  below_tail target e es below k d h = below (suc k) d (omega arith)

  pub ascending_tail : (e : LinkEntry K) (es : List (LinkEntry K)) → LinksAscend cmp (e ∷ es) → LinksAscend cmp es
  ascending_tail e es ascending i j d lt h = ascending (suc i) (suc j) d (omega arith) (omega arith)

  -- what is below all links is below the least settled one
  below_least : (below : K) (links : List (LinkEntry K)) (target : K) → IsBelowAll below links → least_settled links ≡ Some target
      → cmp below target ≡ Less
  below_least below [] target all some = cc
  below_least below (e ∷ es) target all some =
      elim (cases_Bool (is_settled (Some e.kind))) [
        | inl is ↦
            let found : Some e.target ≡ Some target = rw is at some in
            let same : e.target ≡ target = cc in
            rw (← same) (all 0 e (omega arith))
        | inr is ↦
            let rest : least_settled es ≡ Some target = rw is at some in
            below_least below es target (below_tail below e es all) rest
      ]

  -- and below each target that is linked to
  below_linked : IsTotalOrder cmp → (below : K) (links : List (LinkEntry K)) (target : K) (kind : Kind) → IsBelowAll below links
      → kind_of cmp links target ≡ Some kind → cmp below target ≡ Less
  below_linked o below [] target kind all some = cc
  below_linked o below (e ∷ es) target kind all some =
      elim (cases_Bool (is_eq (cmp target e.target))) [
        | inl is ↦ alike_right o target e.target below (tied_is (cmp target e.target) is) ∙ all 0 e (omega arith)
        | inr is ↦
            let rest : kind_of cmp es target ≡ Some kind = rw is at some in
            below_linked o below es target kind (below_tail below e es all) rest
      ]

  -- the first settled link of an ascending list is the least one
  pub least_settled_is : IsTotalOrder cmp → (links : List (LinkEntry K)) (target : K) → LinksAscend cmp links
      → least_settled links ≡ Some target → IsLeastSettled cmp links target
  least_settled_is o [] target ascending some = cc
  least_settled_is o (e ∷ es) target ascending some =
      let below = below_rest e es ascending in
      elim (cases_Bool (is_settled (Some e.kind))) [
        | inl is ↦
            let found : Some e.target ≡ Some target = rw is at some in
            let same : e.target ≡ target = cc in
            rw (← same) (record {
              settled = rw (tied_itself o e.target) (ap Some (is_settled_is e.kind is));
              least = λ other settled less.
                  let rest : kind_of cmp es other ≡ Some Settled = rw less at settled in
                  let wrong : Less ≡ Greater =
                  sym (below_linked o e.target es other Settled below rest) ∙ o.antisymm e.target other ∙ ap ordering_reverse less in
                  cc;
            })
        | inr is ↦
            let rest : least_settled es ≡ Some target = rw is at some in
            let ih = least_settled_is o es target (ascending_tail e es ascending) rest in
            let above : cmp target e.target ≡ Greater =
            o.antisymm target e.target ∙ ap ordering_reverse (below_least e.target es target below rest) in
            record {
              settled = rw above ih.settled;
              least = λ other settled less.
                  elim (cases_Bool (is_eq (cmp other e.target))) [
                    | inl tied ↦
                        let kind : Some e.kind ≡ Some Settled = rw tied at settled in
                        let wrong : is_settled (Some e.kind) ≡ true = ap is_settled kind in
                        cc
                    | inr apart ↦
                        let linked : kind_of cmp es other ≡ Some Settled = rw apart at settled in
                        ih.least other linked less
                  ];
            }
      ]

  -- where there is no least settled link, no target is settled
  pub never_settled : (links : List (LinkEntry K)) (target : K) → least_settled links ≡ None → kind_of cmp links target ≢ Some Settled
  never_settled [] target none settled = cc
  never_settled (e ∷ es) target none settled =
      elim (cases_Bool (is_settled (Some e.kind))) [
        | inl is ↦ let wrong : Some e.target ≡ None = rw is at none in cc
        | inr is ↦
            let rest : least_settled es ≡ None = rw is at none in
            elim (cases_Bool (is_eq (cmp target e.target))) [
              | inl tied ↦
                  let kind : Some e.kind ≡ Some Settled = rw tied at settled in
                  let wrong : is_settled (Some e.kind) ≡ true = ap is_settled kind in
                  cc
              | inr apart ↦
                  let linked : kind_of cmp es target ≡ Some Settled = rw apart at settled in
                  never_settled es target rest linked
            ]
      ]
