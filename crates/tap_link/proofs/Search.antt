-- Where a target stands in an ascending list, and what an edit there makes of the list.
use Rattle.std.proofs.Common.{◌≡◌, ℕ, ◌+◌, ◌<◌, ◌≤◌, true, false, List, [], ◌∷◌, length, filter, insert, remove, set, get_or, slice_get, None, Some, arith, zero, suc, refl, sym, ap, ◌∙◌, ◌⊎◌, inl, inr}
use Rattle.std.specs.Cmp.{IsTotalOrder}
use Rattle.std.specs.Option.{is_none}
use Rattle.std.specs.Ordering.{is_gt, is_lt, ordering_reverse}
use Rattle.std.specs.declared.cmp.Ordering.{Ordering}
use Rattle.std.specs.declared.cmp.Ordering.TheVariants.{Less, Equal, Greater}
use Rattle.std.proofs.lemmas.Bool.{cases_order}
use Rattle.tap_link.specs.declared.kind.Kind.{Kind}
use Rattle.tap_link.specs.declared.kind.Kind.TheVariants.{Pin, Settled, Leaving}
use Rattle.tap_link.specs.Entry.{LinkEntry}
use Rattle.tap_link.specs.LinkSet.{LinkSetValue, is_pinned, is_settled, is_settled_or_leaving, LinksAscend, kind_of, with_link, with_kind, without}
use Rattle.tap_link.specs.Places.{IsGapFor, StandsAt}
use Rattle.tap_link.proofs.Present.{get_or_from_got, within_from_got}

-- what two arms of a match on the kind say
pub not_pinned : (kind : Kind) → (kind ≡ Settled) ⊎ (kind ≡ Leaving) → false ≡ is_pinned (Some kind)
not_pinned kind (inl is) = rw is refl
not_pinned kind (inr is) = rw is refl

pub not_settled : (kind : Kind) → (kind ≡ Pin) ⊎ (kind ≡ Leaving) → false ≡ is_settled (Some kind)
not_settled kind (inl is) = rw is refl
not_settled kind (inr is) = rw is refl

pub settled_or_leaving : (kind : Kind) → (kind ≡ Settled) ⊎ (kind ≡ Leaving) → true ≡ is_settled_or_leaving (Some kind)
settled_or_leaving kind (inl is) = rw is refl
settled_or_leaving kind (inr is) = rw is refl

module _ {K : Type 0} where
  -- a set of this width
  abbrev pub set_of : ℕ → List (LinkEntry K) → LinkSetValue K
  set_of width links = record { width = width; links = links }

  pub entry_is : (e x : LinkEntry K) (kind : Kind) → e.target ≡ x.target → e.kind ≡ kind → e ≡ record x { kind = kind }
  entry_is e x kind target is =
      ap (λ (t : K). record { target = t; kind = e.kind }) target ∙ ap (λ (k : Kind). record { target = x.target; kind = k }) is

module _ {K : Type 0} (cmp : K → K → Ordering) where
  -- the first n targets are below this one
  abbrev pub AreBelow : List (LinkEntry K) → K → ℕ → Type 0
  AreBelow links target n = (k : ℕ) (d : LinkEntry K) → k < n → cmp target (get_or links k d).target ≡ Greater

  -- the targets from n on are above it
  abbrev pub AreAbove : List (LinkEntry K) → K → ℕ → Type 0
  AreAbove links target n =
      (k : ℕ) (d : LinkEntry K) → n ≤ k → k < length links → cmp target (get_or links k d).target ≡ Less

  -- what a search has found so far: the target goes between these two places
  pub record IsBetween (links : List (LinkEntry K)) (target : K) (low high : ℕ) : Type 0 where
    pub ordered : low ≤ high
    pub within : high ≤ length links
    pub below : AreBelow links target low
    pub above : AreAbove links target high

  below_tail : (e : LinkEntry K) (es : List (LinkEntry K)) (target : K) (n : ℕ) → AreBelow (e ∷ es) target (suc n) → AreBelow es target n
  below_tail e es target n below k d h = below (suc k) d (omega arith)

  above_tail : (e : LinkEntry K) (es : List (LinkEntry K)) (target : K) (n : ℕ) → AreAbove (e ∷ es) target (suc n) → AreAbove es target n
  above_tail e es target n above k d ge h = above (suc k) d (omega arith) (omega arith)

  all_above : (e : LinkEntry K) (es : List (LinkEntry K)) (target : K) → AreAbove (e ∷ es) target 0 → AreAbove es target 0
  all_above e es target above k d ge h = above (suc k) d (omega arith) (omega arith)

  -- a target that is below all others
  above-kind_of : (links : List (LinkEntry K)) (target : K) → AreAbove links target 0 → kind_of cmp links target ≡ None
  above-kind_of [] target above = refl
  above-kind_of (e ∷ es) target above =
      rw (above 0 e (omega arith) (omega arith)) (above-kind_of es target (all_above e es target above))

  above-filter_gt : (links : List (LinkEntry K)) (target : K) → AreAbove links target 0
      → filter (λ e. is_gt (cmp target e.target)) links ≡ []
  above-filter_gt [] target above = refl
  above-filter_gt (e ∷ es) target above =
      rw (above 0 e (omega arith) (omega arith)) (above-filter_gt es target (all_above e es target above))

  above-filter_lt : (links : List (LinkEntry K)) (target : K) → AreAbove links target 0
      → filter (λ e. is_lt (cmp target e.target)) links ≡ links
  above-filter_lt [] target above = refl
  above-filter_lt (e ∷ es) target above =
      rw (above 0 e (omega arith) (omega arith)) (ap (λ l. e ∷ l) (above-filter_lt es target (all_above e es target above)))

  pub above-without : (links : List (LinkEntry K)) (target : K) → AreAbove links target 0 → without cmp links target ≡ links
  above-without [] target above = refl
  above-without (e ∷ es) target above =
      rw (above 0 e (omega arith) (omega arith)) (ap (λ l. e ∷ l) (above-without es target (all_above e es target above)))

  pub above-with_kind : (links : List (LinkEntry K)) (target : K) (kind : Kind) → AreAbove links target 0
      → with_kind cmp links target kind ≡ links
  above-with_kind [] target kind above = refl
  above-with_kind (e ∷ es) target kind above =
      rw (above 0 e (omega arith) (omega arith)) (ap (λ l. e ∷ l) (above-with_kind es target kind (all_above e es target above)))

  -- a target that is absent
  gap-kind_of : (links : List (LinkEntry K)) (target : K) (at : ℕ) → AreBelow links target at → AreAbove links target at
      → kind_of cmp links target ≡ None
  gap-kind_of [] target at below above = refl
  gap-kind_of (e ∷ es) target zero below above = above-kind_of (e ∷ es) target above
  gap-kind_of (e ∷ es) target (suc at) below above =
      rw (below 0 e (omega arith)) (gap-kind_of es target at (below_tail e es target at below) (above_tail e es target at above))

  gap-insert : (links : List (LinkEntry K)) (target : K) (kind : Kind) (at : ℕ) → at ≤ length links → AreBelow links target at
      → AreAbove links target at → insert links at (record { target = target; kind = kind }) ≡ with_link cmp links target kind
  gap-insert [] target kind zero within below above = refl
  gap-insert [] target kind (suc at) within below above = absurd (omega arith)
  gap-insert (e ∷ es) target kind zero within below above =
      rw (above-filter_gt (e ∷ es) target above, above-filter_lt (e ∷ es) target above) refl
  gap-insert (e ∷ es) target kind (suc at) within below above =
      rw (below 0 e (omega arith))
      (ap (λ l. e ∷ l) (gap-insert es target kind at (omega arith) (below_tail e es target at below) (above_tail e es target at above)))

  -- a target that is there
  at-kind_of : (links : List (LinkEntry K)) (target : K) (at : ℕ) (d : LinkEntry K) → at < length links → AreBelow links target at
      → cmp target (get_or links at d).target ≡ Equal → kind_of cmp links target ≡ Some (get_or links at d).kind
  at-kind_of [] target at d within below here = absurd (omega arith)
  at-kind_of (e ∷ es) target zero d within below here = rw here refl
  at-kind_of (e ∷ es) target (suc at) d within below here =
      rw (below 0 e (omega arith)) (at-kind_of es target at d (omega arith) (below_tail e es target at below) here)

  at-remove : (links : List (LinkEntry K)) (target : K) (at : ℕ) (d : LinkEntry K) → at < length links → AreBelow links target at
      → cmp target (get_or links at d).target ≡ Equal → AreAbove links target (suc at) → remove links at ≡ without cmp links target
  at-remove [] target at d within below here above = absurd (omega arith)
  at-remove (e ∷ es) target zero d within below here above =
      rw here (sym (above-without es target (above_tail e es target 0 above)))
  at-remove (e ∷ es) target (suc at) d within below here above =
      rw (below 0 e (omega arith))
      (ap (λ l. e ∷ l) (at-remove es target at d (omega arith) (below_tail e es target at below) here
      (above_tail e es target (suc at) above)))

  at-set : (links : List (LinkEntry K)) (target : K) (kind : Kind) (at : ℕ) (d : LinkEntry K) → at < length links → AreBelow links target at
      → cmp target (get_or links at d).target ≡ Equal → AreAbove links target (suc at)
      → set links at (record (get_or links at d) { kind = kind }) ≡ with_kind cmp links target kind
  at-set [] target kind at d within below here above = absurd (omega arith)
  at-set (e ∷ es) target kind zero d within below here above =
      rw here (ap (λ l. record e { kind = kind } ∷ l) (sym (above-with_kind es target kind (above_tail e es target 0 above))))
  at-set (e ∷ es) target kind (suc at) d within below here above =
      rw (below 0 e (omega arith))
      (ap (λ l. e ∷ l) (at-set es target kind at d (omega arith) (below_tail e es target at below) here
      (above_tail e es target (suc at) above)))

  -- what one look at a link tells of the others: those before a lesser target, those from a greater one on, and those on both sides
  -- of an equal one
  pub below_after : IsTotalOrder cmp → (links : List (LinkEntry K)) (target : K) (at : ℕ) (x : LinkEntry K) → LinksAscend cmp links
      → slice_get links at ≡ Some x → cmp target x.target ≡ Greater → AreBelow links target (at + 1)
  below_after o links target at x ascending got greater k d h =
      let read = get_or_from_got links at x d got in
      elim (cases_order k at) [
        | inl is ↦ rw (is, read) greater
        | inr (inl lt) ↦
            let within = within_from_got links at x got in
            let before : cmp (get_or links k d).target x.target ≡ Less = rw read at (ascending k at d lt within) in
            let under : cmp x.target target ≡ Less = o.antisymm x.target target ∙ ap ordering_reverse greater in
            o.antisymm target (get_or links k d).target
            ∙ ap ordering_reverse (o.trans (get_or links k d).target x.target target before under)
        | inr (inr gt) ↦ absurd (omega arith)
      ]

  pub above_from : IsTotalOrder cmp → (links : List (LinkEntry K)) (target : K) (at : ℕ) (x : LinkEntry K) → LinksAscend cmp links
      → slice_get links at ≡ Some x → cmp target x.target ≡ Less → AreAbove links target at
  above_from o links target at x ascending got less k d ge h =
      let read = get_or_from_got links at x d got in
      elim (cases_order k at) [
        | inl is ↦ rw (is, read) less
        | inr (inl lt) ↦ absurd (omega arith)
        | inr (inr gt) ↦
            let later : cmp x.target (get_or links k d).target ≡ Less = rw read at (ascending at k d gt h) in
            o.trans target x.target (get_or links k d).target less later
      ]

  pub found_here : IsTotalOrder cmp → (links : List (LinkEntry K)) (target : K) (at : ℕ) (x : LinkEntry K) → LinksAscend cmp links
      → slice_get links at ≡ Some x → cmp target x.target ≡ Equal → StandsAt cmp links target at
  found_here o links target at x ascending got same =
      let within = within_from_got links at x got in
      record {
        within = within;
        below = λ k d lt.
            let before : cmp (get_or links k d).target x.target ≡ Less =
            rw (get_or_from_got links at x d got) at (ascending k at d lt within) in
            o.congr target x.target (get_or links k d).target same
            ∙ o.antisymm x.target (get_or links k d).target ∙ ap ordering_reverse before;
        here = λ d. rw (get_or_from_got links at x d got) same;
        above = λ k d gt h.
            let later : cmp x.target (get_or links k d).target ≡ Less = rw (get_or_from_got links at x d got) at (ascending at k d gt h) in
            o.congr target x.target (get_or links k d).target same ∙ later;
      }

  -- what an edit in the gap makes
  pub absent-kind_of : (links : List (LinkEntry K)) (target : K) (at : ℕ) → IsGapFor cmp links target at → kind_of cmp links target ≡ None
  absent-kind_of links target at gap = gap-kind_of links target at gap.below gap.above

  pub insert-with_link : (links : List (LinkEntry K)) (target : K) (at : ℕ) (x : LinkEntry K) (kind : Kind) → IsGapFor cmp links target at
      → x.target ≡ target → x.kind ≡ kind → insert links at x ≡ with_link cmp links target kind
  insert-with_link links target at x kind gap same is =
      ap (insert links at) (entry_is x (record { target = target; kind = kind }) kind same is)
      ∙ gap-insert links target kind at gap.within gap.below gap.above

  -- what an edit at the link makes
  pub found-kind_of : (links : List (LinkEntry K)) (target : K) (at : ℕ) (x : LinkEntry K) → StandsAt cmp links target at
      → slice_get links at ≡ Some x → kind_of cmp links target ≡ Some x.kind
  found-kind_of links target at x found got =
      at-kind_of links target at x found.within found.below (found.here x)
      ∙ ap (λ (e : LinkEntry K). Some e.kind) (get_or_from_got links at x x got)

  pub found-target : (links : List (LinkEntry K)) (target : K) (at : ℕ) (x : LinkEntry K) → StandsAt cmp links target at
      → slice_get links at ≡ Some x → cmp target x.target ≡ Equal
  found-target links target at x found got = rw (get_or_from_got links at x x got) at (found.here x)

  pub remove-without : (links : List (LinkEntry K)) (target : K) (at : ℕ) (x : LinkEntry K) → StandsAt cmp links target at
      → remove links at ≡ without cmp links target
  remove-without links target at x found =
      at-remove links target at x found.within found.below (found.here x) (λ k d gt h. found.above k d (omega arith) h)

  pub set-with_kind : (links : List (LinkEntry K)) (target : K) (at : ℕ) (x : LinkEntry K) (kind : Kind) → StandsAt cmp links target at
      → slice_get links at ≡ Some x → set links at (record x { kind = kind }) ≡ with_kind cmp links target kind
  set-with_kind links target at x kind found got =
      ap (λ (e : LinkEntry K). set links at (record e { kind = kind })) (sym (get_or_from_got links at x x got))
      ∙ at-set links target kind at x found.within found.below (found.here x) (λ k d gt h. found.above k d (omega arith) h)

  pub found-is_some : (links : List (LinkEntry K)) (target : K) (at : ℕ) → StandsAt cmp links target at
      → is_none (kind_of cmp links target) ≡ false
  found-is_some [] target at found = absurd (omega (arith, found.within))
  found-is_some (e ∷ es) target at found =
      ap is_none (at-kind_of (e ∷ es) target at e found.within found.below (found.here e))

  -- the kind that was read there
  pub found_as : (links : List (LinkEntry K)) (target : K) (at : ℕ) (x : LinkEntry K) (kind : Kind) → StandsAt cmp links target at
      → slice_get links at ≡ Some x → kind ≡ x.kind → kind_of cmp links target ≡ Some kind
  found_as links target at x kind found got is = found-kind_of links target at x found got ∙ ap Some (sym is)
