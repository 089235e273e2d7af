-- Edits that keep a link set ascending and within its width.
use Rattle.std.proofs.Common.{◌≡◌, ℕ, ◌+◌, ◌-◌, ◌<◌, ◌≤◌, Bool, true, false, cond, List, insert, remove, set, get_or, slice_get, Some, arith, refl, ap, ◌∙◌, inl, inr}
use Rattle.std.specs.Cmp.{IsTotalOrder}
use Rattle.std.specs.Ordering.{ordering_reverse}
use Rattle.std.specs.declared.cmp.Ordering.{Ordering}
use Rattle.std.proofs.lemmas.Bool.{cases_order, cases_eq}
use Rattle.std.proofs.lemmas.List.{length-set, get_or-set_same, get_or-set_other}
use Rattle.std.proofs.lemmas.List.Sums.{get_or-le-sum_by, sum_by-insert, sum_by-set, sum_by-remove}
use Rattle.std.proofs.lemmas.List.Edits.{length-insert, get_or-insert_at, get_or-insert_below, get_or-insert_above}
use Rattle.std.proofs.lemmas.List.Quantifiers.{all_pairs_remove}
use Rattle.tap_link.specs.declared.kind.Kind.{Kind}
use Rattle.tap_link.specs.declared.kind.Kind.TheVariants.{Leaving, Pin}
use Rattle.std.specs.declared.cmp.Ordering.TheVariants.{Less}
use Rattle.tap_link.specs.Entry.{LinkEntry}
use Rattle.tap_link.specs.LinkSet.{LinkSetValue, LinksAscend, IsCounted, IsLinkSet, settled_count, is_settled}
use Rattle.tap_link.specs.Places.{IsGapFor}
use Rattle.tap_link.proofs.Present.{get_or_from_got, within_from_got}

-- a link that is settled and not leaving counts as one, and others as none
module _ {K : Type 0} (e : LinkEntry K) where
  pub counted_link : is_settled (Some e.kind) ≡ true → cond {A = ℕ} (is_settled (Some e.kind)) 1 0 ≡ 1
  counted_link settled = rw settled refl

  pub uncounted_pin : e.kind ≡ Pin → cond {A = ℕ} (is_settled (Some e.kind)) 1 0 ≡ 0
  uncounted_pin pin = rw pin refl

  pub uncounted_leaving : e.kind ≡ Leaving → cond {A = ℕ} (is_settled (Some e.kind)) 1 0 ≡ 0
  uncounted_leaving leaving = rw leaving refl

module _ {K : Type 0} (cmp : K → K → Ordering) where
  -- a link more, in its gap
  ascending-insert : IsTotalOrder cmp → (links : List (LinkEntry K)) (e : LinkEntry K) (at : ℕ) → LinksAscend cmp links
      → IsGapFor cmp links e.target at → LinksAscend cmp (insert links at e)
  ascending-insert o links e at ascending gap i j d lt inside =
      let len = length-insert links at e gap.within in
      elim (cases_order j at) [
        | inl is ↦
            rw (is, get_or-insert_at links at e d gap.within, get_or-insert_below links at e d i (omega arith) gap.within)
            (o.antisymm (get_or links i d).target e.target ∙ ap ordering_reverse (gap.below i d (omega arith)))
        | inr (inl below) ↦
            rw (get_or-insert_below links at e d i (omega arith) gap.within, get_or-insert_below links at e d j below gap.within)
            (ascending i j d lt (omega (arith, gap.within)))
        | inr (inr above) ↦
            let later = get_or-insert_above links at e d (j - 1) (omega arith) gap.within in
            let j_is : (j - 1) + 1 ≡ j = omega arith in
            let right : get_or (insert links at e) j d ≡ get_or links (j - 1) d = rw j_is at later in
            rw right (elim (cases_order i at) [
              | inl is ↦ rw (is, get_or-insert_at links at e d gap.within) (gap.above (j - 1) d (omega arith) (omega arith))
              | inr (inl before) ↦
                  rw (get_or-insert_below links at e d i before gap.within) (ascending i (j - 1) d (omega arith) (omega arith))
              | inr (inr behind) ↦
                  let i_is : (i - 1) + 1 ≡ i = omega arith in
                  let left : get_or (insert links at e) i d ≡ get_or links (i - 1) d =
                  rw i_is at (get_or-insert_above links at e d (i - 1) (omega arith) gap.within) in
                  rw left (ascending (i - 1) (j - 1) d (omega arith) (omega arith))
            ])
      ]

  -- another link to the same target
  ascending-set : (links : List (LinkEntry K)) (at : ℕ) (e x : LinkEntry K) → LinksAscend cmp links → slice_get links at ≡ Some x
      → e.target ≡ x.target → LinksAscend cmp (set links at e)
  ascending-set links at e x ascending got same i j d lt inside =
      let len = length-set links at e in
      let within = within_from_got links at x got in
      let here : e.target ≡ (get_or links at d).target = rw (get_or_from_got links at x d got) same in
      let target_at : (k : ℕ) → (get_or (set links at e) k d).target ≡ (get_or links k d).target = λ k.
      elim (cases_eq k at) [
        | inl is ↦ rw (is, get_or-set_same) here
        | inr ne ↦ rw get_or-set_other refl
      ] in
      rw (target_at i, target_at j) (ascending i j d lt (omega arith))

  -- a settled link more where there is room for one, or any other link
  fits : (settled : Bool) (count width : ℕ) → count ≤ width → (settled ≡ true → count < width) → cond settled 1 0 + count ≤ width
  fits true count width within room = let lt : count < width = room refl in omega arith
  fits false count width within room = omega arith

  pub kept-insert : IsTotalOrder cmp → (s : LinkSetValue K) (e : LinkEntry K) (at : ℕ) → IsLinkSet cmp s → IsGapFor cmp s.links e.target at
      → (is_settled (Some e.kind) ≡ true → settled_count s.links < s.width) → IsLinkSet cmp (record s { links = insert s.links at e })
  kept-insert o s e at kept gap room =
      let fit = fits (is_settled (Some e.kind)) (settled_count s.links) s.width kept.within_width room in
      record {
        ascending = ascending-insert o s.links e at kept.ascending gap;
        within_width = omega (arith, sum_by-insert (λ f. cond (is_settled (Some f.kind)) 1 0) s.links at e);
      }

  pub kept-remove : (s : LinkSetValue K) (at : ℕ) (x : LinkEntry K) → IsLinkSet cmp s → slice_get s.links at ≡ Some x
      → IsLinkSet cmp (record s { links = remove s.links at })
  kept-remove s at x kept got =
      let within = within_from_got s.links at x got in
      record {
        ascending = all_pairs_remove (λ e f. cmp e.target f.target ≡ Less) s.links at within kept.ascending;
        within_width = omega (arith, kept.within_width, sum_by-remove (λ f. cond (is_settled (Some f.kind)) 1 0) s.links at x within);
      }

  pub kept-set : (s : LinkSetValue K) (at : ℕ) (x : LinkEntry K) (kind : Kind) → IsLinkSet cmp s → slice_get s.links at ≡ Some x
      → (is_settled (Some kind) ≡ true → settled_count s.links < s.width)
      → IsLinkSet cmp (record s { links = set s.links at (record x { kind = kind }) })
  kept-set s at x kind kept got room =
      let within = within_from_got s.links at x got in
      let fit = fits (is_settled (Some kind)) (settled_count s.links) s.width kept.within_width room in
      record {
        ascending = ascending-set s.links at (record x { kind = kind }) x kept.ascending got refl;
        within_width = omega (arith, sum_by-set (λ f. cond (is_settled (Some f.kind)) 1 0) s.links at (record x { kind = kind }) x within);
      }

  -- the same with the count
  pub counted-insert : IsTotalOrder cmp → (s : LinkSetValue K) (e : LinkEntry K) (at count now : ℕ) → IsCounted cmp s count
      → IsGapFor cmp s.links e.target at → (is_settled (Some e.kind) ≡ true → settled_count s.links < s.width)
      → now ≡ cond {A = ℕ} (is_settled (Some e.kind)) 1 0 + count → IsCounted cmp (record s { links = insert s.links at e }) now
  counted-insert o s e at count now kept gap room is =
      record {
        valid = kept-insert o s e at kept.valid gap room;
        count = omega (arith, kept.count, is, sum_by-insert (λ f. cond (is_settled (Some f.kind)) 1 0) s.links at e);
      }

  pub counted-remove : (s : LinkSetValue K) (at count now : ℕ) (x : LinkEntry K) → IsCounted cmp s count → slice_get s.links at ≡ Some x
      → now + cond {A = ℕ} (is_settled (Some x.kind)) 1 0 ≡ count → IsCounted cmp (record s { links = remove s.links at }) now
  counted-remove s at count now x kept got is =
      let within = within_from_got s.links at x got in
      let here = ap (λ (f : LinkEntry K). cond {A = ℕ} (is_settled (Some f.kind)) 1 0) (get_or_from_got s.links at x x got) in
      record {
        valid = kept-remove s at x kept.valid got;
        count = omega (arith, kept.count, is, here, sum_by-remove (λ f. cond (is_settled (Some f.kind)) 1 0) s.links at x within);
      }

  pub counted-set : (s : LinkSetValue K) (at count now : ℕ) (x : LinkEntry K) (kind : Kind) → IsCounted cmp s count
      → slice_get s.links at ≡ Some x → (is_settled (Some kind) ≡ true → settled_count s.links < s.width)
      → now + cond {A = ℕ} (is_settled (Some x.kind)) 1 0 ≡ cond {A = ℕ} (is_settled (Some kind)) 1 0 + count
      → IsCounted cmp (record s { links = set s.links at (record x { kind = kind }) }) now
  counted-set s at count now x kind kept got room is =
      let within = within_from_got s.links at x got in
      let here = ap (λ (f : LinkEntry K). cond {A = ℕ} (is_settled (Some f.kind)) 1 0) (get_or_from_got s.links at x x got) in
      record {
        valid = kept-set s at x kind kept.valid got room;
        count = omega (
          arith,
          kept.count,
          is,
          here,
          sum_by-set (λ f. cond (is_settled (Some f.kind)) 1 0) s.links at (record x { kind = kind }) x within,
        );
      }

  -- a link that is settled and not leaving is counted
  pub one_counted : (s : LinkSetValue K) (at count : ℕ) (x : LinkEntry K) → IsCounted cmp s count → slice_get s.links at ≡ Some x
      → is_settled (Some x.kind) ≡ true → 1 ≤ count
  one_counted s at count x kept got settled =
      let within = within_from_got s.links at x got in
      let here = ap (λ (f : LinkEntry K). cond {A = ℕ} (is_settled (Some f.kind)) 1 0) (get_or_from_got s.links at x x got) in
      omega (arith, kept.count, here, counted_link x settled, get_or-le-sum_by (λ (f : LinkEntry K). cond {A = ℕ} (is_settled (Some f.kind)) 1 0) s.links at x within)
