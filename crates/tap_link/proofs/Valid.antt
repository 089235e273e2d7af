-- Each change of a link set keeps what every link set keeps.
-- Cited above: valid-forgotten, valid-marked, valid-offered, valid-pinned, valid-released, valid-removed
use Rattle.std.proofs.Common.{◌≡◌, ◌<◌, ◌≤◌, ◌⊎◌, ℕ, Bool, true, false, List, [], ◌∷◌, length, slice_get, slice_index_or, Option, None, Some, arith, zero, suc, refl, subst, sym, ◌∙◌, inl, inr}
use Rattle.std.specs.Cmp.{IsTotalOrder}
use Rattle.std.specs.declared.cmp.Ordering.{Ordering}
use Rattle.std.specs.declared.cmp.Ordering.TheVariants.{Less, Equal, Greater}
use Rattle.std.proofs.lemmas.Bool.{ltb-true}
use Rattle.tap_link.specs.declared.kind.Kind.{Kind}
use Rattle.tap_link.specs.declared.kind.Kind.TheVariants.{Pin, Settled, Leaving}
use Rattle.tap_link.specs.Entry.{LinkEntry}
use Rattle.tap_link.specs.LinkSet.{LinksAscend, IsLinkSet, LinkSetValue, forgotten, has_room, is_settled, kind_of, marked, offered, pinned, released, removed, settled_count, with_kind, with_link, without}
use Rattle.tap_link.specs.Places.{StandsAt, IsGapFor}
use Rattle.tap_link.proofs.KeptLinks.{kept-insert, kept-remove, kept-set}
use Rattle.tap_link.proofs.Least.{ascending_tail}
use Rattle.tap_link.proofs.Search.{absent-kind_of, found-is_some, found_here, above_from, insert-with_link, remove-without, set-with_kind}

module _ {X : Type 0} where
  -- within a list there is an element
  pub got : (xs : List X) (at : ℕ) → at < length xs → (x : X) × (slice_get xs at ≡ Some x)
  got [] at within = absurd (omega arith)
  got (x ∷ xs) zero within = (x, refl)
  got (x ∷ xs) (suc at) within = got xs at (omega arith)

module _ {K : Type 0} (cmp : K → K → Ordering) where
  at_later : (e : LinkEntry K) (es : List (LinkEntry K)) (target : K) (at : ℕ) → cmp target e.target ≡ Greater
      → StandsAt cmp es target at → StandsAt cmp (e ∷ es) target (suc at)
  at_later e es target at greater found =
      record { within = omega (arith, found.within); below = below; here = found.here; above = above }
    where
      below : (k : ℕ) (d : LinkEntry K) → k < suc at → cmp target (slice_index_or (e ∷ es) k d).target ≡ Greater
      below zero d h = greater
      below (suc k) d h = found.below k d (omega arith)

      above : (k : ℕ) (d : LinkEntry K) → suc at < k → k < length (e ∷ es) → cmp target (slice_index_or (e ∷ es) k d).target ≡ Less
      above zero d gt h = absurd (omega arith)
      above (suc k) d gt h = found.above k d (omega arith) (omega arith)

  gap_later : (e : LinkEntry K) (es : List (LinkEntry K)) (target : K) (at : ℕ) → cmp target e.target ≡ Greater
      → IsGapFor cmp es target at → IsGapFor cmp (e ∷ es) target (suc at)
  gap_later e es target at greater gap =
      record { within = omega (arith, gap.within); below = below; above = above }
    where
      below : (k : ℕ) (d : LinkEntry K) → k < suc at → cmp target (slice_index_or (e ∷ es) k d).target ≡ Greater
      below zero d h = greater
      below (suc k) d h = gap.below k d (omega arith)

      above : (k : ℕ) (d : LinkEntry K) → suc at ≤ k → k < length (e ∷ es) → cmp target (slice_index_or (e ∷ es) k d).target ≡ Less
      above zero d ge h = absurd (omega arith)
      above (suc k) d ge h = gap.above k d (omega arith) (omega arith)

  -- a target stands somewhere, or would go somewhere
  abbrev pub Stands : List (LinkEntry K) → K → Type 0
  Stands links target = ((at : ℕ) × StandsAt cmp links target at) ⊎ ((at : ℕ) × IsGapFor cmp links target at)

  gap_first : IsTotalOrder cmp → (e : LinkEntry K) (es : List (LinkEntry K)) (target : K) → LinksAscend cmp (e ∷ es)
      → cmp target e.target ≡ Less → IsGapFor cmp (e ∷ es) target 0
  gap_first o e es target ascending less =
      record {
        within = omega arith;
        below = λ k d h. absurd (omega arith);
        above = above_from cmp o (e ∷ es) target 0 e ascending refl less;
      }

  stands_by : IsTotalOrder cmp → (e : LinkEntry K) (es : List (LinkEntry K)) (target : K) → LinksAscend cmp (e ∷ es)
      → (r : Ordering) → cmp target e.target ≡ r → Stands es target → Stands (e ∷ es) target
  stands_by o e es target ascending Less is later =
      inr (0, gap_first o e es target ascending is)
  stands_by o e es target ascending Equal is later =
      inl (0, found_here cmp o (e ∷ es) target 0 e ascending refl is)
  stands_by o e es target ascending Greater is later =
      elim later [
        | inl found ↦ inl (suc found.0, at_later e es target found.0 is found.1)
        | inr gap ↦ inr (suc gap.0, gap_later e es target gap.0 is gap.1)
      ]

  -- so each target does in an ascending list
  pub stands : IsTotalOrder cmp → (links : List (LinkEntry K)) (target : K) → LinksAscend cmp links → Stands links target
  stands o [] target ascending =
      inr (
        0,
        record {
          within = omega arith;
          below = λ k d h. absurd (omega arith);
          above = λ k d ge h. absurd (omega arith);
        },
      )
  stands o (e ∷ es) target ascending =
      stands_by o e es target ascending (cmp target e.target) refl (stands o es target (ascending_tail cmp e es ascending))

module _ {K : Type 0} (cmp : K → K → Ordering) (o : IsTotalOrder cmp) (set : LinkSetValue K) (target : K) (valid : IsLinkSet cmp set) where
  abbrev IsSetWith : List (LinkEntry K) → Type 0
  IsSetWith links = IsLinkSet cmp (record set { links = links })

  -- a link more to a target that has none; a settled one where there is room
  pub valid-with_link : (kind : Kind) → kind_of cmp set.links target ≡ None
      → (is_settled (Some kind) ≡ true → settled_count set.links < set.width) → IsSetWith (with_link cmp set.links target kind)
  valid-with_link kind absent room =
      let e : LinkEntry K = record { target = target; kind = kind } in
      elim (stands cmp o set.links target valid.ascending) [
        | inl found ↦
            let there = found-is_some cmp set.links target found.0 found.1 in
            let wrong : true ≡ false = rw absent at there in
            cc
        | inr gap ↦
            subst IsSetWith (insert-with_link cmp set.links target gap.0 e kind gap.1 refl refl)
            (kept-insert cmp o set e gap.0 valid gap.1 room)
      ]

  -- a link less
  pub valid-without : (kind : Kind) → kind_of cmp set.links target ≡ Some kind → IsSetWith (without cmp set.links target)
  valid-without kind linked =
      elim (stands cmp o set.links target valid.ascending) [
        | inl found ↦
            let (x, here) = got set.links found.0 found.1.within in
            subst IsSetWith (remove-without cmp set.links target found.0 x found.1) (kept-remove cmp set found.0 x valid here)
        | inr gap ↦ let wrong : None ≡ Some kind = sym (absent-kind_of cmp set.links target gap.0 gap.1) ∙ linked in cc
      ]

  -- another kind; settled where there is room
  pub valid-with_kind : (old kind : Kind) → kind_of cmp set.links target ≡ Some old
      → (is_settled (Some kind) ≡ true → settled_count set.links < set.width) → IsSetWith (with_kind cmp set.links target kind)
  valid-with_kind old kind linked room =
      elim (stands cmp o set.links target valid.ascending) [
        | inl found ↦
            let (x, here) = got set.links found.0 found.1.within in
            subst IsSetWith (set-with_kind cmp set.links target found.0 x kind found.1 here)
            (kept-set cmp set found.0 x kind valid here room)
        | inr gap ↦ let wrong : None ≡ Some old = sym (absent-kind_of cmp set.links target gap.0 gap.1) ∙ linked in cc
      ]

  after_pin : (found : Option Kind) → kind_of cmp set.links target ≡ found → IsLinkSet cmp (pinned cmp set target)
  after_pin None is = rw is (valid-with_link Pin is (λ wrong. cc))
  after_pin (Some k) is = rw is valid

  pub valid-pinned : IsLinkSet cmp (pinned cmp set target)
  valid-pinned = after_pin (kind_of cmp set.links target) refl

  after_offer : (found : Option Kind) (room : Bool) → kind_of cmp set.links target ≡ found → has_room set ≡ room
      → IsLinkSet cmp (offered cmp set target)
  after_offer None true is room = rw (is, room) (valid-with_link Settled is (λ _. ltb-true _ _ room))
  after_offer None false is room = rw (is, room) valid
  after_offer (Some k) room is room_is = rw is valid

  pub valid-offered : IsLinkSet cmp (offered cmp set target)
  valid-offered = after_offer (kind_of cmp set.links target) (has_room set) refl refl

  after_release_of : (found : Option Kind) (room : Bool) → kind_of cmp set.links target ≡ found → has_room set ≡ room
      → IsLinkSet cmp (released cmp set target)
  after_release_of None room is room_is = rw is valid
  after_release_of (Some Pin) true is room = rw (is, room) (valid-with_kind Pin Settled is (λ _. ltb-true _ _ room))
  after_release_of (Some Pin) false is room = rw (is, room) (valid-without Pin is)
  after_release_of (Some Settled) room is room_is = rw is valid
  after_release_of (Some Leaving) room is room_is = rw is valid

  pub valid-released : IsLinkSet cmp (released cmp set target)
  valid-released = after_release_of (kind_of cmp set.links target) (has_room set) refl refl

  after_forget : (found : Option Kind) → kind_of cmp set.links target ≡ found → IsLinkSet cmp (forgotten cmp set target)
  after_forget None is = rw is valid
  after_forget (Some Pin) is = rw is (valid-without Pin is)
  after_forget (Some Settled) is = rw is valid
  after_forget (Some Leaving) is = rw is valid

  pub valid-forgotten : IsLinkSet cmp (forgotten cmp set target)
  valid-forgotten = after_forget (kind_of cmp set.links target) refl

  after_mark : (found : Option Kind) → kind_of cmp set.links target ≡ found → IsLinkSet cmp (marked cmp set target)
  after_mark None is = rw is valid
  after_mark (Some Pin) is = rw is valid
  after_mark (Some Settled) is = rw is (valid-with_kind Settled Leaving is (λ wrong. cc))
  after_mark (Some Leaving) is = rw is valid

  pub valid-marked : IsLinkSet cmp (marked cmp set target)
  valid-marked = after_mark (kind_of cmp set.links target) refl

  after_removal : (found : Option Kind) → kind_of cmp set.links target ≡ found → IsLinkSet cmp (removed cmp set target)
  after_removal None is = rw is valid
  after_removal (Some Pin) is = rw is valid
  after_removal (Some Settled) is = rw is (valid-without Settled is)
  after_removal (Some Leaving) is = rw is (valid-without Leaving is)

  pub valid-removed : IsLinkSet cmp (removed cmp set target)
  valid-removed = after_removal (kind_of cmp set.links target) refl
