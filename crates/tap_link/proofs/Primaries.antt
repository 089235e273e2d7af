-- What each change of a link set makes of its primary, the least settled link. The order of targets tells each from all others.
-- Cited above: least_settled-forgotten, least_settled-marked, least_settled-marked_other, least_settled-offered, least_settled-pinned,
-- least_settled-released, least_settled-removed, least_settled-removed_other, lesser_of, TellsApart
use Rattle.std.proofs.Common.{◌≡◌, ◌≢◌, ◌&&◌, ◌↔◌, ◌⊎◌, Bool, true, false, List, Option, None, Some, refl, sym, ap, ◌∙◌, inl, inr, if◌then◌else◌}
use Rattle.std.specs.Cmp.{IsTotalOrder}
use Rattle.std.specs.Option.{is_none}
use Rattle.std.specs.Ordering.{is_eq, is_lt, ordering_reverse}
use Rattle.std.specs.declared.cmp.Ordering.{Ordering}
use Rattle.std.specs.declared.cmp.Ordering.TheVariants.{Less, Equal, Greater}
use Rattle.std.specs.Option.{option_map}
use Rattle.std.proofs.lemmas.Bool.{cases_Bool, ltb-true}
use Rattle.std.proofs.lemmas.Cmp.{alike_right, tied_itself}
use Rattle.tap_link.specs.declared.kind.Kind.{Kind}
use Rattle.tap_link.specs.declared.kind.Kind.TheVariants.{Pin, Settled, Leaving}
use Rattle.tap_link.specs.Entry.{LinkEntry}
use Rattle.tap_link.specs.LinkSet.{LinksAscend, IsLeastSettled, IsLinkSet, LinkSetValue, forgotten, has_room, is_pinned, kind_of, least_settled, marked, offered, pinned, released, removed, with_kind, with_link, without}
use Rattle.tap_link.proofs.Least.{least_settled_is, never_settled, tied_is}
use Rattle.tap_link.proofs.LookUps.{kind_of-with_kind, kind_of-with_link, kind_of-without}
use Rattle.tap_link.proofs.TargetKinds.{by_rule, kind_forgotten, kind_marked, kind_of-marked, kind_of-pinned, kind_of-removed, kind_pinned, kind_removed}
use Rattle.tap_link.proofs.Valid.{valid-with_kind, valid-with_link, valid-without, valid-marked, valid-pinned, valid-removed}

module _ {K : Type 0} (cmp : K → K → Ordering) where
  -- no two targets are equal in their order
  abbrev pub TellsApart : Type 0
  TellsApart = (a b : K) → cmp a b ≡ Equal → a ≡ b

  -- the target, or a primary that is below it
  abbrev pub lesser_of : Option K → K → Option K
  lesser_of None target = Some target
  lesser_of (Some primary) target = if is_lt (cmp primary target) then Some primary else Some target

  -- the same targets are settled and not leaving
  abbrev pub SameSettled : List (LinkEntry K) → List (LinkEntry K) → Type 0
  SameSettled links others = (t : K) → (kind_of cmp links t ≡ Some Settled) ↔ (kind_of cmp others t ≡ Some Settled)

module _ {K : Type 0} (cmp : K → K → Ordering) (o : IsTotalOrder cmp) (apart : TellsApart cmp) where
  neither_less : (a b : K) (r : Ordering) → cmp a b ≡ r → cmp a b ≢ Less → cmp b a ≢ Less → a ≡ b
  neither_less a b Less is not_less not_greater = absurd (not_less is)
  neither_less a b Equal is not_less not_greater = apart a b is
  neither_less a b Greater is not_less not_greater = absurd (not_greater (o.antisymm b a ∙ ap ordering_reverse is))

  -- a set has one least settled link
  pub least_settled-from : (links : List (LinkEntry K)) (target : K) → LinksAscend cmp links → IsLeastSettled cmp links target
      → least_settled links ≡ Some target
  least_settled-from links target ascending least = by_found (least_settled links) refl
    where
      by_found : (found : Option K) → least_settled links ≡ found → least_settled links ≡ Some target
      by_found None is = absurd (never_settled cmp links target is least.settled)
      by_found (Some first) is =
          let found = least_settled_is cmp o links first ascending is in
          let not_above = found.least target least.settled in
          is ∙ ap Some (neither_less first target (cmp first target) refl (least.least first found.settled) not_above)

  -- it is told by which targets are settled
  pub least_settled-same : (links others : List (LinkEntry K)) → LinksAscend cmp links → LinksAscend cmp others
      → SameSettled cmp links others → least_settled links ≡ least_settled others
  least_settled-same links others ascending ascending' same = by_found (least_settled others) refl
    where
      by_found : (found : Option K) → least_settled others ≡ found → least_settled links ≡ least_settled others
      by_found None none = by_none (least_settled links) refl none
        where
          by_none : (found : Option K) → least_settled links ≡ found → least_settled others ≡ None
              → least_settled links ≡ least_settled others
          by_none None is none = is ∙ sym none
          by_none (Some first) is none =
              let found = least_settled_is cmp o links first ascending is in
              absurd (never_settled cmp others first none ((same first).0 found.settled))
      by_found (Some first) is =
          let found = least_settled_is cmp o others first ascending' is in
          least_settled-from links first ascending (record {
            settled = (same first).1 found.settled;
            least = λ other settled. found.least other ((same other).0 settled);
          }) ∙ sym is

  -- a rule for the kind of one target that doesn't change which targets are settled
  same_by_rule : (tied : Bool) (rule : Option Kind → Option Kind) (found : Option Kind)
      → ((kind : Option Kind) → (rule kind ≡ Some Settled) ↔ (kind ≡ Some Settled))
      → ((if tied then rule found else found) ≡ Some Settled) ↔ (found ≡ Some Settled)
  same_by_rule true rule found keeps = keeps found
  same_by_rule false rule found keeps = ((λ is. is), (λ is. is))

  pinned_settled : (kind : Option Kind) → (kind_pinned kind ≡ Some Settled) ↔ (kind ≡ Some Settled)
  pinned_settled None = ((λ is. cc), (λ is. cc))
  pinned_settled (Some kind) = ((λ is. is), (λ is. is))

  forgotten_settled : (kind : Option Kind) → (kind_forgotten kind ≡ Some Settled) ↔ (kind ≡ Some Settled)
  forgotten_settled None = ((λ is. is), (λ is. is))
  forgotten_settled (Some Pin) = ((λ is. cc), (λ is. cc))
  forgotten_settled (Some Settled) = ((λ is. is), (λ is. is))
  forgotten_settled (Some Leaving) = ((λ is. is), (λ is. is))

  -- the target is now settled, and the others are as they were
  abbrev pub AddsSettled : List (LinkEntry K) → List (LinkEntry K) → K → Type 0
  AddsSettled links new target =
      (t : K) → kind_of cmp new t ≡ (if is_eq (cmp t target) then Some Settled else kind_of cmp links t)

  added_here : (links new : List (LinkEntry K)) (target : K) → AddsSettled links new target → kind_of cmp new target ≡ Some Settled
  added_here links new target adds = adds target ∙ rw (tied_itself o target) refl

  -- whom a list names as settled after the target was added: it, or one that was
  from_added : (links new : List (LinkEntry K)) (target other : K) → AddsSettled links new target → kind_of cmp new other ≡ Some Settled
      → (cmp other target ≡ Equal) ⊎ (kind_of cmp links other ≡ Some Settled)
  from_added links new target other adds settled =
      elim (cases_Bool (is_eq (cmp other target))) [
        | inl tied ↦ inl (tied_is (cmp other target) tied)
        | inr differ ↦ let as_before : kind_of cmp new other ≡ kind_of cmp links other = adds other ∙ rw differ refl in
            inr (sym as_before ∙ settled)
      ]

  -- the new least one is the target, where nothing that was settled is below it
  least_added : (links new : List (LinkEntry K)) (target : K) → LinksAscend cmp new → AddsSettled links new target
      → ((other : K) → kind_of cmp links other ≡ Some Settled → cmp other target ≢ Less) → least_settled new ≡ Some target
  least_added links new target ascending adds above =
      least_settled-from new target ascending (record {
        settled = added_here links new target adds;
        least = λ other settled less.
            elim (from_added links new target other adds settled) [
              | inl tied ↦ let wrong : Less ≡ Equal = sym less ∙ tied in cc
              | inr was ↦ above other was less
            ];
      })

  -- and the least one stays where it is below the target
  least_stays : (links new : List (LinkEntry K)) (target first : K) → LinksAscend cmp new → AddsSettled links new target
      → IsLeastSettled cmp links first → cmp first target ≡ Less → least_settled new ≡ Some first
  least_stays links new target first ascending adds found below =
      let above : cmp target first ≡ Greater = o.antisymm target first ∙ ap ordering_reverse below in
      least_settled-from new first ascending (record {
        settled = adds first ∙ rw below found.settled;
        least = λ other settled less.
            elim (from_added links new target other adds settled) [
              | inl tied ↦ let wrong : Less ≡ Greater = sym less ∙ o.congr other target first tied ∙ above in cc
              | inr was ↦ found.least other was less
            ];
      })

  not_below : (links : List (LinkEntry K)) (target first : K) (r : Ordering) → cmp first target ≡ r → r ≢ Less → IsLeastSettled cmp links first
      → (other : K) → kind_of cmp links other ≡ Some Settled → cmp other target ≢ Less
  not_below links target first Less is not_less found other settled less = not_less refl
  not_below links target first Equal is not_less found other settled less =
      found.least other settled (alike_right o first target other is ∙ less)
  not_below links target first Greater is not_less found other settled less =
      let below : cmp target first ≡ Less = o.antisymm target first ∙ ap ordering_reverse is in
      found.least other settled (o.trans other target first less below)

  added_by : (links new : List (LinkEntry K)) (target first : K) (r : Ordering) → cmp first target ≡ r → LinksAscend cmp new
      → AddsSettled links new target → IsLeastSettled cmp links first
      → least_settled new ≡ (if is_lt (cmp first target) then Some first else Some target)
  added_by links new target first Less is ascending adds found = rw is (least_stays links new target first ascending adds found is)
  added_by links new target first Equal is ascending adds found =
      rw is (least_added links new target ascending adds (not_below links target first Equal is (λ wrong. cc) found))
  added_by links new target first Greater is ascending adds found =
      rw is (least_added links new target ascending adds (not_below links target first Greater is (λ wrong. cc) found))

  -- the primary after one more target is settled
  pub least_settled-added : (links new : List (LinkEntry K)) (target : K) → LinksAscend cmp links → LinksAscend cmp new
      → AddsSettled links new target → least_settled new ≡ lesser_of cmp (least_settled links) target
  least_settled-added links new target ascending ascending' adds = by_found (least_settled links) refl
    where
      by_found : (found : Option K) → least_settled links ≡ found → least_settled new ≡ lesser_of cmp (least_settled links) target
      by_found None none =
          rw none (least_added links new target ascending' adds
          (λ other settled. absurd (never_settled cmp links other none settled)))
      by_found (Some first) is =
          rw is (added_by links new target first (cmp first target) refl ascending' adds
          (least_settled_is cmp o links first ascending is))

  -- the target is settled no more, and the others are as they were
  abbrev pub LosesSettled : List (LinkEntry K) → List (LinkEntry K) → K → Type 0
  LosesSettled links new target =
      (t : K) → (kind_of cmp new t ≡ Some Settled) ↔ ((cmp t target ≢ Equal) × (kind_of cmp links t ≡ Some Settled))

  loses_by_rule : (t target : K) (rule : Option Kind → Option Kind) (found : Option Kind)
      → ((kind : Option Kind) → rule kind ≢ Some Settled)
      → ((if is_eq (cmp t target) then rule found else found) ≡ Some Settled) ↔ ((cmp t target ≢ Equal) × (found ≡ Some Settled))
  loses_by_rule t target rule found never =
      elim (cases_Bool (is_eq (cmp t target))) [
        | inl tied ↦ rw tied (
          (λ settled. absurd (never found settled)),
          (λ both. absurd (both.0 (tied_is (cmp t target) tied))),
        )
        | inr differ ↦ rw differ (
          (λ settled. ((λ equal. let wrong : true ≡ false = rw equal at differ in cc), settled)),
          (λ both. both.1),
        )
      ]

  marked_never : (kind : Option Kind) → kind_marked kind ≢ Some Settled
  marked_never None settled = cc
  marked_never (Some Pin) settled = cc
  marked_never (Some Settled) settled = cc
  marked_never (Some Leaving) settled = cc

  removed_never : (kind : Option Kind) → kind_removed kind ≢ Some Settled
  removed_never None settled = cc
  removed_never (Some Pin) settled = cc
  removed_never (Some Settled) settled = cc
  removed_never (Some Leaving) settled = cc

  -- where another target is the primary, or none, so it stays
  pub least_settled-lost_other : (links new : List (LinkEntry K)) (target : K) → LinksAscend cmp links → LinksAscend cmp new
      → LosesSettled links new target → least_settled links ≢ Some target → least_settled new ≡ least_settled links
  least_settled-lost_other links new target ascending ascending' loses other = by_found (least_settled links) refl
    where
      by_found : (found : Option K) → least_settled links ≡ found → least_settled new ≡ least_settled links
      by_found None none = by_new (least_settled new) refl
        where
          by_new : (found : Option K) → least_settled new ≡ found → least_settled new ≡ least_settled links
          by_new None is = is ∙ sym none
          by_new (Some next) is =
              let found = least_settled_is cmp o new next ascending' is in
              absurd (never_settled cmp links next none (((loses next).0 found.settled).1))
      by_found (Some first) is =
          let found = least_settled_is cmp o links first ascending is in
          least_settled-from new first ascending' (record {
            settled = (loses first).1 ((λ equal. other (is ∙ ap Some (apart first target equal))), found.settled);
            least = λ t settled. found.least t (((loses t).0 settled).1);
          }) ∙ sym is

  above_lost : (target next : K) (r : Ordering) → cmp next target ≡ r → r ≢ Less → r ≢ Equal → cmp target next ≡ Less
  above_lost target next Less is not_less not_equal = absurd (not_less refl)
  above_lost target next Equal is not_less not_equal = absurd (not_equal refl)
  above_lost target next Greater is not_less not_equal = o.antisymm target next ∙ ap ordering_reverse is

  -- where the target was the primary, the next one is above it
  pub least_settled-lost : (links new : List (LinkEntry K)) (target next : K) → LinksAscend cmp links → LinksAscend cmp new
      → LosesSettled links new target → least_settled links ≡ Some target → least_settled new ≡ Some next → cmp target next ≡ Less
  least_settled-lost links new target next ascending ascending' loses is next_is =
      let first = least_settled_is cmp o links target ascending is in
      let found = least_settled_is cmp o new next ascending' next_is in
      let was = (loses next).0 found.settled in
      above_lost target next (cmp next target) refl (first.least next was.1) was.0

module _ {K : Type 0} (cmp : K → K → Ordering) (o : IsTotalOrder cmp) (apart : TellsApart cmp) (set : LinkSetValue K) (target : K)
    (valid : IsLinkSet cmp set) where
  -- an equation of two kinds carries what is said of one to the other
  along : (a b : Option Kind) (P : Type 0) → a ≡ b → (b ≡ Some Settled) ↔ P → (a ≡ Some Settled) ↔ P
  along a b P is both = ((λ settled. both.0 (sym is ∙ settled)), (λ p. is ∙ both.1 p))

  -- a pin leaves the primary as it is
  pub least_settled-pinned : least_settled (pinned cmp set target).links ≡ least_settled set.links
  least_settled-pinned =
      least_settled-same cmp o apart (pinned cmp set target).links set.links (valid-pinned cmp o set target valid).ascending valid.ascending
      (λ t. along _ _ _ (kind_of-pinned cmp o set target t)
      (same_by_rule cmp o apart (is_eq (cmp t target)) kind_pinned (kind_of cmp set.links t) (pinned_settled cmp o apart)))

  by_offer : (found : Option Kind) (room : Bool) → kind_of cmp set.links target ≡ found → has_room set ≡ room
      → least_settled (offered cmp set target).links
      ≡ (if is_none (kind_of cmp set.links target) && has_room set then lesser_of cmp (least_settled set.links) target
      else least_settled set.links)
  by_offer None true is room =
      let new = valid-with_link cmp o set target valid Settled is (λ _. ltb-true _ _ room) in
      rw (is, room) (least_settled-added cmp o apart set.links (with_link cmp set.links target Settled) target valid.ascending
      new.ascending (λ t. kind_of-with_link cmp o set.links target t Settled))
  by_offer None false is room = rw (is, room) refl
  by_offer (Some k) room is room_is = rw is refl

  -- an offer that adds a link makes its target the primary, where no lesser one is
  pub least_settled-offered : least_settled (offered cmp set target).links
      ≡ (if is_none (kind_of cmp set.links target) && has_room set then lesser_of cmp (least_settled set.links) target
      else least_settled set.links)
  least_settled-offered = by_offer (kind_of cmp set.links target) (has_room set) refl refl

  -- the end of a pin leaves the primary as it is
  unpinned : kind_of cmp set.links target ≡ Some Pin → least_settled (without cmp set.links target) ≡ least_settled set.links
  unpinned is =
      let links = without cmp set.links target in
      let rule : (t : K) → kind_of cmp links t
      ≡ (if is_eq (cmp t target) then kind_forgotten (kind_of cmp set.links t) else kind_of cmp set.links t) =
      λ t. by_rule cmp o set.links links target t (λ _. None) kind_forgotten (kind_of-without cmp o set.links target t) (rw is refl) in
      least_settled-same cmp o apart links set.links (valid-without cmp o set target valid Pin is).ascending valid.ascending
      (λ t. along _ _ _ (rule t)
      (same_by_rule cmp o apart (is_eq (cmp t target)) kind_forgotten (kind_of cmp set.links t) (forgotten_settled cmp o apart)))

  by_release : (found : Option Kind) (room : Bool) → kind_of cmp set.links target ≡ found → has_room set ≡ room
      → least_settled (released cmp set target).links
      ≡ (if is_pinned (kind_of cmp set.links target) && has_room set then lesser_of cmp (least_settled set.links) target
      else least_settled set.links)
  by_release None room is room_is = rw is refl
  by_release (Some Pin) true is room =
      let links = with_kind cmp set.links target Settled in
      let new = valid-with_kind cmp o set target valid Pin Settled is (λ _. ltb-true _ _ room) in
      rw (is, room) (least_settled-added cmp o apart set.links links target valid.ascending new.ascending
      (λ t. by_rule cmp o set.links links target t (option_map (λ _. Settled)) (λ _. Some Settled)
      (kind_of-with_kind cmp o set.links target t Settled) (rw is refl)))
  by_release (Some Pin) false is room = rw (is, room) (unpinned is)
  by_release (Some Settled) room is room_is = rw is refl
  by_release (Some Leaving) room is room_is = rw is refl

  -- a release that settles its sender makes it the primary, where no lesser one is
  pub least_settled-released : least_settled (released cmp set target).links
      ≡ (if is_pinned (kind_of cmp set.links target) && has_room set then lesser_of cmp (least_settled set.links) target
      else least_settled set.links)
  least_settled-released = by_release (kind_of cmp set.links target) (has_room set) refl refl

  by_forget : (found : Option Kind) → kind_of cmp set.links target ≡ found
      → least_settled (forgotten cmp set target).links ≡ least_settled set.links
  by_forget None is = rw is refl
  by_forget (Some Pin) is = rw is (unpinned is)
  by_forget (Some Settled) is = rw is refl
  by_forget (Some Leaving) is = rw is refl

  -- a Forget leaves the primary as it is
  pub least_settled-forgotten : least_settled (forgotten cmp set target).links ≡ least_settled set.links
  least_settled-forgotten = by_forget (kind_of cmp set.links target) refl

  loses-marked : LosesSettled cmp o apart set.links (marked cmp set target).links target
  loses-marked t =
      along _ _ _ (kind_of-marked cmp o set target t)
      (loses_by_rule cmp o apart t target kind_marked (kind_of cmp set.links t) (marked_never cmp o apart))

  -- a mark on another target than the primary leaves the primary as it is
  pub least_settled-marked_other : least_settled set.links ≢ Some target
      → least_settled (marked cmp set target).links ≡ least_settled set.links
  least_settled-marked_other other =
      least_settled-lost_other cmp o apart set.links (marked cmp set target).links target valid.ascending
      (valid-marked cmp o set target valid).ascending loses-marked other

  -- the primary after a mark on the primary is above it
  pub least_settled-marked : (next : K) → least_settled set.links ≡ Some target
      → least_settled (marked cmp set target).links ≡ Some next → cmp target next ≡ Less
  least_settled-marked next is next_is =
      least_settled-lost cmp o apart set.links (marked cmp set target).links target next valid.ascending
      (valid-marked cmp o set target valid).ascending loses-marked is next_is

  loses-removed : LosesSettled cmp o apart set.links (removed cmp set target).links target
  loses-removed t =
      along _ _ _ (kind_of-removed cmp o set target t)
      (loses_by_rule cmp o apart t target kind_removed (kind_of cmp set.links t) (removed_never cmp o apart))

  -- the removal of another target than the primary leaves the primary as it is
  pub least_settled-removed_other : least_settled set.links ≢ Some target
      → least_settled (removed cmp set target).links ≡ least_settled set.links
  least_settled-removed_other other =
      least_settled-lost_other cmp o apart set.links (removed cmp set target).links target valid.ascending
      (valid-removed cmp o set target valid).ascending loses-removed other

  -- the primary after the removal of the primary is above it
  pub least_settled-removed : (next : K) → least_settled set.links ≡ Some target
      → least_settled (removed cmp set target).links ≡ Some next → cmp target next ≡ Less
  least_settled-removed next is next_is =
      least_settled-lost cmp o apart set.links (removed cmp set target).links target next valid.ascending
      (valid-removed cmp o set target valid).ascending loses-removed is next_is
