-- How wide a link set is after each of its changes, how many links it has, and how many of them are settled.
-- Cited above: full-has_primary, length-forgotten, length-marked, length-offered, length-offered_le, length-pinned, length-pinned_le,
-- length-released, length-removed, one_if, settled_count-offered, settled_count-pinned
use Rattle.std.proofs.Common.{◌≡◌, ◌&&◌, ℕ, ◌+◌, ◌≤◌, Bool, true, false, not, cond, if◌then◌else◌, List, length, Option, None, Some, arith, refl}
use Rattle.std.specs.Cmp.{IsTotalOrder}
use Rattle.std.specs.Option.{is_none}
use Rattle.std.specs.declared.cmp.Ordering.{Ordering}
use Rattle.std.proofs.lemmas.Bool.{ltb-false}
use Rattle.tap_link.specs.declared.kind.Kind.{Kind}
use Rattle.tap_link.specs.declared.kind.Kind.TheVariants.{Pin, Settled, Leaving}
use Rattle.tap_link.specs.Entry.{LinkEntry}
use Rattle.tap_link.specs.LinkSet.{LinksAscend, IsLinkSet, LinkSetValue, forgotten, has_room, is_pinned, is_settled, is_settled_or_leaving, kind_of, least_settled, marked, offered, pinned, released, removed, settled_count, with_kind, with_link, without}
use Rattle.tap_link.proofs.Counts.{length-with_kind, length-with_link, length-without, settled_count-with_kind, settled_count-with_link, settled_count-without}
use Rattle.tap_link.proofs.Least.{counted_none}

-- one where it holds, and none where it doesn't
abbrev pub one_if : Bool → ℕ
one_if holds = cond holds 1 0

width_if : {K : Type 0} (changes : Bool) (set : LinkSetValue K) (links : List (LinkEntry K))
    → (if changes then record set { links = links } else set).width ≡ set.width
width_if true set links = refl
width_if false set links = refl

module _ {K : Type 0} (cmp : K → K → Ordering) (set : LinkSetValue K) (target : K) where
  -- no change makes a set wider
  pub width-pinned : (pinned cmp set target).width ≡ set.width
  width-pinned = width_if (is_none (kind_of cmp set.links target)) set (with_link cmp set.links target Pin)

  pub width-offered : (offered cmp set target).width ≡ set.width
  width-offered = width_if (is_none (kind_of cmp set.links target) && has_room set) set (with_link cmp set.links target Settled)

  pub width-released : (released cmp set target).width ≡ set.width
  width-released = refl

  pub width-forgotten : (forgotten cmp set target).width ≡ set.width
  width-forgotten = width_if (is_pinned (kind_of cmp set.links target)) set (without cmp set.links target)

  pub width-marked : (marked cmp set target).width ≡ set.width
  width-marked = width_if (is_settled (kind_of cmp set.links target)) set (with_kind cmp set.links target Leaving)

  pub width-removed : (removed cmp set target).width ≡ set.width
  width-removed = width_if (is_settled_or_leaving (kind_of cmp set.links target)) set (without cmp set.links target)

  length_by_pin : (found : Option Kind) → kind_of cmp set.links target ≡ found
      → length (pinned cmp set target).links ≡ one_if (is_none (kind_of cmp set.links target)) + length set.links
  length_by_pin None is = rw is (length-with_link cmp set.links target Pin is)
  length_by_pin (Some k) is = rw is (omega arith)

  -- a pin adds a link exactly where none names the target
  pub length-pinned : length (pinned cmp set target).links ≡ one_if (is_none (kind_of cmp set.links target)) + length set.links
  length-pinned = length_by_pin (kind_of cmp set.links target) refl

  length_by_offer : (found : Option Kind) (room : Bool) → kind_of cmp set.links target ≡ found → has_room set ≡ room
      → length (offered cmp set target).links
      ≡ one_if (is_none (kind_of cmp set.links target) && has_room set) + length set.links
  length_by_offer None true is room = rw (is, room) (length-with_link cmp set.links target Settled is)
  length_by_offer None false is room = rw (is, room) (omega arith)
  length_by_offer (Some k) room is room_is = rw is (omega arith)

  -- an offer adds one exactly where none names the target and there is room
  pub length-offered : length (offered cmp set target).links
      ≡ one_if (is_none (kind_of cmp set.links target) && has_room set) + length set.links
  length-offered = length_by_offer (kind_of cmp set.links target) (has_room set) refl refl

  one_at_most : (holds : Bool) (m n : ℕ) → m ≡ one_if holds + n → m ≤ n + 1
  one_at_most true m n is = omega arith
  one_at_most false m n is = omega arith

  -- so neither adds more than one
  pub length-pinned_le : length (pinned cmp set target).links ≤ length set.links + 1
  length-pinned_le = one_at_most (is_none (kind_of cmp set.links target)) _ _ length-pinned

  pub length-offered_le : length (offered cmp set target).links ≤ length set.links + 1
  length-offered_le = one_at_most (is_none (kind_of cmp set.links target) && has_room set) _ _ length-offered

  length_by_mark : (found : Option Kind) → kind_of cmp set.links target ≡ found
      → length (marked cmp set target).links ≡ length set.links
  length_by_mark None is = rw is refl
  length_by_mark (Some Pin) is = rw is refl
  length_by_mark (Some Settled) is = rw is (length-with_kind cmp set.links target Leaving)
  length_by_mark (Some Leaving) is = rw is refl

  -- a mark adds and drops none
  pub length-marked : length (marked cmp set target).links ≡ length set.links
  length-marked = length_by_mark (kind_of cmp set.links target) refl

module _ {K : Type 0} (cmp : K → K → Ordering) (o : IsTotalOrder cmp) (set : LinkSetValue K) (target : K)
    (ascending : LinksAscend cmp set.links) where
  length_by_release : (found : Option Kind) (room : Bool) → kind_of cmp set.links target ≡ found → has_room set ≡ room
      → length (released cmp set target).links + one_if (is_pinned (kind_of cmp set.links target) && not (has_room set))
      ≡ length set.links
  length_by_release None room is room_is = rw is (omega arith)
  length_by_release (Some Pin) true is room = rw (is, room) (omega (arith, length-with_kind cmp set.links target Settled))
  length_by_release (Some Pin) false is room = rw (is, room) (length-without cmp o set.links target Pin ascending is)
  length_by_release (Some Settled) room is room_is = rw is (omega arith)
  length_by_release (Some Leaving) room is room_is = rw is (omega arith)

  -- a release drops one exactly where its sender is pinned and there is no room
  pub length-released : length (released cmp set target).links
      + one_if (is_pinned (kind_of cmp set.links target) && not (has_room set))
      ≡ length set.links
  length-released = length_by_release (kind_of cmp set.links target) (has_room set) refl refl

  length_by_forget : (found : Option Kind) → kind_of cmp set.links target ≡ found
      → length (forgotten cmp set target).links + one_if (is_pinned (kind_of cmp set.links target)) ≡ length set.links
  length_by_forget None is = rw is (omega arith)
  length_by_forget (Some Pin) is = rw is (length-without cmp o set.links target Pin ascending is)
  length_by_forget (Some Settled) is = rw is (omega arith)
  length_by_forget (Some Leaving) is = rw is (omega arith)

  -- a Forget drops the pin on its sender
  pub length-forgotten : length (forgotten cmp set target).links + one_if (is_pinned (kind_of cmp set.links target))
      ≡ length set.links
  length-forgotten = length_by_forget (kind_of cmp set.links target) refl

  length_by_removal : (found : Option Kind) → kind_of cmp set.links target ≡ found
      → length (removed cmp set target).links + one_if (is_settled_or_leaving (kind_of cmp set.links target)) ≡ length set.links
  length_by_removal None is = rw is (omega arith)
  length_by_removal (Some Pin) is = rw is (omega arith)
  length_by_removal (Some Settled) is = rw is (length-without cmp o set.links target Settled ascending is)
  length_by_removal (Some Leaving) is = rw is (length-without cmp o set.links target Leaving ascending is)

  -- a removal drops the link to a target that is settled or leaving
  pub length-removed : length (removed cmp set target).links + one_if (is_settled_or_leaving (kind_of cmp set.links target))
      ≡ length set.links
  length-removed = length_by_removal (kind_of cmp set.links target) refl

  settled_by_pin : (found : Option Kind) → kind_of cmp set.links target ≡ found
      → settled_count (pinned cmp set target).links ≡ settled_count set.links
  settled_by_pin None is = rw is (omega (arith, settled_count-with_link cmp set.links target Pin is))
  settled_by_pin (Some k) is = rw is refl

  -- a pin leaves the settled links alone
  pub settled_count-pinned : settled_count (pinned cmp set target).links ≡ settled_count set.links
  settled_count-pinned = settled_by_pin (kind_of cmp set.links target) refl

  settled_by_offer : (found : Option Kind) (room : Bool) → kind_of cmp set.links target ≡ found → has_room set ≡ room
      → settled_count (offered cmp set target).links
      ≡ one_if (is_none (kind_of cmp set.links target) && has_room set) + settled_count set.links
  settled_by_offer None true is room = rw (is, room) (settled_count-with_link cmp set.links target Settled is)
  settled_by_offer None false is room = rw (is, room) (omega arith)
  settled_by_offer (Some k) room is room_is = rw is (omega arith)

  -- an offer adds one where it adds a link
  pub settled_count-offered : settled_count (offered cmp set target).links
      ≡ one_if (is_none (kind_of cmp set.links target) && has_room set) + settled_count set.links
  settled_count-offered = settled_by_offer (kind_of cmp set.links target) (has_room set) refl refl

  settled_by_release : (found : Option Kind) (room : Bool) → kind_of cmp set.links target ≡ found → has_room set ≡ room
      → settled_count (released cmp set target).links
      ≡ one_if (is_pinned (kind_of cmp set.links target) && has_room set) + settled_count set.links
  settled_by_release None room is room_is = rw is (omega arith)
  settled_by_release (Some Pin) true is room =
      rw (is, room) (omega (arith, settled_count-with_kind cmp o set.links target Pin Settled ascending is))
  settled_by_release (Some Pin) false is room =
      rw (is, room) (omega (arith, settled_count-without cmp o set.links target Pin ascending is))
  settled_by_release (Some Settled) room is room_is = rw is (omega arith)
  settled_by_release (Some Leaving) room is room_is = rw is (omega arith)

  -- a release settles its sender where it is pinned and there is room
  pub settled_count-released : settled_count (released cmp set target).links
      ≡ one_if (is_pinned (kind_of cmp set.links target) && has_room set) + settled_count set.links
  settled_count-released = settled_by_release (kind_of cmp set.links target) (has_room set) refl refl

  settled_by_forget : (found : Option Kind) → kind_of cmp set.links target ≡ found
      → settled_count (forgotten cmp set target).links ≡ settled_count set.links
  settled_by_forget None is = rw is refl
  settled_by_forget (Some Pin) is = rw is (omega (arith, settled_count-without cmp o set.links target Pin ascending is))
  settled_by_forget (Some Settled) is = rw is refl
  settled_by_forget (Some Leaving) is = rw is refl

  -- a Forget leaves the settled links alone
  pub settled_count-forgotten : settled_count (forgotten cmp set target).links ≡ settled_count set.links
  settled_count-forgotten = settled_by_forget (kind_of cmp set.links target) refl

  settled_by_mark : (found : Option Kind) → kind_of cmp set.links target ≡ found
      → settled_count (marked cmp set target).links + one_if (is_settled (kind_of cmp set.links target)) ≡ settled_count set.links
  settled_by_mark None is = rw is (omega arith)
  settled_by_mark (Some Pin) is = rw is (omega arith)
  settled_by_mark (Some Settled) is =
      rw is (omega (arith, settled_count-with_kind cmp o set.links target Settled Leaving ascending is))
  settled_by_mark (Some Leaving) is = rw is (omega arith)

  -- a mark takes one away where the target is settled and not leaving
  pub settled_count-marked : settled_count (marked cmp set target).links + one_if (is_settled (kind_of cmp set.links target))
      ≡ settled_count set.links
  settled_count-marked = settled_by_mark (kind_of cmp set.links target) refl

  settled_by_removal : (found : Option Kind) → kind_of cmp set.links target ≡ found
      → settled_count (removed cmp set target).links + one_if (is_settled (kind_of cmp set.links target)) ≡ settled_count set.links
  settled_by_removal None is = rw is (omega arith)
  settled_by_removal (Some Pin) is = rw is (omega arith)
  settled_by_removal (Some Settled) is = rw is (settled_count-without cmp o set.links target Settled ascending is)
  settled_by_removal (Some Leaving) is = rw is (settled_count-without cmp o set.links target Leaving ascending is)

  -- and so does a removal
  pub settled_count-removed : settled_count (removed cmp set target).links + one_if (is_settled (kind_of cmp set.links target))
      ≡ settled_count set.links
  settled_count-removed = settled_by_removal (kind_of cmp set.links target) refl

module _ {K : Type 0} (cmp : K → K → Ordering) (set : LinkSetValue K) (valid : IsLinkSet cmp set) where
  -- a set without room has as many settled links as it is wide
  pub settled_count-full : has_room set ≡ false → settled_count set.links ≡ set.width
  settled_count-full full =
      let above = ltb-false (settled_count set.links) set.width full in
      omega (arith, above, valid.within_width)

  some_least : (found : Option K) → least_settled set.links ≡ found → 1 ≤ settled_count set.links
      → (target : K) × (least_settled set.links ≡ Some target)
  some_least None is counted = absurd (omega (arith, counted_none set.links is))
  some_least (Some target) is counted = (target, is)

  -- so, being at least one wide, it has a primary
  pub full-has_primary : has_room set ≡ false → 1 ≤ set.width → (target : K) × (least_settled set.links ≡ Some target)
  full-has_primary full wide =
      let count = settled_count-full full in
      some_least (least_settled set.links) refl (omega arith)
