-- A link set: links with distinct targets in ascending order.
use Rattle.std.specs.Prelude.{◌≡◌, ◌≢◌, ℕ, ◌≤◌, nat_lt, Bool, true, false, not, ◌&&◌, if◌then◌else◌, List, ◌∷◌, ◌++◌, map, filter, find, count_by, AllPairs, Option, None, Some}
use Rattle.std.specs.Option.{option_map, is_none}
use Rattle.std.specs.Ordering.{is_lt, is_eq, is_gt}
use Rattle.std.specs.declared.cmp.Ordering.{Ordering}
use Rattle.std.specs.declared.cmp.Ordering.TheVariants.{Less}
use Rattle.tap_link.specs.declared.kind.Kind.{Kind}
use Rattle.tap_link.specs.declared.kind.Kind.TheVariants.{Pin, Settled, Leaving}
use Rattle.tap_link.specs.declared.kind.Released.{Released}
use Rattle.tap_link.specs.declared.kind.Released.TheVariants.{Settled as ReleasedSettled, Dropped, Nothing}
use Rattle.tap_link.specs.Entry.{LinkEntry}

-- what a link set is seen as: how many of its links may be settled and not leaving, and its links
pub record LinkSetValue (K : Type 0) : Type 0 where
  pub width : ℕ
  pub links : List (LinkEntry K)

-- the target, if there is one, is pinned
abbrev pub is_pinned : Option Kind → Bool
is_pinned None = false
is_pinned (Some Pin) = true
is_pinned (Some Settled) = false
is_pinned (Some Leaving) = false

-- it is settled, and not leaving
abbrev pub is_settled : Option Kind → Bool
is_settled None = false
is_settled (Some Pin) = false
is_settled (Some Settled) = true
is_settled (Some Leaving) = false

-- it is settled, and may be leaving
abbrev pub is_settled_or_leaving : Option Kind → Bool
is_settled_or_leaving None = false
is_settled_or_leaving (Some Pin) = false
is_settled_or_leaving (Some Settled) = true
is_settled_or_leaving (Some Leaving) = true

-- what a release answers, by whether its sender is pinned, and whether there is room
abbrev pub released_as : Bool → Bool → Released
released_as pinned room = if pinned then (if room then ReleasedSettled else Dropped) else Nothing

module _ {K : Type 0} where
  -- how many links are settled and not leaving
  abbrev pub settled_count : List (LinkEntry K) → ℕ
  settled_count links = count_by (λ e. is_settled (Some e.kind)) links

  -- one more link may be settled
  abbrev pub has_room : LinkSetValue K → Bool
  has_room set = nat_lt (settled_count set.links) set.width

  -- the first target in the list that is settled and not leaving
  abbrev pub least_settled : List (LinkEntry K) → Option K
  least_settled links = option_map (λ e. e.target) (find (λ e. is_settled (Some e.kind)) links)

module _ {K : Type 0} (cmp : K → K → Ordering) where
  -- each target is below each later one
  abbrev pub LinksAscend : List (LinkEntry K) → Type 0
  LinksAscend links = AllPairs (λ e f. cmp e.target f.target ≡ Less) links

  -- what each link set keeps
  pub record IsLinkSet (set : LinkSetValue K) : Type 0 where
    pub ascending : LinksAscend set.links
    pub within_width : settled_count set.links ≤ set.width

  -- what a set keeps beside its links: how many of them are settled and not leaving
  pub record IsCounted (set : LinkSetValue K) (settled : ℕ) : Type 0 where
    pub valid : IsLinkSet set
    pub count : settled ≡ settled_count set.links

  -- the kind of the link to the target, if there is one
  abbrev pub kind_of : List (LinkEntry K) → K → Option Kind
  kind_of links target = option_map (λ e. e.kind) (find (λ e. is_eq (cmp target e.target)) links)

  -- a link more, after the links to lesser targets and before those to greater ones
  abbrev pub with_link : List (LinkEntry K) → K → Kind → List (LinkEntry K)
  with_link links target kind =
      filter (λ e. is_gt (cmp target e.target)) links
      ++ record { target = target; kind = kind } ∷ filter (λ e. is_lt (cmp target e.target)) links

  -- the link to the target has this kind, and the others are as they were
  abbrev pub with_kind : List (LinkEntry K) → K → Kind → List (LinkEntry K)
  with_kind links target kind =
      map {A = LinkEntry K} (λ e. if is_eq (cmp target e.target) then record e { kind = kind } else e) links

  -- all links but the one to the target
  abbrev pub without : List (LinkEntry K) → K → List (LinkEntry K)
  without links target = filter (λ e. not (is_eq (cmp target e.target))) links

  -- the links after a release that was answered so
  abbrev pub after_release : List (LinkEntry K) → K → Released → List (LinkEntry K)
  after_release links target ReleasedSettled = with_kind links target Settled
  after_release links target Dropped = without links target
  after_release links target Nothing = links

  -- the set after a pin of the target: a pin more, if no link names it
  abbrev pub pinned : LinkSetValue K → K → LinkSetValue K
  pinned set target =
      if is_none (kind_of set.links target) then record set { links = with_link set.links target Pin } else set

  -- the set after an offer of the target: a settled link more, if no link names it and there is room
  abbrev pub offered : LinkSetValue K → K → LinkSetValue K
  offered set target =
      if is_none (kind_of set.links target) && has_room set then record set { links = with_link set.links target Settled } else set

  -- the set after the release of a node: a pin on it is settled if there is room, and gone if there is none
  abbrev pub released : LinkSetValue K → K → LinkSetValue K
  released set sender =
      record set { links = after_release set.links sender (released_as (is_pinned (kind_of set.links sender)) (has_room set)) }

  -- the set after the word of a node that gave up joining: a pin on it is gone
  abbrev pub forgotten : LinkSetValue K → K → LinkSetValue K
  forgotten set sender =
      if is_pinned (kind_of set.links sender) then record set { links = without set.links sender } else set

  -- the set after the target said that it will leave: a settled link to it is leaving
  abbrev pub marked : LinkSetValue K → K → LinkSetValue K
  marked set target =
      if is_settled (kind_of set.links target) then record set { links = with_kind set.links target Leaving } else set

  -- the set after the link to the target was let go: gone if it was settled or leaving
  abbrev pub removed : LinkSetValue K → K → LinkSetValue K
  removed set target =
      if is_settled_or_leaving (kind_of set.links target) then record set { links = without set.links target } else set

  -- the target is settled and not leaving, and no lesser one is
  pub record IsLeastSettled (links : List (LinkEntry K)) (target : K) : Type 0 where
    pub settled : kind_of links target ≡ Some Settled
    pub least : (other : K) → kind_of links other ≡ Some Settled → cmp other target ≢ Less
