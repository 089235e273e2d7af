-- What holds of each target of a link set holds after each of its changes.
-- Cited above: all_targets-with_kind, all_targets-with_link, all_targets-without, AllTargets
use Rattle.std.proofs.Common.{◌&&◌, Bool, true, false, List, ◌∷◌, filter, not, get_or, if◌then◌else◌, inl, inr}
use Rattle.std.specs.List.{All}
use Rattle.std.specs.Option.{is_none}
use Rattle.std.specs.Ordering.{is_eq, is_gt, is_lt}
use Rattle.std.specs.declared.cmp.Ordering.{Ordering}
use Rattle.std.proofs.lemmas.Bool.{cases_Bool}
use Rattle.std.proofs.lemmas.List.Elements.{All-append, All-cons, All-filter, All-map}
use Rattle.tap_link.specs.declared.kind.Kind.{Kind}
use Rattle.tap_link.specs.Entry.{LinkEntry}
use Rattle.tap_link.specs.declared.kind.Kind.TheVariants.{Pin, Settled, Leaving}
use Rattle.tap_link.specs.declared.kind.Released.{Released}
use Rattle.tap_link.specs.declared.kind.Released.TheVariants.{Settled as ReleasedSettled, Dropped, Nothing}
use Rattle.tap_link.specs.LinkSet.{LinkSetValue, after_release, forgotten, has_room, is_pinned, is_settled, is_settled_or_leaving, kind_of, marked, offered, pinned, released, released_as, removed, with_link, with_kind, without}

module _ {K : Type 0} (cmp : K → K → Ordering) (P : K → Type 0) where
  -- it holds of each target
  abbrev pub AllTargets : List (LinkEntry K) → Type 0
  AllTargets links = All (λ e. P e.target) links

  pub all_targets-with_link : (links : List (LinkEntry K)) (target : K) (kind : Kind) → AllTargets links → P target
      → AllTargets (with_link cmp links target kind)
  all_targets-with_link links target kind all new =
      let added : LinkEntry K = record { target = target; kind = kind } in
      let lesser = filter (λ e. is_gt (cmp target e.target)) links in
      let greater = filter (λ e. is_lt (cmp target e.target)) links in
      All-append (λ e. P e.target) lesser (added ∷ greater)
      (All-filter (λ e. is_gt (cmp target e.target)) (λ e. P e.target) links all)
      (All-cons (λ e. P e.target) added greater new (All-filter (λ e. is_lt (cmp target e.target)) (λ e. P e.target) links all))

  pub all_targets-without : (links : List (LinkEntry K)) (target : K) → AllTargets links → AllTargets (without cmp links target)
  all_targets-without links target all = All-filter (λ e. not (is_eq (cmp target e.target))) (λ e. P e.target) links all

  pub all_targets-with_kind : (links : List (LinkEntry K)) (target : K) (kind : Kind) → AllTargets links
      → AllTargets (with_kind cmp links target kind)
  all_targets-with_kind links target kind all =
      All-map (λ e. P e.target) (λ e. if is_eq (cmp target e.target) then record e { kind = kind } else e) links
      (λ k d h.
      elim (cases_Bool (is_eq (cmp target (get_or links k d).target))) [
        | inl tied ↦ rw tied (all k d h)
        | inr apart ↦ rw apart (all k d h)
      ])

  all_if : (changes : Bool) (set : LinkSetValue K) (links : List (LinkEntry K)) → AllTargets links → AllTargets set.links
      → AllTargets (if changes then record set { links = links } else set).links
  all_if true set links new old = new
  all_if false set links new old = old

  all-after_release : (links : List (LinkEntry K)) (target : K) (answer : Released) → AllTargets links
      → AllTargets (after_release cmp links target answer)
  all-after_release links target ReleasedSettled all = all_targets-with_kind links target Settled all
  all-after_release links target Dropped all = all_targets-without links target all
  all-after_release links target Nothing all = all

  pub all_targets-pinned : (set : LinkSetValue K) (target : K) → AllTargets set.links → P target → AllTargets (pinned cmp set target).links
  all_targets-pinned set target all new =
      all_if (is_none (kind_of cmp set.links target)) set (with_link cmp set.links target Pin)
      (all_targets-with_link set.links target Pin all new) all

  pub all_targets-offered : (set : LinkSetValue K) (target : K) → AllTargets set.links → P target
      → AllTargets (offered cmp set target).links
  all_targets-offered set target all new =
      all_if (is_none (kind_of cmp set.links target) && has_room set) set (with_link cmp set.links target Settled)
      (all_targets-with_link set.links target Settled all new) all

  pub all_targets-released : (set : LinkSetValue K) (target : K) → AllTargets set.links → AllTargets (released cmp set target).links
  all_targets-released set target all =
      all-after_release set.links target (released_as (is_pinned (kind_of cmp set.links target)) (has_room set)) all

  pub all_targets-forgotten : (set : LinkSetValue K) (target : K) → AllTargets set.links → AllTargets (forgotten cmp set target).links
  all_targets-forgotten set target all =
      all_if (is_pinned (kind_of cmp set.links target)) set (without cmp set.links target) (all_targets-without set.links target all) all

  pub all_targets-marked : (set : LinkSetValue K) (target : K) → AllTargets set.links → AllTargets (marked cmp set target).links
  all_targets-marked set target all =
      all_if (is_settled (kind_of cmp set.links target)) set (with_kind cmp set.links target Leaving)
      (all_targets-with_kind set.links target Leaving all) all

  pub all_targets-removed : (set : LinkSetValue K) (target : K) → AllTargets set.links → AllTargets (removed cmp set target).links
  all_targets-removed set target all =
      all_if (is_settled_or_leaving (kind_of cmp set.links target)) set (without cmp set.links target)
      (all_targets-without set.links target all) all
