-- The kind of every target after each change of a link set.
-- Cited above: kind_forgotten, kind_marked, kind_of-forgotten, kind_of-marked, kind_of-offered, kind_of-pinned, kind_of-released, kind_of-removed,
-- kind_offered, kind_pinned, kind_released, kind_removed
use Rattle.std.proofs.Common.{◌≡◌, ◌&&◌, Bool, true, false, List, Option, None, Some, refl, ap, ◌∙◌, inl, inr, if◌then◌else◌}
use Rattle.std.specs.Cmp.{IsTotalOrder}
use Rattle.std.specs.Option.{is_none, is_some, option_map}
use Rattle.std.specs.Ordering.{is_eq}
use Rattle.std.specs.declared.cmp.Ordering.{Ordering}
use Rattle.std.proofs.lemmas.Bool.{cases_Bool}
use Rattle.tap_link.specs.declared.kind.Kind.{Kind}
use Rattle.tap_link.specs.declared.kind.Kind.TheVariants.{Pin, Settled, Leaving}
use Rattle.tap_link.specs.Entry.{LinkEntry}
use Rattle.tap_link.specs.LinkSet.{LinkSetValue, forgotten, has_room, is_pinned, is_settled, is_settled_or_leaving, kind_of, marked, offered, pinned, released, removed, with_kind, with_link, without}
use Rattle.tap_link.proofs.Least.{tied_is}
use Rattle.tap_link.proofs.LookUps.{kind_of-tied, kind_of-with_kind, kind_of-with_link, kind_of-without}

-- what a pin makes of the kind of its target
abbrev pub kind_pinned : Option Kind → Option Kind
kind_pinned kind = if is_none kind then Some Pin else kind

-- what an offer makes of it, if there is room for a settled link or not
abbrev pub kind_offered : Bool → Option Kind → Option Kind
kind_offered room kind = if is_none kind && room then Some Settled else kind

-- what a release makes of the kind of its sender, if there is room for a settled link or not
abbrev pub kind_released : Bool → Option Kind → Option Kind
kind_released room kind = if is_pinned kind then (if room then Some Settled else None) else kind

-- what it is after its sender gave up joining
abbrev pub kind_forgotten : Option Kind → Option Kind
kind_forgotten kind = if is_pinned kind then None else kind

-- what it is after its target said that it will leave
abbrev pub kind_marked : Option Kind → Option Kind
kind_marked kind = if is_settled kind then Some Leaving else kind

-- what it is after its target was let go
abbrev pub kind_removed : Option Kind → Option Kind
kind_removed kind = if is_settled_or_leaving kind then None else kind

-- a pinned target, or a settled one, that is given another kind has it
pinned_given : (found : Option Kind) (kind : Kind) → is_pinned found ≡ true → option_map (λ _. kind) found ≡ Some kind
pinned_given None kind is = cc
pinned_given (Some k) kind is = refl

settled_given : (found : Option Kind) (kind : Kind) → is_settled found ≡ true → option_map (λ _. kind) found ≡ Some kind
settled_given None kind is = cc
settled_given (Some k) kind is = refl

module _ {K : Type 0} (cmp : K → K → Ordering) (o : IsTotalOrder cmp) where
  -- two rules that agree on the kind of a target agree on each target that is equal to it
  pub by_rule : (links new : List (LinkEntry K)) (target other : K) (made rule : Option Kind → Option Kind)
      → kind_of cmp new other ≡ (if is_eq (cmp other target) then made (kind_of cmp links other) else kind_of cmp links other)
      → made (kind_of cmp links target) ≡ rule (kind_of cmp links target)
      → kind_of cmp new other ≡ (if is_eq (cmp other target) then rule (kind_of cmp links other) else kind_of cmp links other)
  by_rule links new target other made rule is same =
      is ∙ elim (cases_Bool (is_eq (cmp other target))) [
        | inl tied ↦ rw (tied, kind_of-tied cmp o links target other (tied_is (cmp other target) tied)) same
        | inr apart ↦ rw apart refl
      ]

  -- where nothing changes
  by_none : (links : List (LinkEntry K)) (target other : K) (rule : Option Kind → Option Kind)
      → kind_of cmp links target ≡ rule (kind_of cmp links target)
      → kind_of cmp links other ≡ (if is_eq (cmp other target) then rule (kind_of cmp links other) else kind_of cmp links other)
  by_none links target other rule same =
      let is : kind_of cmp links other ≡ (if is_eq (cmp other target) then kind_of cmp links other else kind_of cmp links other) =
      elim (cases_Bool (is_eq (cmp other target))) [ inl tied ↦ rw tied refl | inr apart ↦ rw apart refl ] in
      by_rule links links target other (λ k. k) rule is same

  -- a change that is made or not
  by_if : (set : LinkSetValue K) (new : List (LinkEntry K)) (target other : K) (changes : Bool) (made rule : Option Kind → Option Kind)
      → kind_of cmp new other ≡ (if is_eq (cmp other target) then made (kind_of cmp set.links other) else kind_of cmp set.links other)
      → (changes ≡ true → made (kind_of cmp set.links target) ≡ rule (kind_of cmp set.links target))
      → (changes ≡ false → kind_of cmp set.links target ≡ rule (kind_of cmp set.links target))
      → kind_of cmp (if changes then record set { links = new } else set).links other
      ≡ (if is_eq (cmp other target) then rule (kind_of cmp set.links other) else kind_of cmp set.links other)
  by_if set new target other true made rule is change stay = by_rule set.links new target other made rule is (change refl)
  by_if set new target other false made rule is change stay = by_none set.links target other rule (stay refl)

module _ {K : Type 0} (cmp : K → K → Ordering) (o : IsTotalOrder cmp) (set : LinkSetValue K) (target other : K) where
  abbrev before : Option Kind
  before = kind_of cmp set.links target

  pub kind_of-pinned : kind_of cmp (pinned cmp set target).links other
      ≡ (if is_eq (cmp other target) then kind_pinned (kind_of cmp set.links other) else kind_of cmp set.links other)
  kind_of-pinned =
      by_if cmp o set (with_link cmp set.links target Pin) target other (is_none before) (λ _. Some Pin) kind_pinned
      (kind_of-with_link cmp o set.links target other Pin) (λ e. rw e refl) (λ e. rw e refl)

  pub kind_of-offered : kind_of cmp (offered cmp set target).links other
      ≡ (if is_eq (cmp other target) then kind_offered (has_room set) (kind_of cmp set.links other) else kind_of cmp set.links other)
  kind_of-offered =
      by_if cmp o set (with_link cmp set.links target Settled) target other (is_none before && has_room set) (λ _. Some Settled)
      (kind_offered (has_room set)) (kind_of-with_link cmp o set.links target other Settled) (λ e. rw e refl) (λ e. rw e refl)

  pub kind_of-released : kind_of cmp (released cmp set target).links other
      ≡ (if is_eq (cmp other target) then kind_released (has_room set) (kind_of cmp set.links other) else kind_of cmp set.links other)
  kind_of-released =
      elim (cases_Bool (is_pinned before)) [
        | inr not_pinned ↦ rw not_pinned (by_none cmp o set.links target other (kind_released (has_room set)) (rw not_pinned refl))
        | inl is_pin ↦ elim (cases_Bool (has_room set)) [
          | inl room ↦
              rw (is_pin, room) (by_rule cmp o set.links (with_kind cmp set.links target Settled) target other (option_map (λ _. Settled))
              (kind_released true) (kind_of-with_kind cmp o set.links target other Settled)
              (rw is_pin (pinned_given before Settled is_pin)))
          | inr full ↦
              rw (is_pin, full) (by_rule cmp o set.links (without cmp set.links target) target other (λ _. None)
              (kind_released false) (kind_of-without cmp o set.links target other) (rw is_pin refl))
        ]
      ]

  pub kind_of-forgotten : kind_of cmp (forgotten cmp set target).links other
      ≡ (if is_eq (cmp other target) then kind_forgotten (kind_of cmp set.links other) else kind_of cmp set.links other)
  kind_of-forgotten =
      by_if cmp o set (without cmp set.links target) target other (is_pinned before) (λ _. None) kind_forgotten
      (kind_of-without cmp o set.links target other) (λ e. rw e refl) (λ e. rw e refl)

  pub kind_of-marked : kind_of cmp (marked cmp set target).links other
      ≡ (if is_eq (cmp other target) then kind_marked (kind_of cmp set.links other) else kind_of cmp set.links other)
  kind_of-marked =
      by_if cmp o set (with_kind cmp set.links target Leaving) target other (is_settled before) (option_map (λ _. Leaving)) kind_marked
      (kind_of-with_kind cmp o set.links target other Leaving) (λ e. rw e (settled_given before Leaving e)) (λ e. rw e refl)

  pub kind_of-removed : kind_of cmp (removed cmp set target).links other
      ≡ (if is_eq (cmp other target) then kind_removed (kind_of cmp set.links other) else kind_of cmp set.links other)
  kind_of-removed =
      by_if cmp o set (without cmp set.links target) target other (is_settled_or_leaving before) (λ _. None) kind_removed
      (kind_of-without cmp o set.links target other) (λ e. rw e refl) (λ e. rw e refl)

-- what keeps each kind, or at least each link, keeps it if it is done for one target alone
stays_as : (tied : Bool) (rule : Option Kind → Option Kind) (found : Option Kind) (kind : Kind)
    → rule (Some kind) ≡ Some kind → found ≡ Some kind → (if tied then rule found else found) ≡ Some kind
stays_as true rule found kind keeps is = ap rule is ∙ keeps
stays_as false rule found kind keeps is = is

stays_linked : (tied : Bool) (rule : Option Kind → Option Kind) (found : Option Kind)
    → ((kind : Option Kind) → is_some (rule kind) ≡ is_some kind) → is_some (if tied then rule found else found) ≡ is_some found
stays_linked true rule found keeps = keeps found
stays_linked false rule found keeps = refl

linked-marked : (kind : Option Kind) → is_some (kind_marked kind) ≡ is_some kind
linked-marked None = refl
linked-marked (Some Pin) = refl
linked-marked (Some Settled) = refl
linked-marked (Some Leaving) = refl

linked-released : (kind : Option Kind) → is_some (kind_released true kind) ≡ is_some kind
linked-released None = refl
linked-released (Some Pin) = refl
linked-released (Some Settled) = refl
linked-released (Some Leaving) = refl

module _ {K : Type 0} (cmp : K → K → Ordering) (o : IsTotalOrder cmp) (set : LinkSetValue K) (target other : K) where
  -- a pin changes no link that is there
  pub stays-pinned : (kind : Kind) → kind_of cmp set.links other ≡ Some kind → kind_of cmp (pinned cmp set target).links other ≡ Some kind
  stays-pinned kind is =
      kind_of-pinned cmp o set target other
      ∙ stays_as (is_eq (cmp other target)) kind_pinned (kind_of cmp set.links other) kind refl is

  -- nor does an offer
  pub stays-offered : (kind : Kind) → kind_of cmp set.links other ≡ Some kind
      → kind_of cmp (offered cmp set target).links other ≡ Some kind
  stays-offered kind is =
      kind_of-offered cmp o set target other
      ∙ stays_as (is_eq (cmp other target)) (kind_offered (has_room set)) (kind_of cmp set.links other) kind refl is

  -- a mark takes no link away
  pub linked_after-marked : is_some (kind_of cmp (marked cmp set target).links other) ≡ is_some (kind_of cmp set.links other)
  linked_after-marked =
      ap is_some (kind_of-marked cmp o set target other)
      ∙ stays_linked (is_eq (cmp other target)) kind_marked (kind_of cmp set.links other) linked-marked

  -- nor does a release where there is room
  pub linked_after-released : has_room set ≡ true
      → is_some (kind_of cmp (released cmp set target).links other) ≡ is_some (kind_of cmp set.links other)
  linked_after-released room =
      ap is_some (kind_of-released cmp o set target other)
      ∙ rw room (stays_linked (is_eq (cmp other target)) (kind_released true) (kind_of cmp set.links other) linked-released)
