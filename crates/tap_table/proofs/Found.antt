-- What a look-up in the links of a slot finds is one of them, and each of them is found.
-- Cited above: kind_of_target, link_found, link_gives, link_to, linked_is_name, linked_is_other, slot_is_own, target_is_name, target_is_other
use Rattle.std.proofs.Common.{◌≡◌, ◌≢◌, ℕ, ◌+◌, ◌*◌, ◌<◌, zero, suc, Option, None, Some, List, [], ◌∷◌, length, get_or, slice_get, nat_eq, arith, ap, sym, refl, subst, ◌∙◌, inl, inr}
use Rattle.std.specs.Ordering.{is_eq, ordering_reverse}
use Rattle.std.specs.declared.cmp.Ordering.TheVariants.{Less, Greater}
use Rattle.std.specs.List.{common_prefix_len}
use Rattle.std.proofs.lemmas.Bool.{cases_Bool, cases_lt}
use Rattle.std.proofs.lemmas.List.{get_or_past}
use Rattle.std.proofs.lemmas.Cmp.{nat_list_cmp_total}
use Rattle.std.proofs.lemmas.Option.{get_or_from_slice_get, slice_get_within}
use Rattle.tap_link.specs.declared.kind.Kind.{Kind}
use Rattle.tap_link.specs.Entry.{LinkEntry}
use Rattle.tap_link.specs.LinkSet.{LinksAscend, kind_of}
use Rattle.tap_link.proofs.Least.{ascending_tail}
use Rattle.tap_name.specs.Name.{IsName}
use Rattle.tap_name.specs.Settings.{SettingsValue}
use Rattle.tap_name.specs.Slot.{Fits}
use Rattle.tap_name.proofs.Prefix.{prefix_of_itself}
use Rattle.tap_table.specs.Table.{IsTable, SlotLinks, StandsIn, TableValue, kind_in, links_near, name_cmp, place_of, slot_number, slot_numbered}
use Rattle.tap_table.proofs.Fitting.{slot_of_other}
use Rattle.tap_table.proofs.Near.{number_near, tied_itself, tied_names}
use Rattle.tap_table.proofs.Slots.{number_back, place_inside}

-- the link to a name, of a kind
abbrev pub link_to : List ℕ → Kind → LinkEntry (List ℕ)
link_to name kind = record { target = name; kind = kind }

-- a name that has a kind has a link
pub link_found : (links : SlotLinks) (name : List ℕ) (kind : Kind) → kind_of name_cmp links name ≡ Some kind
    → (i : ℕ) × (slice_get links i ≡ Some (link_to name kind))
link_found [] name kind found = cc
link_found (e ∷ es) name kind found =
    elim (cases_Bool (is_eq (name_cmp name e.target))) [
      | inl tied ↦
          let is : Some e.kind ≡ Some kind = rw tied at found in
          let same : e.kind ≡ kind = cc in
          let named : name ≡ e.target = tied_names name e.target tied in
          let of_kind : Kind → LinkEntry (List ℕ) = λ k. record { target = e.target; kind = k } in
          let to_name : List ℕ → LinkEntry (List ℕ) = λ n. record { target = n; kind = kind } in
          (0, ap Some (ap of_kind same ∙ ap to_name (sym named)))
      | inr apart ↦
          let rest : kind_of name_cmp es name ≡ Some kind = rw apart at found in
          let more = link_found es name kind rest in
          (suc more.0, more.1)
    ]

-- the first name is below a later one
below_later : (e : LinkEntry (List ℕ)) (es : SlotLinks) (i : ℕ) (f : LinkEntry (List ℕ)) → LinksAscend name_cmp (e ∷ es)
    → slice_get es i ≡ Some f → name_cmp e.target f.target ≡ Less
below_later e es i f ascending got =
    let read = get_or_from_slice_get es i f f got in
    let within = slice_get_within es i f got in
    ap (λ (x : LinkEntry (List ℕ)). name_cmp e.target x.target) (sym read) ∙ ascending 0 (suc i) f (omega arith) (omega arith)

-- each link gives the kind of its name
pub link_gives : (links : SlotLinks) (i : ℕ) (f : LinkEntry (List ℕ)) → LinksAscend name_cmp links → slice_get links i ≡ Some f
    → kind_of name_cmp links f.target ≡ Some f.kind
link_gives [] i f ascending got = cc
link_gives (e ∷ es) zero f ascending got =
    let same : e ≡ f = cc in
    rw (← same, tied_itself e.target) refl
link_gives (e ∷ es) (suc i) f ascending got =
    let below = below_later e es i f ascending got in
    let above : name_cmp f.target e.target ≡ Greater = nat_list_cmp_total.antisymm f.target e.target ∙ ap ordering_reverse below in
    rw above (link_gives es i f (ascending_tail name_cmp e es ascending) got)

-- no slot of a table has the number at which its owner would stand
owner_outside : (p : SettingsValue) (owner : List ℕ) (number : ℕ) → IsName p owner → number < p.base * p.digits
    → slot_number p.base (place_of owner owner) ≡ number → ⊥
owner_outside p owner number is_owner inside is =
    let level : common_prefix_len nat_eq owner owner ≡ p.digits = prefix_of_itself owner ∙ is_owner.len in
    let number_at : ℕ → ℕ = λ l. l * p.base + get_or owner l 0 in
    let outside : p.digits * p.base + get_or owner p.digits 0 ≡ number = sym (ap number_at level) ∙ is in
    omega (arith, outside, inside)

module _ (t : TableValue) (valid : IsTable t) where
  -- a link stands in a slot of its own number
  module _ (number : ℕ) (e : LinkEntry (List ℕ)) (i : ℕ) (got : slice_get (get_or t.slots number []) i ≡ Some e) where
    stands : StandsIn t.settings t.owner number e.target
    stands =
        let links = get_or t.slots number [] in
        let within = slice_get_within links i e got in
        let at : StandsIn t.settings t.owner number (get_or links i e).target = valid.standing number i e within in
        let P : LinkEntry (List ℕ) → Type 0 = λ f. StandsIn t.settings t.owner number f.target in
        subst P (get_or_from_slice_get links i e e got) at

    within_slots_of : number < length t.slots
    within_slots_of =
        elim (cases_lt number (length t.slots)) [
          | inl inside ↦ inside
          | inr past ↦
              let none : get_or t.slots number [] ≡ [] = get_or_past t.slots number [] past in
              let wrong : slice_get {X = LinkEntry (List ℕ)} [] i ≡ Some e = rw none at got in
              cc
        ]

    pub target_is_other : e.target ≢ t.owner
    target_is_other same =
        let place : slot_number t.settings.base (place_of t.owner e.target) ≡ number = stands.place in
        let own : slot_number t.settings.base (place_of t.owner t.owner) ≡ number =
        ap (λ n. slot_number t.settings.base (place_of t.owner n)) (sym same) ∙ place in
        owner_outside t.settings t.owner number valid.owner (omega (arith, within_slots_of, valid.count)) own

    pub target_is_name : IsName t.settings e.target
    target_is_name = stands.is_name

    pub slot_is_own : slot_numbered t.settings.base number ≡ place_of t.owner e.target
    slot_is_own =
        let digit = (place_inside t.settings t.owner e.target valid.owner target_is_name target_is_other).1 in
        ap (slot_numbered t.settings.base) (sym stands.place) ∙ number_back t.settings.base (place_of t.owner e.target) digit

    pub kind_of_target : kind_in t e.target ≡ Some e.kind
    kind_of_target =
        ap (λ n. kind_of name_cmp (get_or t.slots n []) e.target) stands.place
        ∙ link_gives (get_or t.slots number []) i e (valid.sets number).ascending got

  -- what has a kind is a name, isn't the owner, and fits its slot
  module _ (name : List ℕ) (kind : Kind) (found : kind_in t name ≡ Some kind) where
    pub linked_is_name : IsName t.settings name
    linked_is_name =
        let link = link_found (links_near t name) name kind found in
        target_is_name (number_near t name) (link_to name kind) link.0 link.1

    pub linked_is_other : name ≢ t.owner
    linked_is_other =
        let link = link_found (links_near t name) name kind found in
        target_is_other (number_near t name) (link_to name kind) link.0 link.1

    pub linked_fits : Fits t.owner name (place_of t.owner name)
    linked_fits = slot_of_other t.settings t.owner name valid.owner linked_is_name linked_is_other

  -- the owner has no link to itself
  pub owner_unlinked : kind_in t t.owner ≡ None
  owner_unlinked =
      by_kind (kind_in t t.owner) refl
    where
      by_kind : (found : Option Kind) → kind_in t t.owner ≡ found → kind_in t t.owner ≡ None
      by_kind None is = is
      by_kind (Some kind) is = absurd (linked_is_other t.owner kind is refl)
