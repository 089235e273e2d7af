-- What the notice of a leaving node makes of the ties of a holder.
-- Cited above: AreTies-told, leaver_marked, links_stay, new_is_told, slot_filled, told_holders, told_is_new, told_owner, told_settings
use Rattle.std.proofs.Common.{◌≡◌, ◌≢◌, ℕ, ◌+◌, ◌&&◌, Bool, true, false, is_some, Option, None, Some, List, [], get_or, ap, sym, refl, subst, ◌∙◌, inl, inr}
use Rattle.std.specs.Prelude.{◌||◌, bytes_eq}
use Rattle.std.specs.Option.{is_none}
use Rattle.std.specs.Ordering.{is_eq}
use Rattle.std.proofs.lemmas.Bool.{cases_Bool}
use Rattle.std.proofs.lemmas.Slice.Eq.{bytes_eq-Decides}
use Rattle.tap_name.specs.declared.slot.Slot.{Slot}
use Rattle.tap_name.specs.Name.{IsName}
use Rattle.tap_name.specs.Slot.{slot_at}
use Rattle.tap_link.specs.declared.kind.Kind.{Kind}
use Rattle.tap_link.specs.declared.kind.Kind.TheVariants.{Leaving, Pin, Settled}
use Rattle.tap_link.specs.LinkSet.{least_settled}
use Rattle.tap_link.proofs.TargetKinds.{kind_marked, kind_offered}
use Rattle.tap_table.specs.Table.{TableValue, has_room_near, kind_in, name_cmp, place_of, slot_number}
use Rattle.tap_table.specs.declared.tie.Tie.{Tie}
use Rattle.tap_table.specs.Ties.{AreTies, TiesValue, marked, offer_tells, offered}
use Rattle.tap_table.proofs.Fitting.{slot_of_other}
use Rattle.tap_table.proofs.LookUps.{by_rule, kind_in-marked, kind_in-offered, of_itself, of_others}
use Rattle.tap_table.proofs.NewLinks.{link_word, offered_rule_new, word_given}
use Rattle.tap_table.proofs.Primaries.{full_has_primary, primary_near, primary_near-offered}
use Rattle.tap_table.proofs.TiesKept.{AreTies-marked, AreTies-offered}
use Rattle.tap_depart.specs.ToldLeave.{has_settled_near, offer_tells_if, offered_if, taken_in, told_leave, told_leave_tells}

neither : (a b : Bool) → (a || b) ≡ false → (a ≡ false) × (b ≡ false)
neither true b is = cc
neither false b is = (refl, is)

some_where : (found : Option (List ℕ)) → is_some found ≡ false → found ≡ None
some_where None is = refl
some_where (Some name) is = cc

-- a replacement that is taken was given, isn't the holder, and there was no other link
pub taken_parts : (ties : TiesValue) (leaver : List ℕ) (replacement : Option (List ℕ)) (name : List ℕ)
    → taken_in ties leaver replacement ≡ Some name
    → (replacement ≡ Some name) × (has_settled_near ties leaver ≡ false) × (name ≢ ties.table.owner)
taken_parts ties leaver None name is = cc
taken_parts ties leaver (Some given) name is =
    elim (cases_Bool (has_settled_near ties leaver || bytes_eq given ties.table.owner)) [
      | inl either ↦ let wrong : None ≡ Some name = rw either at is in cc
      | inr fails ↦
          let found : Some given ≡ Some name = rw fails at is in
          let same : given ≡ name = cc in
          let parts = neither (has_settled_near ties leaver) (bytes_eq given ties.table.owner) fails in
          let apart : name ≢ ties.table.owner = λ owner.
          let tied = (bytes_eq-Decides given ties.table.owner).1 (same ∙ owner) in
          let wrong : true ≡ false = sym tied ∙ parts.1 in cc in
          (ap Some same, parts.0, apart)
    ]

-- a link that is there keeps its kind at an offer
linked_stays : (name other : List ℕ) (room : Bool) (kind : Kind) → by_rule name other (kind_offered room) (Some kind) ≡ Some kind
linked_stays name other room kind =
    elim (cases_Bool (is_eq (name_cmp other name))) [ inl tied ↦ rw tied refl | inr apart ↦ rw apart refl ]

unlinked_stays : (name other : List ℕ) → by_rule name other kind_marked None ≡ None
unlinked_stays name other =
    elim (cases_Bool (is_eq (name_cmp other name))) [ inl tied ↦ rw tied refl | inr apart ↦ rw apart refl ]

unlinked_kind : (name other : List ℕ) (found : Option Kind) → by_rule name other kind_marked found ≡ None → found ≡ None
unlinked_kind name other None is = refl
unlinked_kind name other (Some kind) is =
    elim (cases_Bool (is_eq (name_cmp other name))) [
      | inl tied ↦ let wrong : kind_marked (Some kind) ≡ None = rw tied at is in absurd (never_unlinked kind wrong)
      | inr apart ↦ let wrong : Some kind ≡ None = rw apart at is in cc
    ]
  where
    never_unlinked : (kind : Kind) → kind_marked (Some kind) ≡ None → ⊥
    never_unlinked Pin is = cc
    never_unlinked Settled is = cc
    never_unlinked Leaving is = cc

-- an offer is told if there was no link and there is room
offer_told : (found : Option Kind) (room : Bool) → (is_none found && room) ≡ true → (found ≡ None) × (room ≡ true)
offer_told None room is = (refl, is)
offer_told (Some kind) room is = cc

-- the word of a holder for the replacement that it took, with the number after the stamp's last: it had no link to it, and has a
-- settled one now
pub record IsWordFor (ties after : TiesValue) (replacement : Option (List ℕ)) (last : ℕ) (tie : Tie) : Type 0 where
  pub given : replacement ≡ Some tie.to
  pub version : tie.version ≡ last + 1
  pub on : tie.on ≡ true
  pub was : kind_in ties.table tie.to ≡ None
  pub now : kind_in after.table tie.to ≡ Some Settled

module _ (ties : TiesValue) (leaver : List ℕ) (replacement : Option (List ℕ)) (are : AreTies ties)
    (is_name : IsName ties.table.settings leaver) (apart : leaver ≢ ties.table.owner)
    (given : (name : List ℕ) → replacement ≡ Some name → IsName ties.table.settings name) where
  abbrev after : TiesValue
  after = marked ties leaver

  after_are : AreTies after
  after_are = AreTies-marked ties leaver are is_name apart

  -- either nothing is offered, or the replacement that is taken, which is told accordingly
  tells_cases : (P : TiesValue → Option Tie → Type 0) (last : ℕ) → P after None
      → ((name : List ℕ) → taken_in after leaver replacement ≡ Some name → P (offered after name) (offer_tells after last name))
      → P (told_leave ties leaver replacement) (told_leave_tells ties last leaver replacement)
  tells_cases P last here there = by_taken (taken_in after leaver replacement) refl
    where
      by_taken : (taken : Option (List ℕ)) → taken_in after leaver replacement ≡ taken
          → P (told_leave ties leaver replacement) (told_leave_tells ties last leaver replacement)
      by_taken None is = subst (λ found. P (offered_if after found) (offer_tells_if after last found)) (sym is) here
      by_taken (Some name) is = subst (λ found. P (offered_if after found) (offer_tells_if after last found)) (sym is) (there name is)

  told_cases : (P : TiesValue → Type 0) → P after
      → ((name : List ℕ) → taken_in after leaver replacement ≡ Some name → P (offered after name))
      → P (told_leave ties leaver replacement)
  told_cases P here there = tells_cases (λ t word. P t) 0 here there

  -- what ties keep is kept; owner, settings and holders stay
  pub AreTies-told : AreTies (told_leave ties leaver replacement)
  AreTies-told =
      told_cases AreTies after_are (λ name taken.
      let parts = taken_parts after leaver replacement name taken in
      AreTies-offered after name after_are (given name parts.0) parts.2)

  pub told_owner : (told_leave ties leaver replacement).table.owner ≡ ties.table.owner
  told_owner = told_cases (λ t. t.table.owner ≡ ties.table.owner) refl (λ name taken. refl)

  pub told_settings : (told_leave ties leaver replacement).table.settings ≡ ties.table.settings
  told_settings = told_cases (λ t. t.table.settings ≡ ties.table.settings) refl (λ name taken. refl)

  pub told_holders : (told_leave ties leaver replacement).holders ≡ ties.holders
  told_holders = told_cases (λ t. t.holders ≡ ties.holders) refl (λ name taken. refl)

  -- the kind of a name after the mark, and after the offer of a replacement
  marked_kind : (other : List ℕ) → kind_in after.table other ≡ by_rule leaver other kind_marked (kind_in ties.table other)
  marked_kind other = kind_in-marked ties.table leaver are.table is_name apart other

  offered_kind : (name other : List ℕ) → taken_in after leaver replacement ≡ Some name
      → kind_in (offered after name).table other
      ≡ by_rule name other (kind_offered (has_room_near after.table name)) (kind_in after.table other)
  offered_kind name other taken =
      let parts = taken_parts after leaver replacement name taken in
      kind_in-offered after.table name after_are.table (given name parts.0) parts.2 other

  -- a link that has this kind after the mark has it after the notice
  linked_after : (other : List ℕ) (kind : Kind) → kind_in after.table other ≡ Some kind
      → kind_in (told_leave ties leaver replacement).table other ≡ Some kind
  linked_after other kind is =
      told_cases (λ t. kind_in t.table other ≡ Some kind) is (λ name taken.
      let room = has_room_near after.table name in
      offered_kind name other taken ∙ ap (by_rule name other (kind_offered room)) is ∙ linked_stays name other room kind)

  -- the settled link to the leaver is marked
  pub leaver_marked : kind_in ties.table leaver ≡ Some Settled → kind_in (told_leave ties leaver replacement).table leaver ≡ Some Leaving
  leaver_marked settled =
      linked_after leaver Leaving
      (marked_kind leaver ∙ of_itself leaver kind_marked (kind_in ties.table leaver) ∙ ap kind_marked settled)

  -- links to others stay as they are
  pub links_stay : (other : List ℕ) (kind : Kind) → other ≢ leaver → kind_in ties.table other ≡ Some kind
      → kind_in (told_leave ties leaver replacement).table other ≡ Some kind
  links_stay other kind differs is =
      linked_after other kind (marked_kind other ∙ of_others leaver other kind_marked (kind_in ties.table other) differs ∙ is)

  -- and so does every other name but the replacement
  pub others_stay : (other : List ℕ) → other ≢ leaver → replacement ≢ Some other
      → kind_in (told_leave ties leaver replacement).table other ≡ kind_in ties.table other
  others_stay other differs not_given =
      let before = marked_kind other ∙ of_others leaver other kind_marked (kind_in ties.table other) differs in
      told_cases (λ t. kind_in t.table other ≡ kind_in ties.table other) before (λ name taken.
      let parts = taken_parts after leaver replacement name taken in
      let room = has_room_near after.table name in
      offered_kind name other taken
      ∙ of_others name other (kind_offered room) (kind_in after.table other) (λ same. not_given (parts.0 ∙ ap Some (sym same)))
      ∙ before)

  -- if another link of the slot is settled and not leaving, the mark is all
  pub marked_alone : has_settled_near after leaver ≡ true → told_leave ties leaver replacement ≡ after
  marked_alone settled =
      told_cases (λ t. t ≡ after) refl (λ name taken.
      let parts = taken_parts after leaver replacement name taken in
      let wrong : true ≡ false = sym settled ∙ parts.1 in cc)

  -- a name that has no link after the mark had none before
  unlinked_before : (other : List ℕ) → kind_in after.table other ≡ None → kind_in ties.table other ≡ None
  unlinked_before other none = unlinked_kind leaver other (kind_in ties.table other) (sym (marked_kind other) ∙ none)

  module _ (last : ℕ) where
    -- who is told that there is a link to it is the replacement: it had none, and has a settled one now
    pub told_is_new : (tie : Tie) → told_leave_tells ties last leaver replacement ≡ Some tie
        → IsWordFor ties (told_leave ties leaver replacement) replacement last tie
    told_is_new tie =
        tells_cases (λ t word. word ≡ Some tie → IsWordFor ties t replacement last tie) last (λ is. cc) (λ name taken is.
        let room = has_room_near after.table name in
        let word = word_given (is_none (kind_in after.table name) && room) last name tie is in
        let given = offer_told (kind_in after.table name) room word.0 in
        let to : name ≡ tie.to = ap (λ (w : Tie). w.to) word.1 in
        let parts = taken_parts after leaver replacement name taken in
        let now = offered_kind name name taken ∙ of_itself name (kind_offered room) (kind_in after.table name) in
        record {
          given = parts.0 ∙ ap Some to;
          version = sym (ap (λ (w : Tie). w.version) word.1);
          on = sym (ap (λ (w : Tie). w.on) word.1);
          was = ap (kind_in ties.table) (sym to) ∙ unlinked_before name given.0;
          now = ap (kind_in (offered after name).table) (sym to) ∙ now ∙ rw (given.0, given.1) refl;
        })

    -- and a node that is newly linked is told
    pub new_is_told : (other : List ℕ) (kind : Kind) → kind_in ties.table other ≡ None
        → kind_in (told_leave ties leaver replacement).table other ≡ Some kind
        → told_leave_tells ties last leaver replacement ≡ Some (record { to = other; version = last + 1; on = true })
    new_is_told other kind was =
        let unmarked : kind_in after.table other ≡ None =
        marked_kind other ∙ ap (by_rule leaver other kind_marked) was ∙ unlinked_stays leaver other in
        tells_cases
        (λ t word. kind_in t.table other ≡ Some kind → word ≡ Some (record { to = other; version = last + 1; on = true }))
        last
        (λ is. let wrong : None ≡ Some kind = sym unmarked ∙ is in cc)
        (λ name taken is. let room = has_room_near after.table name in
        let ruled : by_rule name other (kind_offered room) None ≡ Some kind =
        ap (by_rule name other (kind_offered room)) (sym unmarked) ∙ sym (offered_kind name other taken) ∙ is in
        elim (offered_rule_new name other room None kind ruled) [
          | inl was ↦ cc
          | inr new ↦
              let absent : kind_in after.table name ≡ None = ap (kind_in after.table) (sym new.0) ∙ unmarked in
              rw (absent, new.2) (ap (λ n. Some (link_word last n)) (sym new.0))
        ])

  module _ (name : List ℕ) (is_given : replacement ≡ Some name) (other : name ≢ ties.table.owner)
      (fits : slot_at ties.table.owner name ≡ slot_at ties.table.owner leaver) (unlinked : kind_in ties.table name ≡ None) where
    abbrev t : TableValue
    t = after.table

    same_place : place_of ties.table.owner name ≡ place_of ties.table.owner leaver
    same_place =
        let one = slot_of_other ties.table.settings ties.table.owner name are.table.owner (given name is_given) other in
        let two = slot_of_other ties.table.settings ties.table.owner leaver are.table.owner is_name apart in
        let same : Some (place_of ties.table.owner name) ≡ Some (place_of ties.table.owner leaver) = sym one ∙ fits ∙ two in
        cc

    -- the primaries of the slot, asked by the one name and by the other
    same_primary : (u : TableValue) → u.owner ≡ ties.table.owner → primary_near u name ≡ primary_near u leaver
    same_primary u owner =
        let place : place_of u.owner name ≡ place_of u.owner leaver =
        ap (λ o. place_of o name) owner ∙ same_place ∙ ap (λ o. place_of o leaver) (sym owner) in
        ap (λ (s : Slot). least_settled (get_or u.slots (slot_number u.settings.base s) [])) place

    taken_where_empty : has_settled_near after leaver ≡ false → taken_in after leaver replacement ≡ Some name
    taken_where_empty empty =
        let untied : bytes_eq name after.table.owner ≡ false = elim (cases_Bool (bytes_eq name after.table.owner)) [
          | inl tied ↦ absurd (other ((bytes_eq-Decides name after.table.owner).0 tied))
          | inr is ↦ is
        ] in
        ap (taken_in after leaver) is_given ∙ rw (empty, untied) refl

    filled_by_offer : has_settled_near after leaver ≡ false → primary_near (offered after name).table name ≡ Some name
    filled_by_offer empty =
        let none : primary_near t name ≡ None = same_primary t refl ∙ some_where (primary_near t leaver) empty in
        let absent : kind_in t name ≡ None =
        marked_kind name ∙ ap (by_rule leaver name kind_marked) unlinked ∙ unlinked_stays leaver name in
        let room : has_room_near t name ≡ true = elim (cases_Bool (has_room_near t name)) [
          | inl is ↦ is
          | inr full ↦
              let first = full_has_primary t name after_are.table full in
              let wrong : None ≡ Some first.0 = sym none ∙ first.1 in cc
        ] in
        primary_near-offered t name after_are.table (given name is_given) other ∙ rw (absent, room, none) refl

    -- where the replacement fits the leaver's slot and isn't linked, the slot then has a settled link that isn't leaving
    pub slot_filled : has_settled_near (told_leave ties leaver replacement) leaver ≡ true
    slot_filled =
        elim (cases_Bool (has_settled_near after leaver)) [
          | inl settled ↦ rw (marked_alone settled) settled
          | inr empty ↦
              let offer = ap (offered_if after) (taken_where_empty empty) in
              let there = sym (same_primary (offered after name).table refl) ∙ filled_by_offer empty in
              ap (λ u. has_settled_near u leaver) offer ∙ ap is_some there
        ]
