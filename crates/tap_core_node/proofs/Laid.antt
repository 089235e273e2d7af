-- Each pair stays laid as wanted if no primary changes.
use Rattle.std.proofs.Common.{◌≡◌, ◌≢◌, ℕ, ◌<◌, List, [], get_or, drop, nat_eq, ◌||◌, true, false, IfSome, Option, None, Some, is_some, refl, sym, ap, subst, ◌∙◌, inl, inr}
use Rattle.std.specs.Cmp.Lexicographic.{pointwise}
use Rattle.std.specs.Option.{option_eq}
use Rattle.std.proofs.lemmas.Bool.{cases_Bool, cases_eq, or_parts}
use Rattle.std.proofs.lemmas.Slice.Eq.{bytes_eq-Decides}
use Rattle.tap_name.specs.declared.slot.Slot.{Slot}
use Rattle.tap_name.specs.Name.{IsName}
use Rattle.tap_link.specs.LinkSet.{least_settled}
use Rattle.tap_link.specs.LinkSet.{LinkSetValue, marked as set_marked, offered as set_offered, released as set_released, removed as set_removed}
use Rattle.tap_table.specs.Next.{primary_at}
use Rattle.tap_table.specs.Table.{IsTable, TableValue, forgotten, marked, name_cmp, near, offered, pinned, place_of, released, removed, slot_number, slot_numbered, with_near}
use Rattle.tap_table.specs.Ties.{TiesValue, marked as ties_marked}
use Rattle.tap_table.proofs.Hops.{same_hops}
use Rattle.tap_table.proofs.KeptTable.{IsTable-marked}
use Rattle.tap_table.proofs.Near.{number_near}
use Rattle.tap_table.proofs.Primaries.{primary_at-forgotten, primary_at-marked_other, primary_at-pinned, primary_elsewhere, primary_near}
use Rattle.tap_table.proofs.Slots.{number_back, place_inside}
use Rattle.tap_pointer.specs.declared.pair.Pair.{Pair}
use Rattle.tap_pointer.specs.declared.state.PairState.{PairState}
use Rattle.tap_pointer.specs.Pointers.{PointersValue, level_held}
use Rattle.tap_pointer.specs.Reconcile.{AreLaid, AreLaidBeside, hop_from, hop_of, wanted_hop}
use Rattle.tap_pointer.proofs.Beside.{laid_beside}
use Rattle.tap_depart.specs.ToldLeave.{has_settled_near, offered_if, told_leave}
use Rattle.tap_node_common.specs.SoundNode.{PairsHaveNames}
use Rattle.tap_core_node.specs.Primaries.{IsLevelOfLeave, has_other_primary, is_another}

-- tables of one owner and base, with the same primaries
module _ (t u : TableValue) (owner : t.owner ≡ u.owner) (base : t.settings.base ≡ u.settings.base)
    (primaries : (level digit : ℕ) → primary_at t level digit ≡ primary_at u level digit) where
  same_from : (object : List ℕ) (level : Option ℕ) → hop_from t object level ≡ hop_from u object level
  same_from object None = refl
  same_from object (Some level) = ap hop_of (same_hops t u owner base primaries level (drop level object))

  same_wanted : (e : Pair × PairState) → wanted_hop t e ≡ wanted_hop u e
  same_wanted (pair, state) = same_from pair.object (level_held state)

  laid_alike : (pointers : PointersValue) → AreLaid t pointers → AreLaid u pointers
  laid_alike pointers laid = λ k d within. laid k d within ∙ same_wanted (get_or pointers.pairs k d)

module _ (t : TableValue) (name : List ℕ) (valid : IsTable t) (is_name : IsName t.settings name) (other : name ≢ t.owner)
    (pointers : PointersValue) (laid : AreLaid t pointers) where
  pub laid-pinned : AreLaid (pinned t name) pointers
  laid-pinned =
      laid_alike t (pinned t name) refl refl
      (λ level digit. sym (primary_at-pinned t name valid is_name other level digit)) pointers laid

  pub laid-forgotten : AreLaid (forgotten t name) pointers
  laid-forgotten =
      laid_alike t (forgotten t name) refl refl
      (λ level digit. sym (primary_at-forgotten t name valid is_name other level digit)) pointers laid

-- another set in the slot of a name, with the primary that the slot had
module _ (t : TableValue) (name : List ℕ) (valid : IsTable t) (is_name : IsName t.settings name) (other : name ≢ t.owner) where
  module _ (new : LinkSetValue (List ℕ)) (same : primary_near (with_near t name new) name ≡ primary_near t name) where
    primary_at-same : (level digit : ℕ) → primary_at (with_near t name new) level digit ≡ primary_at t level digit
    primary_at-same level digit =
        let slot : Slot = record { level = level; digit = digit } in
        elim (cases_eq (slot_number t.settings.base slot) (number_near t name)) [
          | inl is ↦
              let now = ap (λ n. least_settled (get_or (with_near t name new).slots n [])) is in
              let before = ap (λ n. least_settled (get_or t.slots n [])) is in
              now ∙ same ∙ sym before
          | inr ne ↦ primary_elsewhere t name valid is_name other new level digit ne
        ]

    laid-same : (pointers : PointersValue) → AreLaid t pointers → AreLaid (with_near t name new) pointers
    laid-same pointers laid =
        laid_alike t (with_near t name new) refl refl (λ level digit. sym (primary_at-same level digit)) pointers laid

  -- a release, and the end of a link
  pub laid-released : primary_near (released t name) name ≡ primary_near t name
      → (pointers : PointersValue) → AreLaid t pointers → AreLaid (released t name) pointers
  laid-released same = laid-same (set_released name_cmp (near t name) name) same

  pub laid-removed : primary_near (removed t name) name ≡ primary_near t name
      → (pointers : PointersValue) → AreLaid t pointers → AreLaid (removed t name) pointers
  laid-removed same = laid-same (set_removed name_cmp (near t name) name) same

  -- the mark of a link that isn't the slot's primary
  module _ (is_other : has_other_primary t name ≡ true) where
    other_first : (found : Option (List ℕ)) → is_another name found ≡ true → found ≢ Some name
    other_first None is same = let wrong : None ≡ Some name = same in absurd (cc)
    other_first (Some first) is same =
        let names : first ≡ name = cc in
        let alike : pointwise nat_eq first name ≡ true = (bytes_eq-Decides first name).1 names in
        let wrong : false ≡ true = rw alike at is in absurd (cc)

    some_first : (found : Option (List ℕ)) → is_another name found ≡ true → is_some found ≡ true
    some_first None is = let wrong : false ≡ true = is in absurd (cc)
    some_first (Some first) is = refl

    primary_at-marked : (level digit : ℕ) → primary_at (marked t name) level digit ≡ primary_at t level digit
    primary_at-marked =
        primary_at-marked_other t name valid is_name other (other_first (primary_near t name) is_other)

    pub laid-marked : (pointers : PointersValue) → AreLaid t pointers → AreLaid (marked t name) pointers
    laid-marked pointers laid =
        laid_alike t (marked t name) refl refl (λ level digit. sym (primary_at-marked level digit)) pointers laid

    -- then no replacement is wanted
    pub none_wanted : is_some (primary_near (marked t name) name) ≡ true
    none_wanted =
        ap is_some (primary_at-marked (place_of t.owner name).level (place_of t.owner name).digit)
        ∙ some_first (primary_near t name) is_other

-- a release leaves the primaries of all levels but the one of the name's slot
module _ (t : TableValue) (name : List ℕ) (valid : IsTable t) (is_name : IsName t.settings name) (other : name ≢ t.owner) where
  abbrev own_place : Slot
  own_place = place_of t.owner name

  apart_numbers : (level digit : ℕ) → level ≢ own_place.level → digit < t.settings.base
      → slot_number t.settings.base (record { level = level; digit = digit }) ≢ number_near t name
  apart_numbers level digit ne below same =
      let slot : Slot = record { level = level; digit = digit } in
      let there = number_back t.settings.base slot below in
      let here = number_back t.settings.base own_place (place_inside t.settings t.owner name valid.owner is_name other).1 in
      ne (ap (λ (s : Slot). s.level) (sym there ∙ ap (slot_numbered t.settings.base) same ∙ here))

  primary_at-released_beside : (level digit : ℕ) → level ≢ own_place.level → digit < t.settings.base
      → primary_at t level digit ≡ primary_at (released t name) level digit
  primary_at-released_beside level digit ne below =
      sym (primary_elsewhere t name valid is_name other (set_released name_cmp (near t name) name) level digit
      (apart_numbers level digit ne below))

  pub laid-released_beside : (pointers : PointersValue) → PairsHaveNames t.settings pointers → AreLaid t pointers
      → AreLaidBeside (released t name) own_place.level pointers
  laid-released_beside pointers named laid =
      laid_beside t (released t name) refl refl own_place.level primary_at-released_beside pointers
      (λ k d within. (named k d within).0) laid

-- a Leave of a node that isn't its slot's primary marks the link alone
module _ (ties : TiesValue) (name : List ℕ) (valid : IsTable ties.table) (is_name : IsName ties.table.settings name)
    (other : name ≢ ties.table.owner) (is_other : has_other_primary ties.table name ≡ true) where
  pub told_leave-marked : (replacement : Option (List ℕ)) → told_leave ties name replacement ≡ ties_marked ties name
  told_leave-marked None = refl
  told_leave-marked (Some next) =
      let settled : has_settled_near (ties_marked ties name) name ≡ true = none_wanted ties.table name valid is_name other is_other in
      rw settled refl

  pub laid-told_leave : (replacement : Option (List ℕ)) (pointers : PointersValue) → AreLaid ties.table pointers
      → AreLaid (told_leave ties name replacement).table pointers
  laid-told_leave replacement pointers laid =
      subst (λ (u : TiesValue). AreLaid u.table pointers) (sym (told_leave-marked replacement))
      (laid-marked ties.table name valid is_name other is_other pointers laid)

-- a Leave whose replacement stands at the leaver's level, if there is one, changes primaries of this level alone
module _ (ties : TiesValue) (name : List ℕ) (valid : IsTable ties.table) (is_name : IsName ties.table.settings name)
    (other : name ≢ ties.table.owner) where
  abbrev at_level : ℕ
  at_level = (place_of ties.table.owner name).level

  abbrev Fits : Option (List ℕ) → Type 0
  Fits None = Unit {0}
  Fits (Some next) = IsName ties.table.settings next × (next ≢ ties.table.owner) × ((place_of ties.table.owner next).level ≡ at_level)

  marked_beside : (level digit : ℕ) → level ≢ at_level → digit < ties.table.settings.base
      → primary_at ties.table level digit ≡ primary_at (marked ties.table name) level digit
  marked_beside level digit ne below =
      sym (primary_elsewhere ties.table name valid is_name other (set_marked name_cmp (near ties.table name) name) level digit
      (apart_numbers ties.table name valid is_name other level digit ne below))

  offered_beside : (next : List ℕ) → Fits (Some next) → (level digit : ℕ) → level ≢ at_level → digit < ties.table.settings.base
      → primary_at ties.table level digit ≡ primary_at (offered (marked ties.table name) next) level digit
  offered_beside next fits level digit ne below =
      let after : TableValue = marked ties.table name in
      let valid_after : IsTable after = IsTable-marked ties.table name valid is_name other in
      let apart : level ≢ (place_of after.owner next).level = λ same. ne (same ∙ fits.2) in
      marked_beside level digit ne below
      ∙ sym (primary_elsewhere after next valid_after fits.0 fits.1 (set_offered name_cmp (near after next) next) level digit
      (apart_numbers after next valid_after fits.0 fits.1 level digit apart below))

  module _ (pointers : PointersValue) (named : PairsHaveNames ties.table.settings pointers) (laid : AreLaid ties.table pointers) where
    by_taken : (taken : Option (List ℕ)) → Fits taken
        → AreLaidBeside (offered_if (ties_marked ties name) taken).table at_level pointers
    by_taken None fits =
        laid_beside ties.table (marked ties.table name) refl refl at_level marked_beside pointers
        (λ k d within. (named k d within).0) laid
    by_taken (Some next) fits =
        laid_beside ties.table (offered (marked ties.table name) next) refl refl at_level (offered_beside next fits) pointers
        (λ k d within. (named k d within).0) laid

    pub laid-told_leave_beside : (replacement : Option (List ℕ)) → IfSome replacement (IsName ties.table.settings)
        → IfSome replacement (λ next. (place_of ties.table.owner next).level ≡ at_level)
        → AreLaidBeside (told_leave ties name replacement).table at_level pointers
    laid-told_leave_beside None is_next level_is = by_taken None tt
    laid-told_leave_beside (Some next) is_next level_is =
        elim (cases_Bool (has_settled_near (ties_marked ties name) name || pointwise nat_eq next ties.table.owner)) [
          | inl none ↦ rw none (by_taken None tt)
          | inr wanted ↦
              let parts = or_parts (has_settled_near (ties_marked ties name) name) (pointwise nat_eq next ties.table.owner) wanted in
              let apart : next ≢ ties.table.owner = λ same.
              let alike : pointwise nat_eq next ties.table.owner ≡ true = (bytes_eq-Decides next ties.table.owner).1 same in
              let wrong : false ≡ true = sym parts.1 ∙ alike in absurd (cc) in
              rw wanted (by_taken (Some next) (is_next, apart, level_is))
        ]

    pub laid-leave_at : (replacement : Option (List ℕ)) → IfSome replacement (IsName ties.table.settings) → (level : Option ℕ)
        → IfSome level (IsLevelOfLeave ties.table name replacement)
        → IfSome level (λ l. AreLaidBeside (told_leave ties name replacement).table l pointers)
    laid-leave_at replacement is_next None is = tt
    laid-leave_at replacement is_next (Some level) is =
        subst (λ l. AreLaidBeside (told_leave ties name replacement).table l pointers) (sym is.leaver_is)
        (laid-told_leave_beside replacement is_next is.replacement_is)

-- options that are tested equal are the same
pub same_primary : (one other : Option (List ℕ)) → option_eq (pointwise nat_eq) one other ≡ true → one ≡ other
same_primary None None is = refl
same_primary None (Some name) is = cc
same_primary (Some name) None is = cc
same_primary (Some first) (Some second) is = ap Some ((bytes_eq-Decides first second).0 is)
