-- A table that settles on ascending names, one after another.
use Rattle.std.proofs.Common.{◌≡◌, ◌≢◌, inl, inr, ℕ, ◌+◌, ◌*◌, ◌<◌, nat_lt, cond, if◌then◌else◌, Bool, true, false, ◌&&◌, None, Some, List, [], ◌∷◌, ◌++◌, length, map, set, take, filter, get_or, All, AllPairs, refl, ap, sym, ◌∙◌, arith}
use Rattle.std.specs.List.{range_with_len}
use Rattle.std.specs.Option.{is_none}
use Rattle.std.specs.Ordering.{is_gt, is_lt, ordering_reverse}
use Rattle.std.specs.declared.cmp.Ordering.TheVariants.{Greater}
use Rattle.std.proofs.Math.Seq.{take-nil}
use Rattle.std.proofs.lemmas.Bool.{cases_Bool, cases_eq}
use Rattle.std.proofs.lemmas.Cmp.{nat_list_cmp_total}
use Rattle.std.proofs.lemmas.List.{get_or-replicate, get_or-set_other, get_or-set_same, get_or-take, length-replicate, length-set, length-take, map-append}
use Rattle.std.proofs.lemmas.List.Elements.{All-filter, All-from_get_or, All-head, All-tail, All-take}
use Rattle.std.proofs.lemmas.List.Sums.{sum_by-cons}
use Rattle.std.proofs.lemmas.List.FromFn.{fill_by_all}
use Rattle.tap_name.specs.Name.{IsName}
use Rattle.tap_name.specs.Settings.{SettingsValue}
use Rattle.tap_name.specs.Slot.{slot_at}
use Rattle.tap_link.specs.declared.kind.Kind.TheVariants.{Settled}
use Rattle.tap_link.specs.Entry.{LinkEntry}
use Rattle.tap_link.specs.LinkSet.{LinkSetValue, is_settled, kind_of, settled_count, with_link}
use Rattle.tap_table.specs.Members.{IsBelow, first_fitting, fitting, is_slot, settled_links, table_at_rest}
use Rattle.tap_table.specs.Table.{SlotLinks, TableValue, empty_table, has_room_near, kind_in, links_near, name_cmp, near, offered, place_of, slot_number, slot_numbered, with_near}
use Rattle.tap_table.proofs.Fitting.{fits_no_other, fits_own, fitting-push, fitting-skip, no_slot_of_itself, take-push}
use Rattle.tap_table.proofs.Near.{with_near_same}
use Rattle.tap_table.proofs.Slots.{target_inside}

-- a name above the targets of settled links
abbrev pub IsAbove : List ℕ → List (List ℕ) → Type 0
IsAbove name targets = All (λ target. IsBelow target name) targets

above : (a name : List ℕ) → IsBelow a name → name_cmp name a ≡ Greater
above a name below = nat_list_cmp_total.antisymm name a ∙ ap ordering_reverse below

-- it goes after them
module _ (name : List ℕ) where
  none_after : (targets : List (List ℕ)) → IsAbove name targets → filter (λ e. is_lt (name_cmp name e.target)) (settled_links targets) ≡ []
  none_after [] all = refl
  none_after (x ∷ xs) all =
      let here = above x name (All-head (λ t. IsBelow t name) x xs all) in
      rw here (none_after xs (All-tail (λ t. IsBelow t name) x xs all))

  all_before : (targets : List (List ℕ)) → IsAbove name targets
      → filter (λ e. is_gt (name_cmp name e.target)) (settled_links targets) ≡ settled_links targets
  all_before [] all = refl
  all_before (x ∷ xs) all =
      let here = above x name (All-head (λ t. IsBelow t name) x xs all) in
      let first : LinkEntry (List ℕ) = record { target = x; kind = Settled } in
      rw here (ap (λ l. first ∷ l) (all_before xs (All-tail (λ t. IsBelow t name) x xs all)))

  pub with_link_after : (targets : List (List ℕ)) → IsAbove name targets
      → with_link name_cmp (settled_links targets) name Settled ≡ settled_links (targets ++ name ∷ [])
  with_link_after targets all =
      rw (all_before targets all, none_after targets all) (sym (map-append _ targets (name ∷ [])))

  pub not_linked : (targets : List (List ℕ)) → IsAbove name targets → kind_of name_cmp (settled_links targets) name ≡ None
  not_linked [] all = refl
  not_linked (x ∷ xs) all =
      let here = above x name (All-head (λ t. IsBelow t name) x xs all) in rw here (not_linked xs (All-tail (λ t. IsBelow t name) x xs all))

pub all_settled : (targets : List (List ℕ)) → settled_count (settled_links targets) ≡ length targets
all_settled [] = refl
all_settled (x ∷ xs) =
    let more = sum_by-cons (λ (e : LinkEntry (List ℕ)). cond {A = ℕ} (is_settled (Some e.kind)) 1 0) (record { target = x; kind = Settled })
    (settled_links xs) in
    more ∙ omega (arith, all_settled xs)

-- a table that has settled on these names
pub record HasSettled (p : SettingsValue) (owner : List ℕ) (names : List (List ℕ)) (t : TableValue) : Type 0 where
  pub owner_is : t.owner ≡ owner
  pub settings_are : t.settings ≡ p
  pub count : length t.slots ≡ p.base * p.digits
  pub each : (k : ℕ) → k < p.base * p.digits → get_or t.slots k [] ≡ settled_links (first_fitting p owner (slot_numbered p.base k) names)

pub settled_on_none : (p : SettingsValue) (owner : List ℕ) (t : TableValue) → t ≡ empty_table p owner → HasSettled p owner [] t
settled_on_none p owner t is =
    record {
      owner_is = ap (λ u. u.owner) is;
      settings_are = ap (λ u. u.settings) is;
      count = ap (λ u. length u.slots) is ∙ length-replicate (p.base * p.digits) [];
      each = λ k inside. ap (λ u. get_or u.slots k []) is ∙ get_or-replicate (p.base * p.digits) k [] [] inside
          ∙ ap settled_links (sym (take-nil {A = List ℕ} p.width));
    }

pub settled_on_all : (p : SettingsValue) (owner : List ℕ) (names : List (List ℕ)) (t : TableValue) → HasSettled p owner names t
    → t ≡ table_at_rest p owner names
settled_on_all p owner names t has =
    let of : ℕ → SlotLinks = λ number. settled_links (first_fitting p owner (slot_numbered p.base number) names) in
    let slots : t.slots ≡ map of (range_with_len 0 (p.base * p.digits)) =
    fill_by_all of t.slots (p.base * p.digits) [] has.count has.each in
    let with_owner : List ℕ → TableValue = λ o. record { owner = o; settings = t.settings; slots = t.slots } in
    let with_settings : SettingsValue → TableValue = λ q. record { owner = owner; settings = q; slots = t.slots } in
    let with_slots : List SlotLinks → TableValue = λ l. record { owner = owner; settings = p; slots = l } in
    ap with_owner has.owner_is ∙ ap with_settings has.settings_are ∙ ap with_slots slots

-- the first names of an ascending list are below the next
pub above_the_first : (names : List (List ℕ)) (i : ℕ) (d : List ℕ) → AllPairs IsBelow names → i < length names
    → IsAbove (get_or names i d) (take i names)
above_the_first names i d ascending within =
    let name = get_or names i d in
    All-from_get_or (λ target. IsBelow target name) (take i names) d
    (λ k inside.
    let len = length-take i names in
    let lt : k < i = omega arith in
    rw (get_or-take i names k d lt) (ascending k i d lt within))

above_fitting : (p : SettingsValue) (owner name : List ℕ) (k : ℕ) (names : List (List ℕ)) → IsAbove name names
    → IsAbove name (first_fitting p owner (slot_numbered p.base k) names)
above_fitting p owner name k names all =
    All-take (λ t. IsBelow t name) p.width (fitting owner (slot_numbered p.base k) names)
    (All-filter (λ member. is_slot (slot_numbered p.base k) (slot_at owner member)) (λ t. IsBelow t name) names all)

module _ (p : SettingsValue) (owner : List ℕ) (names : List (List ℕ)) (i : ℕ) (name : List ℕ) (old new : TableValue) where
  pub settled_on_owner : HasSettled p owner (take i names) old → i < length names → name ≡ get_or names i name → name ≡ owner → new ≡ old
      → HasSettled p owner (take (i + 1) names) new
  settled_on_owner has within is own same =
      let fits_none : (k : ℕ) → is_slot (slot_numbered p.base k) (slot_at owner (get_or names i name)) ≡ false = λ k.
      rw (← is, own, no_slot_of_itself owner) refl in
      record {
        owner_is = ap (λ u. u.owner) same ∙ has.owner_is;
        settings_are = ap (λ u. u.settings) same ∙ has.settings_are;
        count = ap (λ u. length u.slots) same ∙ has.count;
        each = λ k inside.
            let skip = fitting-skip owner (slot_numbered p.base k) names i name within (fits_none k) in
            ap (λ u. get_or u.slots k []) same ∙ has.each k inside ∙ ap (λ l. settled_links (take p.width l)) (sym skip);
      }

  -- the number of the name's slot, and the targets that the slot has
  abbrev mine : ℕ
  mine = slot_number p.base (place_of owner name)

  abbrev targets : List (List ℕ)
  targets = first_fitting p owner (slot_numbered p.base mine) (take i names)

  fitting_here : IsName p owner → IsName p name → i < length names → name ≡ get_or names i name → name ≢ owner → (k : ℕ) → k ≡ mine
      → first_fitting p owner (slot_numbered p.base k) (take (i + 1) names)
      ≡ cond (nat_lt (length targets) p.width) (targets ++ name ∷ []) targets
  fitting_here is_owner is_name within is other k here =
      let slot = slot_numbered p.base mine in
      let fits : is_slot slot (slot_at owner (get_or names i name))
      ≡ true = rw (← is) (fits_own p owner name mine is_owner is_name other refl) in
      let more = fitting-push owner slot names i name within fits in
      let at : ℕ → List (List ℕ) = λ n. first_fitting p owner (slot_numbered p.base n) (take (i + 1) names) in
      ap at here ∙ ap (take p.width) more ∙ ap (λ x. take p.width (fitting owner slot (take i names) ++ x ∷ [])) (sym is)
      ∙ take-push p.width (fitting owner slot (take i names)) name

  fitting_elsewhere : IsName p owner → IsName p name → i < length names → name ≡ get_or names i name → name ≢ owner → (k : ℕ) → k ≢ mine
      → first_fitting p owner (slot_numbered p.base k) (take (i + 1) names) ≡ first_fitting p owner (slot_numbered p.base k) (take i names)
  fitting_elsewhere is_owner is_name within is other k ne =
      let slot = slot_numbered p.base k in
      let fails : is_slot slot (slot_at owner (get_or names i name))
      ≡ false = rw (← is) (fits_no_other p owner name k is_owner is_name other ne) in
      ap (take p.width) (fitting-skip owner slot names i name within fails)

  number_is : HasSettled p owner (take i names) old → slot_number old.settings.base (place_of old.owner name) ≡ mine
  number_is has =
      ap (λ (q : SettingsValue). slot_number q.base (place_of old.owner name)) has.settings_are
      ∙ ap (λ o. slot_number p.base (place_of o name)) has.owner_is

  near_is : HasSettled p owner (take i names) old → IsName p owner → IsName p name → name ≢ owner
      → links_near old name ≡ settled_links targets
  near_is has is_owner is_name other =
      ap (λ n. get_or old.slots n []) (number_is has) ∙ has.each mine (target_inside p owner name is_owner is_name other)

  has_room_is : HasSettled p owner (take i names) old → IsName p owner → IsName p name → name ≢ owner
      → has_room_near old name ≡ nat_lt (length targets) p.width
  has_room_is has is_owner is_name other =
      ap (λ l. nat_lt (settled_count l) old.settings.width) (near_is has is_owner is_name other)
      ∙ ap (λ n. nat_lt n old.settings.width) (all_settled targets)
      ∙ ap (λ (q : SettingsValue). nat_lt (length targets) q.width) has.settings_are

  same_after : HasSettled p owner (take i names) old → IsName p owner → IsName p name → i < length names → name ≡ get_or names i name
      → name ≢ owner
      → nat_lt (length targets) p.width ≡ false → new ≡ old → HasSettled p owner (take (i + 1) names) new
  same_after has is_owner is_name within is other full same =
      record {
        owner_is = ap (λ u. u.owner) same ∙ has.owner_is;
        settings_are = ap (λ u. u.settings) same ∙ has.settings_are;
        count = ap (λ u. length u.slots) same ∙ has.count;
        each = λ k inside. elim (cases_eq k mine) [
          | inl here ↦
              let now = fitting_here is_owner is_name within is other k here ∙ ap (λ b. cond b (targets ++ name ∷ []) targets) full in
              ap (λ u. get_or u.slots k []) same ∙ has.each k inside
              ∙ ap (λ n. settled_links (first_fitting p owner (slot_numbered p.base n) (take i names))) here ∙ ap settled_links (sym now)
          | inr ne ↦
              ap (λ u. get_or u.slots k []) same ∙ has.each k inside
              ∙ ap settled_links (sym (fitting_elsewhere is_owner is_name within is other k ne))
        ];
      }

  more_after : HasSettled p owner (take i names) old → IsName p owner → IsName p name → i < length names → name ≡ get_or names i name
      → name ≢ owner
      → nat_lt (length targets) p.width ≡ true
      → new.slots ≡ set old.slots (slot_number old.settings.base (place_of old.owner name)) (settled_links (targets ++ name ∷ []))
      → new.owner ≡ old.owner → new.settings ≡ old.settings
      → HasSettled p owner (take (i + 1) names) new
  more_after has is_owner is_name within is other room grown same_owner same_settings =
      let links = settled_links (targets ++ name ∷ []) in
      let number = number_is has in
      let slots : new.slots ≡ set old.slots mine links = grown ∙ ap (λ n. set old.slots n links) number in
      record {
        owner_is = same_owner ∙ has.owner_is;
        settings_are = same_settings ∙ has.settings_are;
        count = ap length slots ∙ length-set old.slots mine links ∙ has.count;
        each = λ k inside. elim (cases_eq k mine) [
          | inl here ↦
              let now = fitting_here is_owner is_name within is other k here ∙ ap (λ b. cond b (targets ++ name ∷ []) targets) room in
              let there : mine < length old.slots = let c = has.count in omega arith in
              ap (λ l. get_or l k []) slots ∙ ap (λ n. get_or (set old.slots mine links) n []) here
              ∙ get_or-set_same old.slots mine links [] there
              ∙ ap settled_links (sym now)
          | inr ne ↦
              ap (λ l. get_or l k []) slots ∙ get_or-set_other old.slots mine k links [] ne ∙ has.each k inside
              ∙ ap settled_links (sym (fitting_elsewhere is_owner is_name within is other k ne))
        ];
      }

  pub settled_on_other : HasSettled p owner (take i names) old → IsName p owner → IsName p name → AllPairs IsBelow names → i < length names
      → name ≡ get_or names i name → name ≢ owner → new ≡ offered old name → HasSettled p owner (take (i + 1) names) new
  settled_on_other has is_owner is_name ascending within is other new_is =
      let at = near_is has is_owner is_name other in
      let first : IsAbove name (take i names) = rw (← is) at (above_the_first names i name ascending within) in
      let over = above_fitting p owner name mine (take i names) first in
      let absent : kind_in old name ≡ None = ap (λ l. kind_of name_cmp l name) at ∙ not_linked name targets over in
      let room = has_room_is has is_owner is_name other in
      let after : with_link name_cmp (links_near old name) name Settled ≡ settled_links (targets ++ name ∷ []) =
      ap (λ l. with_link name_cmp l name Settled) at ∙ with_link_after name targets over in
      let added : LinkSetValue (List ℕ) =
      record { width = old.settings.width; links = with_link name_cmp (links_near old name) name Settled } in
      let result : Bool → TableValue = λ b. with_near old name (if b then added else near old name) in
      let test : (is_none (kind_in old name) && has_room_near old name) ≡ nat_lt (length targets) p.width =
      ap (λ k. is_none k && has_room_near old name) absent ∙ room in
      elim (cases_Bool (nat_lt (length targets) p.width)) [
        | inl e ↦
            let grown : new ≡ with_near old name added = new_is ∙ ap result (test ∙ e) in
            let slots = set old.slots (slot_number old.settings.base (place_of old.owner name)) in
            more_after has is_owner is_name within is other e (ap (λ u. u.slots) grown ∙ ap slots after) (ap (λ u. u.owner) grown)
            (ap (λ u. u.settings) grown)
        | inr e ↦
            same_after has is_owner is_name within is other e (new_is ∙ ap result (test ∙ e) ∙ with_near_same old name)
      ]
