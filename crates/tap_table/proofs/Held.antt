-- A member at rest is a holder of another that is on exactly where its own table, at rest over the same members, has it.
-- Cited above: holds_exactly
use Rattle.std.proofs.Common.{◌≡◌, ◌≢◌, ◌↔◌, ℕ, Bool, true, false, None, Some, List, [], ◌∷◌, map, filter, All, ap, sym, refl, subst, ◌∙◌, inl, inr}
use Rattle.std.specs.Prelude.{Contains}
use Rattle.std.specs.List.Sorted.{IsPermutation}
use Rattle.std.specs.Ordering.{is_eq}
use Rattle.std.proofs.lemmas.Bool.{cases_Bool}
use Rattle.std.proofs.lemmas.List.Sorted.{All-permutation}
use Rattle.tap_name.specs.Name.{IsName}
use Rattle.tap_name.specs.Names.{Among, AreDistinct}
use Rattle.tap_name.specs.Order.{AreAscending, IsBelow, sorted}
use Rattle.tap_name.specs.Settings.{AreWithinLimits, SettingsValue}
use Rattle.tap_name.proofs.Membership.{Contains-from_among, among-from_Contains, has_name-Decides}
use Rattle.tap_name.proofs.Names.{among-filter, among-filter_from}
use Rattle.tap_name.proofs.Orders.{below-cases, below-itself}
use Rattle.tap_name.proofs.Sorted.{among-sorted, sorted-ascending, sorted-of_ascending, sorted-permutation, sorted-same}
use Rattle.tap_link.specs.declared.kind.Kind.TheVariants.{Settled}
use Rattle.tap_link.specs.LinkSet.{kind_of}
use Rattle.tap_table.specs.Members.{AreAtRest, IsTableAtRest, first_fitting, holders_at_rest, holds, settled_links, table_at_rest, ties_at_rest}
use Rattle.tap_register.specs.declared.registers.Entry.{Entry}
use Rattle.tap_table.specs.Table.{IsTable, TableValue, kind_in, links_near, name_cmp, place_of, slot_number}
use Rattle.tap_table.specs.Ties.{AreTies, TiesValue, is_on}
use Rattle.tap_table.proofs.AtRest.{AreTies-at_rest, IsTable-at_rest, links_at_rest}
use Rattle.tap_table.proofs.Found.{owner_unlinked}
use Rattle.tap_table.proofs.Holders.{on}
use Rattle.tap_table.proofs.Holding.{not_held_by_itself, word_of}
use Rattle.tap_table.proofs.HoldersFound.{on_exactly}
use Rattle.tap_table.proofs.Near.{tied_itself, tied_names}
use Rattle.tap_table.proofs.Slots.{number_back, place_inside, target_inside}

-- what is at rest over the members is a function of them
pub names_at_rest : (p : SettingsValue) (owner : List ℕ) (members : List (List ℕ)) (table : TableValue)
    → (rest : IsTableAtRest p owner members table) → rest.names ≡ sorted members
names_at_rest p owner members table rest =
    sym (sorted-of_ascending rest.names rest.ascending) ∙ sym (sorted-same members rest.names rest.same)

pub table_is_at_rest : (p : SettingsValue) (owner : List ℕ) (members : List (List ℕ)) (table : TableValue)
    → IsTableAtRest p owner members table → table ≡ table_at_rest p owner (sorted members)
table_is_at_rest p owner members table rest = rest.is ∙ ap (table_at_rest p owner) (names_at_rest p owner members table rest)

pub ties_are_at_rest : (p : SettingsValue) (owner : List ℕ) (members : List (List ℕ)) (ties : TiesValue)
    → AreAtRest p owner members ties → ties ≡ ties_at_rest p owner members
ties_are_at_rest p owner members ties rest =
    let table = table_is_at_rest p owner members ties.table rest.table in
    let names = names_at_rest p owner members ties.table rest.table in
    let holders = rest.holders ∙ ap (λ l. holders_at_rest p owner l l) names in
    let with_table : TableValue → TiesValue = λ t. record ties { table = t } in
    ap with_table table ∙ ap (λ h. record { table = table_at_rest p owner (sorted members); holders = h }) holders

-- settled links have these targets, and no others
among_settled : (targets : List (List ℕ)) (name : List ℕ) → Among name targets
    → kind_of name_cmp (settled_links targets) name ≡ Some Settled
among_settled [] name among = absurd among
among_settled (x ∷ xs) name (inl same) = rw (same, tied_itself x) refl
among_settled (x ∷ xs) name (inr later) =
    elim (cases_Bool (is_eq (name_cmp name x))) [
      | inl tied ↦ rw tied refl
      | inr apart ↦ rw apart (among_settled xs name later)
    ]

settled_among : (targets : List (List ℕ)) (name : List ℕ) → kind_of name_cmp (settled_links targets) name ≡ Some Settled
    → Among name targets
settled_among [] name settled = cc
settled_among (x ∷ xs) name settled =
    elim (cases_Bool (is_eq (name_cmp name x))) [
      | inl tied ↦ inl (tied_names name x tied)
      | inr apart ↦ inr (settled_among xs name (rw apart at settled))
    ]

-- the words of these names are those of all of them
on_words : (names : List (List ℕ)) → on (map word_of names) ≡ names
on_words [] = refl
on_words (x ∷ xs) = ap (λ l. x ∷ l) (on_words xs)

module _ (p : SettingsValue) (names : List (List ℕ)) (limits : AreWithinLimits p) (are_names : All (IsName p) names)
    (ascending : AreAscending names) (owner member : List ℕ) (is_owner : IsName p owner) (is_member : IsName p member) where
  abbrev targets : List (List ℕ)
  targets = first_fitting p member (place_of member owner) names

  -- the links of a member's slot for the owner
  links_for : member ≢ owner → links_near (table_at_rest p member names) owner ≡ settled_links targets
  links_for other =
      let owner_is_other : owner ≢ member = λ same. other (sym same) in
      let number = slot_number p.base (place_of member owner) in
      let inside = target_inside p member owner is_member is_owner owner_is_other in
      let digit = (place_inside p member owner is_member is_owner owner_is_other).1 in
      links_at_rest p member names number inside
      ∙ ap (λ slot. settled_links (first_fitting p member slot names)) (number_back p.base (place_of member owner) digit)

  -- a member's table has the owner exactly where the member holds it
  held_exactly : member ≢ owner → (holds p owner names member ≡ true)
      ↔ (kind_in (table_at_rest p member names) owner ≡ Some Settled)
  held_exactly other =
      let links = links_for other in
      let decides = has_name-Decides targets owner in (
        λ held. ap (λ l. kind_of name_cmp l owner) links ∙ among_settled targets owner (decides.0 held),
        λ settled. decides.1 (settled_among targets owner (sym (ap (λ l. kind_of name_cmp l owner) links) ∙ settled)),
      )

  -- no member holds itself, and its table doesn't have it
  itself_exactly : member ≡ owner → (holds p owner names member ≡ true)
      ↔ (kind_in (table_at_rest p member names) owner ≡ Some Settled)
  itself_exactly same = (
    λ held.
        let wrong : true ≡ false = sym held ∙ ap (holds p owner names) same ∙ not_held_by_itself p owner names in cc,
    λ settled.
        let none = owner_unlinked (table_at_rest p member names) (IsTable-at_rest p member names limits is_member are_names ascending) in
        let wrong : None ≡ Some Settled = sym none ∙ ap (kind_in (table_at_rest p member names)) same ∙ settled in cc,
  )

  pub holds_exactly : (holds p owner names member ≡ true) ↔ (kind_in (table_at_rest p member names) owner ≡ Some Settled)
  holds_exactly =
      elim (below-cases member owner) [
        | inl same ↦ itself_exactly same
        | inr (inl below) ↦ held_exactly (λ same. below-itself owner (subst (λ m. IsBelow m owner) same below))
        | inr (inr above) ↦ held_exactly (λ same. below-itself owner (subst (λ m. IsBelow owner m) same above))
      ]

  -- so a member is a holder that is on exactly where its table has the owner
  pub on_at_rest : Among member names
      → (is_on (record { table = table_at_rest p owner names; holders = holders_at_rest p owner names names }) member ≡ true)
      ↔ (kind_in (table_at_rest p member names) owner ≡ Some Settled)
  on_at_rest among =
      let holding = filter (holds p owner names) names in
      let ties : TiesValue = record { table = table_at_rest p owner names; holders = holders_at_rest p owner names names } in
      let are = AreTies-at_rest p owner names limits is_owner are_names ascending in
      let on_is = on_exactly ties are member in
      let same : on (map word_of holding) ≡ holding = on_words holding in
      let Is : List (List ℕ) → Type 0 = Among member in (
        λ says. holds_exactly.0 (among-filter (holds p owner names) names member (subst Is same (on_is.1 says))).1,
        λ settled.
            on_is.0 (subst Is (sym same) (among-filter_from (holds p owner names) names member among (holds_exactly.1 settled))),
      )

-- the names of the members in their order are names, and ascend
pub names_over : (p : SettingsValue) (members names : List (List ℕ)) → names ≡ sorted members → All (IsName p) members
    → All (IsName p) names
names_over p members names sorted_are all =
    rw sorted_are (All-permutation (IsName p) members (sorted members) (sorted-permutation members) all)

pub ascending_over : (members names : List (List ℕ)) → names ≡ sorted members → AreDistinct members → AreAscending names
ascending_over members names sorted_are distinct = rw sorted_are (sorted-ascending members distinct)

-- and each member is one of them
pub contains_over : (members names : List (List ℕ)) (member : List ℕ) → names ≡ sorted members → Contains members member
    → Contains names member
contains_over members names member sorted_are contains =
    let among = (among-sorted members member).0 (among-from_Contains members member contains) in
    rw sorted_are (Contains-from_among (sorted members) member among)

-- a table and holders that were made over the members in their order
pub record RestOver (p : SettingsValue) (owner : List ℕ) (members names : List (List ℕ)) (table : TableValue)
    (holders : List (Entry (List ℕ) Bool)) : Type 0 where
  pub sorted_are : names ≡ sorted members
  pub distinct : AreDistinct members
  pub are_names : All (IsName p) members
  pub has_owner : Contains members owner
  pub table_is : table ≡ table_at_rest p owner names
  pub valid : IsTable table
  pub holders_are : holders ≡ holders_at_rest p owner names names

module _ {p : SettingsValue} {owner : List ℕ} {members names : List (List ℕ)} {table : TableValue}
    {holders : List (Entry (List ℕ) Bool)} (over : RestOver p owner members names table holders) where
  abbrev made : TiesValue
  made = record { table = table; holders = holders }

  pub rest_over : AreAtRest p owner members made
  rest_over =
      let same : IsPermutation members names = rw over.sorted_are (sorted-permutation members) in
      record {
        table = record {
          names = names;
          same = same;
          ascending = ascending_over members names over.sorted_are over.distinct;
          is = over.table_is;
        };
        holders = over.holders_are;
      }

  pub ties_over : made ≡ ties_at_rest p owner members
  ties_over = ties_are_at_rest p owner members made rest_over

  made_is : made ≡ record { table = table_at_rest p owner names; holders = holders_at_rest p owner names names }
  made_is =
      let with_table : TableValue → TiesValue = λ t. record { table = t; holders = holders } in
      let with_holders : List (Entry (List ℕ) Bool) → TiesValue = λ h. record { table = table_at_rest p owner names; holders = h } in
      ap with_table over.table_is ∙ ap with_holders over.holders_are

  pub valid_over : AreTies made
  valid_over =
      let (at, within, is) = over.has_owner in
      let is_owner : IsName p owner = subst (IsName p) is (over.are_names at owner within) in
      let limits : AreWithinLimits p = rw over.table_is at over.valid.limits in
      subst AreTies (sym made_is)
      (AreTies-at_rest p owner names limits is_owner (names_over p members names over.sorted_are over.are_names)
      (ascending_over members names over.sorted_are over.distinct))
