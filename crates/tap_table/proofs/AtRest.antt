-- What tables and ties at rest keep.
-- Cited above: All-filtered, AreTies-at_rest, links_at_rest
use Rattle.std.proofs.Common.{◌≡◌, ◌≢◌, ℕ, ◌*◌, ◌<◌, ◌≤◌, true, false, Bool, None, Some, List, [], ◌∷◌, get_or, map, filter, All, AllPairs, arith, ap, sym, refl, ◌∙◌, inl, inr}
use Rattle.std.proofs.lemmas.Bool.{cases_Bool, cases_lt}
use Rattle.std.proofs.lemmas.List.{get_or-map, get_or_past, length-map, length-take}
use Rattle.std.proofs.lemmas.List.Elements.{All-cons, All-filter, All-head, All-map, All-nil, All-tail, All-take}
use Rattle.std.proofs.lemmas.List.FromFn.{get_or-map-range_with_len, length-map-range_with_len}
use Rattle.std.proofs.lemmas.List.Kept.{AllPairs-filter}
use Rattle.std.proofs.lemmas.Nat.{div-add-mod'}
use Rattle.tap_name.specs.Name.{IsName}
use Rattle.tap_name.specs.Settings.{AreWithinLimits, SettingsValue}
use Rattle.tap_name.specs.Slot.{slot_at}
use Rattle.tap_link.specs.declared.kind.Kind.TheVariants.{Settled}
use Rattle.tap_link.specs.LinkSet.{IsLinkSet}
use Rattle.tap_table.specs.Members.{IsBelow, first_fitting, fitting, holders_at_rest, holds, is_slot, settled_links, table_at_rest}
use Rattle.tap_table.specs.Table.{IsTable, StandsIn, TableValue, name_cmp, place_of, slot_number, slot_numbered}
use Rattle.tap_table.specs.Ties.{AreTies}
use Rattle.tap_table.proofs.Fitting.{no_slot_of_itself, slot_of_other}
use Rattle.tap_table.proofs.SettledOn.{all_settled}
use Rattle.tap_table.proofs.Holding.{not_held_by_itself, word_of}
use Rattle.tap_table.proofs.Least.{AllPairs-take, is_slot-to}

-- what ascends as names does so as targets of links and as keys of words
pub AllPairs-of_map : {X : Type 0} (R : List ℕ → List ℕ → Type 0) (f : List ℕ → X) (g : X → List ℕ)
    → ((name : List ℕ) → g (f name) ≡ name) → (names : List (List ℕ)) → AllPairs R names
    → AllPairs (λ x y. R (g x) (g y)) (map f names)
AllPairs-of_map R f g back names pairs i j d before within =
    let len = length-map names f in
    let name : List ℕ = g d in
    let at_i = get_or-map f names i name d (omega arith) in
    let at_j = get_or-map f names j name d (omega arith) in
    rw (at_i, at_j, back (get_or names i name), back (get_or names j name)) (pairs i j name before (omega arith))

-- what passes a test has what passing it gives
pub All-filtered : {X : Type 0} (test : X → Bool) (P Q : X → Type 0) (xs : List X) → All P xs → ((x : X) → P x → test x ≡ true → Q x)
    → All Q (filter test xs)
All-filtered test P Q [] all gives = All-nil Q
All-filtered test P Q (x ∷ xs) all gives =
    let rest = All-filtered test P Q xs (All-tail P x xs all) gives in
    elim (cases_Bool (test x)) [
      | inl passes ↦ rw passes (All-cons Q x (filter test xs) (gives x (All-head P x xs all) passes) rest)
      | inr fails ↦ rw fails rest
    ]

-- the links of a slot at rest, by its number
pub links_at_rest : (p : SettingsValue) (owner : List ℕ) (names : List (List ℕ)) (number : ℕ) → number < p.base * p.digits
    → get_or (table_at_rest p owner names).slots number []
    ≡ settled_links (first_fitting p owner (slot_numbered p.base number) names)
links_at_rest p owner names number inside =
    get_or-map-range_with_len (λ n. settled_links (first_fitting p owner (slot_numbered p.base n) names)) 0 (p.base * p.digits) number
    number [] inside (omega arith)

module _ (p : SettingsValue) (owner : List ℕ) (names : List (List ℕ)) (limits : AreWithinLimits p) (is_owner : IsName p owner)
    (are_names : All (IsName p) names) (ascending : AllPairs IsBelow names) where
  abbrev targets : ℕ → List (List ℕ)
  targets number = first_fitting p owner (slot_numbered p.base number) names

  abbrev rest : TableValue
  rest = table_at_rest p owner names

  no_links : (number : ℕ) → p.base * p.digits ≤ number → get_or rest.slots number [] ≡ []
  no_links number past =
      get_or_past rest.slots number []
      (omega (arith, length-map-range_with_len (λ n. settled_links (targets n)) 0 (p.base * p.digits)))

  set_is : (number : ℕ) → IsLinkSet name_cmp (record { width = p.width; links = settled_links (targets number) })
  set_is number =
      let fitting_names = fitting owner (slot_numbered p.base number) names in
      let test : List ℕ → Bool = λ name. is_slot (slot_numbered p.base number) (slot_at owner name) in
      let pairs = AllPairs-take IsBelow p.width fitting_names (AllPairs-filter IsBelow test names ascending) in
      let few = length-take p.width fitting_names in
      let count = all_settled (targets number) in
      record {
        ascending = AllPairs-of_map IsBelow (λ target. record { target = target; kind = Settled }) (λ e. e.target) (λ name. refl)
            (targets number) pairs;
        within_width = omega arith;
      }

  stands : (number : ℕ) (name : List ℕ) → IsName p name → is_slot (slot_numbered p.base number) (slot_at owner name) ≡ true
      → StandsIn p owner number name
  stands number name is_name fits =
      let slot = slot_numbered p.base number in
      let is = is_slot-to slot (slot_at owner name) fits in
      let other : name ≢ owner = λ same.
      let wrong : None ≡ Some slot = sym (no_slot_of_itself owner) ∙ ap (slot_at owner) (sym same) ∙ is in cc in
      let both : Some (place_of owner name) ≡ Some slot = sym (slot_of_other p owner name is_owner is_name other) ∙ is in
      let place : place_of owner name ≡ slot = cc in
      record { is_name = is_name; place = ap (slot_number p.base) place ∙ div-add-mod' number p.base }

  standing : (number : ℕ) → All (λ e. StandsIn p owner number e.target) (settled_links (targets number))
  standing number =
      let slot = slot_numbered p.base number in
      let Stands : List ℕ → Type 0 = StandsIn p owner number in
      All-map (λ e. StandsIn p owner number e.target) (λ target. record { target = target; kind = Settled }) (targets number)
      (All-take Stands p.width (fitting owner slot names)
      (All-filtered (λ name. is_slot slot (slot_at owner name)) (IsName p) Stands names are_names (stands number)))

  pub IsTable-at_rest : IsTable rest
  IsTable-at_rest =
      record {
        limits = limits;
        owner = is_owner;
        count = length-map-range_with_len (λ n. settled_links (targets n)) 0 (p.base * p.digits);
        standing = λ number. elim (cases_lt number (p.base * p.digits)) [
          | inl inside ↦ rw (links_at_rest p owner names number inside) (standing number)
          | inr past ↦ rw (no_links number past) (λ k d within. absurd (omega arith))
        ];
        sets = λ number. elim (cases_lt number (p.base * p.digits)) [
          | inl inside ↦ rw (links_at_rest p owner names number inside) (set_is number)
          | inr past ↦ rw (no_links number past) (record {
            ascending = λ i j d before within. absurd (omega arith);
            within_width = omega arith;
          })
        ];
      }

  pub AreTies-at_rest : AreTies (record { table = rest; holders = holders_at_rest p owner names names })
  AreTies-at_rest =
      let holding = filter (holds p owner names) names in
      record {
        table = IsTable-at_rest;
        ascending = AllPairs-of_map IsBelow word_of (λ e. e.key) (λ name. refl) holding
            (AllPairs-filter IsBelow (holds p owner names) names ascending);
        names = All-map (λ e. IsName p e.key) word_of holding (All-filter (holds p owner names) (IsName p) names are_names);
        others = All-map (λ e. e.key ≢ owner) word_of holding
            (All-filtered (holds p owner names) (IsName p) (λ name. name ≢ owner) names are_names
            (λ name is_name held same.
            let wrong : true ≡ false = sym held ∙ ap (holds p owner names) same ∙ not_held_by_itself p owner names in cc));
      }
